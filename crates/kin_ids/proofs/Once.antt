-- Each edge, mention and first use stands once in the graph of any records.
use Rattle.std.proofs.Common.{◌≡◌, ℕ, Bool, true, false, ◌&&◌, List, [], ◌∷◌, ◌++◌, refl, ◌∙◌, ap₂}
use Rattle.std.specs.List.{list_any}
use Rattle.std.proofs.lemmas.Bool.{cond_both, or_parts}
use Rattle.std.proofs.lemmas.List.Folds.{list_any-append}
use Rattle.kin_ids.specs.Types.{User, Place, Item, Record}
use Rattle.kin_ids.specs.declared.ops.Item.TheVariants as item
use Rattle.kin_ids.specs.declared.ops.Record.TheVariants as record_kind
use Rattle.kin_ids.specs.Graph.{Graph, Edge, Mention, TagUse, empty_graph, applied, item_applied, items_applied, is_edge, is_mention, is_use, with_follow, without_follow, with_mention, with_use}
use Rattle.kin_ids.specs.Follows.{IsOnce, IsSound, SoundLaw}
use Rattle.kin_ids.proofs.Same.{same_user-sym, same_tag-sym, list_any-alike}
use Rattle.kin_ids.proofs.Edges.{IsOnceEdge, any-with_follow, any-without_follow}

-- one more element
pub IsOnce-push : {A : Type 0} (same : A → A → Bool) (xs : List A) (y : A) → list_any (λ x. same x y) xs ≡ false → IsOnce same xs → IsOnce same (xs ++ y ∷ [])
IsOnce-push same [] y none once = (refl, tt)
IsOnce-push same (x ∷ xs) y none once =
    let parts = or_parts (same x y) (list_any (λ z. same z y) xs) none in
    (list_any-append (same x) xs (y ∷ []) ∙ rw (once.0, parts.0) refl, IsOnce-push same xs y parts.1 once.1)

once-with_follow : (a b : User) (at : Place) (es : List Edge) → IsOnceEdge es → IsOnceEdge (with_follow a b at es)
once-with_follow a b at [] once = (refl, tt)
once-with_follow a b at (e ∷ es) once = cond_both (is_edge a b e) (record e { present = true } ∷ es) (e ∷ with_follow a b at es) IsOnceEdge (λ _. (once.0, once.1))
    (λ n. (any-with_follow e.start e.end a b at es ∙ rw (once.0, same_user-sym e.start a, same_user-sym e.end b) n, once-with_follow a b at es once.1))

once-without_follow : (a b : User) (es : List Edge) → IsOnceEdge es → IsOnceEdge (without_follow a b es)
once-without_follow a b [] once = tt
once-without_follow a b (e ∷ es) once = cond_both (is_edge a b e) (record e { present = false } ∷ es) (e ∷ without_follow a b es) IsOnceEdge (λ _. (once.0, once.1))
    (λ _. (any-without_follow e.start e.end a b es ∙ once.0, once-without_follow a b es once.1))

once-with_mention : (u w : User) (ms : List Mention) → IsOnce (λ (m : Mention). is_mention m.start m.end) ms → IsOnce (λ (m : Mention). is_mention m.start m.end) (with_mention u w ms)
once-with_mention u w ms once = cond_both (list_any (is_mention u w) ms) ms (ms ++ record { start = u; end = w } ∷ []) (IsOnce (λ (m : Mention). is_mention m.start m.end)) (λ _. once)
    (λ n. IsOnce-push (λ (m : Mention). is_mention m.start m.end) ms (record { start = u; end = w })
    (list_any-alike (λ (m : Mention). is_mention m.start m.end (record { start = u; end = w })) (is_mention u w) ms (λ m. ap₂ (λ (x y : Bool). x && y) (same_user-sym m.start u) (same_user-sym m.end w)) ∙ n) once)

once-with_use : (u : User) (t : List ℕ) (at : Place) (xs : List TagUse) → IsOnce (λ (x : TagUse). is_use x.user x.tag) xs → IsOnce (λ (x : TagUse). is_use x.user x.tag) (with_use u t at xs)
once-with_use u t at xs once = cond_both (list_any (is_use u t) xs) xs (xs ++ record { user = u; tag = t; first = at } ∷ []) (IsOnce (λ (x : TagUse). is_use x.user x.tag)) (λ _. once)
    (λ n. IsOnce-push (λ (x : TagUse). is_use x.user x.tag) xs (record { user = u; tag = t; first = at })
    (list_any-alike (λ (x : TagUse). is_use x.user x.tag (record { user = u; tag = t; first = at })) (is_use u t) xs (λ x. ap₂ (λ (a b : Bool). a && b) (same_user-sym x.user u) (same_tag-sym x.tag t)) ∙ n) once)

item-sound : (u : User) (at : Place) (g : Graph) (x : Item) → IsSound g → IsSound (item_applied u at g x)
item-sound u at g (item.At w) s = record { edges = s.edges; mentions = once-with_mention u w g.mentions s.mentions; uses = s.uses }
item-sound u at g (item.Hash t) s = record { edges = s.edges; mentions = s.mentions; uses = once-with_use u t at g.uses s.uses }

items-sound : (u : User) (at : Place) (g : Graph) (xs : List Item) → IsSound g → IsSound (items_applied u at g xs)
items-sound u at g [] s = s
items-sound u at g (x ∷ xs) s = items-sound u at (item_applied u at g x) xs (item-sound u at g x s)

pub applied-sound : (at : Place) (g : Graph) (r : Record) → IsSound g → IsSound (applied at g r)
applied-sound at g (record_kind.Follow u v) s = record { edges = once-with_follow u v at g.edges s.edges; mentions = s.mentions; uses = s.uses }
applied-sound at g (record_kind.Unfollow u v) s = record { edges = once-without_follow u v g.edges s.edges; mentions = s.mentions; uses = s.uses }
applied-sound at g (record_kind.Tweet u items) s = items-sound u at g items s
applied-sound at g record_kind.Bad s = s

pub folded-sound : SoundLaw
folded-sound g [] s = s
folded-sound g (x ∷ xs) s = folded-sound (applied x.place g x.content) xs (applied-sound x.place g x.content s)

pub empty-sound : IsSound empty_graph
empty-sound = record { edges = tt; mentions = tt; uses = tt }
