-- What follows and unfollows leave of the edges of a graph, over all records.
use Rattle.std.proofs.Common.{◌≡◌, Bool, true, false, cond, ◌&&◌, ◌||◌, List, [], ◌∷◌, ◌++◌, Option, Some, None, refl, sym, ◌∙◌, ap, subst, append_assoc}
use Rattle.std.specs.Prelude.{not, map}
use Rattle.std.specs.List.{list_any, list_all, find}
use Rattle.std.specs.Option.{unwrap_or, option_or, option_map}
use Rattle.std.proofs.lemmas.Bool.{cond_both, and_parts, and_from}
use Rattle.std.proofs.lemmas.List.{append-nil}
use Rattle.std.proofs.lemmas.List.Folds.{list_all-append}
use Rattle.kin_ids.specs.Types.{User, Place, Item, Record}
use Rattle.kin_ids.specs.declared.ops.Item.TheVariants as item
use Rattle.kin_ids.specs.declared.ops.Record.TheVariants as record_kind
use Rattle.kin_ids.specs.Users.{is_before, IsAscending}
use Rattle.kin_ids.specs.Graph.{Graph, Edge, empty_graph, applied, item_applied, items_applied, is_edge, with_follow, without_follow}
use Rattle.kin_ids.specs.Order.{Entry, folded}
use Rattle.kin_ids.specs.Follows.{is_present, was_added, added_at, word, is_follow, last_word, EdgeLaw, IsSound, ContinueLaw, AscendLaw}
use Rattle.kin_ids.proofs.Edges.{same_ends, is_here, any-with_follow, any-without_follow, here-with_follow, here-without_follow, place-with_follow, place-without_follow}
use Rattle.kin_ids.proofs.Once.{applied-sound, empty-sound}

or_false : (x : Bool) → x ≡ (x || false)
or_false true = refl
or_false false = refl

-- a tweet leaves the edges
pub items-edges : (u : User) (at : Place) (g : Graph) (xs : List Item) → (items_applied u at g xs).edges ≡ g.edges
items-edges u at g [] = refl
items-edges u at g (item.At w ∷ xs) = items-edges u at (item_applied u at g (item.At w)) xs
items-edges u at g (item.Hash t ∷ xs) = items-edges u at (item_applied u at g (item.Hash t)) xs

-- one record
one-present : (at : Place) (g : Graph) (r : Record) (u v : User) → IsSound g → is_present (applied at g r) u v ≡ unwrap_or (word u v r) (is_present g u v)
one-present at g (record_kind.Follow a b) u v s = here-with_follow u v a b at g.edges ∙ go (same_ends u v a b)
  where
    go : (t : Bool) → (t || is_present g u v) ≡ unwrap_or (cond t (Some true) None) (is_present g u v)
    go true = refl
    go false = refl
one-present at g (record_kind.Unfollow a b) u v s = here-without_follow u v a b g.edges s.edges ∙ go (same_ends u v a b)
  where
    go : (t : Bool) → (not t && is_present g u v) ≡ unwrap_or (cond t (Some false) None) (is_present g u v)
    go true = refl
    go false = refl
one-present at g (record_kind.Tweet a items) u v s = ap (list_any (is_here u v)) (items-edges a at g items)
one-present at g record_kind.Bad u v s = refl

one-added : (at : Place) (g : Graph) (r : Record) (u v : User) → was_added (applied at g r) u v ≡ (was_added g u v || is_follow u v r)
one-added at g (record_kind.Follow a b) u v = any-with_follow u v a b at g.edges ∙ go (same_ends u v a b)
  where
    go : (t : Bool) → (was_added g u v || t) ≡ (was_added g u v || unwrap_or (cond t (Some true) None) false)
    go true = refl
    go false = refl
one-added at g (record_kind.Unfollow a b) u v = any-without_follow u v a b g.edges ∙ go (same_ends u v a b) (was_added g u v)
  where
    go : (t x : Bool) → x ≡ (x || unwrap_or (cond t (Some false) None) false)
    go true true = refl
    go true false = refl
    go false true = refl
    go false false = refl
one-added at g (record_kind.Tweet a items) u v = ap (list_any (is_edge u v)) (items-edges a at g items) ∙ or_false (was_added g u v)
one-added at g record_kind.Bad u v = or_false (was_added g u v)

one-place : (at : Place) (g : Graph) (r : Record) (u v : User) → added_at (applied at g r) u v ≡ option_or (added_at g u v) (cond (is_follow u v r) (Some at) None)
one-place at g (record_kind.Follow a b) u v = place-with_follow u v a b at g.edges ∙ go (same_ends u v a b)
  where
    go : (t : Bool) → option_or (added_at g u v) (cond t (Some at) None) ≡ option_or (added_at g u v) (cond (unwrap_or (cond t (Some true) None) false) (Some at) None)
    go true = refl
    go false = refl
one-place at g (record_kind.Unfollow a b) u v = place-without_follow u v a b g.edges ∙ go (same_ends u v a b) (added_at g u v)
  where
    go : (t : Bool) (o : Option Place) → o ≡ option_or o (cond (unwrap_or (cond t (Some false) None) false) (Some at) None)
    go true None = refl
    go true (Some p) = refl
    go false None = refl
    go false (Some p) = refl
one-place at g (record_kind.Tweet a items) u v = ap (λ es. option_map (λ (e : Edge). e.added) (find (is_edge u v) es)) (items-edges a at g items) ∙ none (added_at g u v)
  where
    none : (o : Option Place) → o ≡ option_or o None
    none None = refl
    none (Some p) = refl
one-place at g record_kind.Bad u v = none (added_at g u v)
  where
    none : (o : Option Place) → o ≡ option_or o None
    none None = refl
    none (Some p) = refl

-- all records
pub continue-law : ContinueLaw
continue-law g [] u v s = record { present = refl; added = or_false (was_added g u v); place = none (added_at g u v) }
  where
    none : (o : Option Place) → o ≡ option_or o None
    none None = refl
    none (Some p) = refl
continue-law g (x ∷ xs) u v s =
    let ih = continue-law (applied x.place g x.content) xs u v (applied-sound x.place g x.content s) in
    record {
      present = ih.present ∙ (ap (unwrap_or (last_word u v xs)) (one-present x.place g x.content u v s) ∙ words (last_word u v xs) (word u v x.content));
      added = ih.added ∙ rw (one-added x.place g x.content u v) (either (was_added g u v) (is_follow u v x.content) (list_any (λ (y : Entry). is_follow u v y.content) xs));
      place = ih.place ∙ rw (one-place x.place g x.content u v) (places (added_at g u v) (is_follow u v x.content) (find (λ (y : Entry). is_follow u v y.content) xs));
    }
  where
    words : (o p : Option Bool) → unwrap_or o (unwrap_or p (is_present g u v)) ≡ unwrap_or (option_or o p) (is_present g u v)
    words None p = refl
    words (Some b) p = refl

    either : (a b c : Bool) → ((a || b) || c) ≡ (a || (b || c))
    either true b c = refl
    either false b c = refl

    places : (o : Option Place) (f : Bool) (q : Option Entry) → option_or (option_or o (cond f (Some x.place) None)) (option_map (λ (y : Entry). y.place) q) ≡ option_or o (option_map (λ (y : Entry). y.place) (cond f (Some x) q))
    places None true q = refl
    places None false q = refl
    places (Some p) f q = refl

pub edge-law : EdgeLaw
edge-law xs u v = let told = continue-law empty_graph xs u v empty-sound in record { present = told.present; added = told.added; place = told.place }

-- the places of edges
IsAscending-drop : (xs : List Place) (y : Place) (ys : List Place) → IsAscending (xs ++ y ∷ ys) → IsAscending (xs ++ ys)
IsAscending-drop [] y ys up = up.1
IsAscending-drop (x ∷ xs) y ys up =
    let all = and_parts _ _ (sym (list_all-append (is_before x) xs (y ∷ ys)) ∙ up.0) in
    (list_all-append (is_before x) xs ys ∙ and_from _ _ all.0 (and_parts (is_before x y) (list_all (is_before x) ys) all.1).1, IsAscending-drop xs y ys up.1)

places-with_follow : (u v : User) (at : Place) (es : List Edge) → map (λ (e : Edge). e.added) (with_follow u v at es) ≡ cond (list_any (is_edge u v) es) (map (λ (e : Edge). e.added) es) (map (λ (e : Edge). e.added) es ++ at ∷ [])
places-with_follow u v at [] = refl
places-with_follow u v at (e ∷ es) = go (is_edge u v e) (list_any (is_edge u v) es) (places-with_follow u v at es)
  where
    go : (t s : Bool) → map (λ (e : Edge). e.added) (with_follow u v at es) ≡ cond s (map (λ (e : Edge). e.added) es) (map (λ (e : Edge). e.added) es ++ at ∷ []) →
        map (λ (e : Edge). e.added) (cond t (record e { present = true } ∷ es) (e ∷ with_follow u v at es)) ≡ cond (t || s) (e.added ∷ map (λ (e : Edge). e.added) es) (e.added ∷ map (λ (e : Edge). e.added) es ++ at ∷ [])
    go true s ih = refl
    go false true ih = ap (λ ps. e.added ∷ ps) ih
    go false false ih = ap (λ ps. e.added ∷ ps) ih

places-without_follow : (u v : User) (es : List Edge) → map (λ (e : Edge). e.added) (without_follow u v es) ≡ map (λ (e : Edge). e.added) es
places-without_follow u v [] = refl
places-without_follow u v (e ∷ es) = cond_both (is_edge u v e) (record e { present = false } ∷ es) (e ∷ without_follow u v es) (λ xs. map (λ (d : Edge). d.added) xs ≡ map (λ (d : Edge). d.added) (e ∷ es))
    (λ _. refl) (λ _. ap (λ ps. e.added ∷ ps) (places-without_follow u v es))

one-ascends : (at : Place) (g : Graph) (r : Record) (ps : List Place) → IsAscending (map (λ (e : Edge). e.added) g.edges ++ at ∷ ps) → IsAscending (map (λ (e : Edge). e.added) (applied at g r).edges ++ ps)
one-ascends at g (record_kind.Follow u v) ps up = rw (places-with_follow u v at g.edges)
    (cond_both (list_any (is_edge u v) g.edges) (map (λ (e : Edge). e.added) g.edges) (map (λ (e : Edge). e.added) g.edges ++ at ∷ []) (λ qs. IsAscending (qs ++ ps))
    (λ _. IsAscending-drop (map (λ (e : Edge). e.added) g.edges) at ps up)
    (λ _. subst IsAscending (sym (append_assoc (map (λ (e : Edge). e.added) g.edges) (at ∷ []) ps)) up))
one-ascends at g (record_kind.Unfollow u v) ps up = rw (places-without_follow u v g.edges) (IsAscending-drop (map (λ (e : Edge). e.added) g.edges) at ps up)
one-ascends at g (record_kind.Tweet u items) ps up = rw (items-edges u at g items) (IsAscending-drop (map (λ (e : Edge). e.added) g.edges) at ps up)
one-ascends at g record_kind.Bad ps up = IsAscending-drop (map (λ (e : Edge). e.added) g.edges) at ps up

pub later-ascends : (g : Graph) (xs : List Entry) → IsAscending (map (λ (e : Edge). e.added) g.edges ++ map (λ (x : Entry). x.place) xs) → IsAscending (map (λ (e : Edge). e.added) (folded g xs).edges)
later-ascends g [] up = subst IsAscending (append-nil (map (λ (e : Edge). e.added) g.edges)) up
later-ascends g (x ∷ xs) up = later-ascends (applied x.place g x.content) xs (one-ascends x.place g x.content (map (λ (y : Entry). y.place) xs) up)

pub ascend-law : AscendLaw
ascend-law xs up = later-ascends empty_graph xs up
