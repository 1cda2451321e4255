-- The edges of views, and those that deltas add.
use Rattle.std.proofs.Common.{◌≡◌, ◌==◌, ◌||◌, ◌&&◌, ◌∙◌, ◌⊎◌, inl, inr, ℕ, suc, Bool, true, false, not, List, [], ◌∷◌, is_some, length}
use Rattle.std.proofs.Common.{map, refl, sym, ap, arith}
use Rattle.std.specs.List.{list_any}
use Rattle.std.proofs.lemmas.Bool.{or_cases, or_right, and_parts}
use Rattle.std.proofs.lemmas.Bool.Decides.{nat_tests}
use Rattle.kin_ids.specs.declared.ids.User.{User}
use Rattle.kin_ids.specs.declared.ops.Half.{Half}
use Rattle.kin_ids.specs.Users.{same_user, has_user}
use Rattle.kin_ids.specs.Parts.{PartView}
use Rattle.kin_ids.proofs.Same.{same_user-refl}
use Rattle.kin_ids.proofs.Vertices.{any-map}
use Rattle.kin_store.specs.declared.pairs.Pair.{Pair}
use Rattle.kin_store.specs.Lists.{half_key, half_to}
use Rattle.kin_store.specs.Rows.{is_none}
use Rattle.kin_graph.specs.Deltas.{DeltaLists}
use Rattle.kin_graph.specs.Views.{is_vertex, AreVertices}
use Rattle.kin_graph.proofs.Picking.{any-find}
use Rattle.kin_changes.specs.Told.{adds_follow, adds_mention, is_of, is_to, EdgesLaw}
use Rattle.kin_changes.specs.Views.{AreLed, IsWholeView}
use Rattle.kin_rules.specs.declared.kinds.EdgeKind.{EdgeKind}
use Rattle.kin_rules.specs.declared.kinds.EdgeKind.TheVariants as kind
use Rattle.kin_rules.specs.Walks.{Rule, IsWhole}
use Rattle.kin_push.specs.States.{ends_in, net_in}
use Rattle.kin_push.specs.Begins.{adds_of}

-- who stands at the other end of a half
pub half-member : (hs : List Half) (w : User) → has_user (map half_key hs) w ≡ is_some (half_to hs w)
half-member hs w = sym (any-map half_key hs w) ∙ any-find (λ (h : Half). same_user w h.other) hs

some-length : (n : ℕ) → (suc n == 0) ≡ false
some-length n = grind (arith, nat_tests)

-- a list in which one passes has one
pub any-some : {X : Type 0} (p : X → Bool) (xs : List X) → list_any p xs ≡ true → is_none xs ≡ false
any-some p [] h = absurd cc
any-some p (x ∷ xs) h = some-length (length xs)

pub any-half : (hs : List Half) (w : User) → has_user (map half_key hs) w ≡ true → is_none hs ≡ false
any-half hs w h = any-some (λ (x : Half). same_user w x.other) hs (any-map half_key hs w ∙ h)

-- whoever has something of the four kinds is a vertex
module _ (v : PartView) (u : User) where
  first : (a b : Bool) → a ≡ false → (a && b) ≡ false
  first a b h = rw h refl

  second : (a b : Bool) → b ≡ false → (a && b) ≡ false
  second true b h = h
  second false b h = refl

  pub out-vertex : is_none (v.out u) ≡ false → is_vertex v u ≡ true
  out-vertex h = ap not (first _ _ (first _ _ (first _ _ h)))

  pub in-vertex : is_none (v.inn u) ≡ false → is_vertex v u ≡ true
  in-vertex h = ap not (first _ _ (first _ _ (second (is_none (v.out u)) _ h)))

  pub mentions-vertex : is_none (v.mentions u) ≡ false → is_vertex v u ≡ true
  mentions-vertex h = ap not (first _ _ (second (is_none (v.out u) && is_none (v.inn u)) _ (first _ _ h)))

  pub mentioners-vertex : is_none (v.mentioners u) ≡ false → is_vertex v u ≡ true
  mentioners-vertex h = ap not (first _ _ (second (is_none (v.out u) && is_none (v.inn u)) _ (second (is_none (v.mentions u)) _ h)))

-- both ends of an edge of a whole view are vertices
pub view-whole : (r : Rule) (v : PartView) (us : List User) → IsWholeView v → AreVertices v us → IsWhole (net_in r v us)
view-whole r v us whole are kind.Follow w u edge =
    let back : has_user (map half_key (v.inn u)) w ≡ true = half-member (v.inn u) w ∙ sym (whole.follows w u)
    ∙ sym (half-member (v.out w) u) ∙ edge in
    (are.all w ∙ out-vertex v w (any-half (v.out w) u edge), are.all u ∙ in-vertex v u (any-half (v.inn u) w back))
view-whole r v us whole are kind.Mention w u edge =
    let back : has_user (v.mentioners u) w ≡ true = sym (whole.mentioned w u) ∙ edge in (
      are.all w ∙ mentions-vertex v w (any-some (same_user u) (v.mentions w) edge),
      are.all u
          ∙ mentioners-vertex v u (any-some (same_user w) (v.mentioners u) back),
    )

-- whether an edge of a kind was added for the first time
abbrev pub adds : List DeltaLists → EdgeKind → User → User → Bool
adds ds kind.Follow w u = adds_follow ds w u
adds ds kind.Mention w u = adds_mention ds w u

pub edge-led : EdgesLaw → (was is : PartView) (ds : List DeltaLists) → AreLed was is ds → (k : EdgeKind) (w u : User)
    → has_user (ends_in is k w) u ≡ (has_user (ends_in was k w) u || adds ds k w u)
edge-led law was is ds led kind.Follow w u = half-member (is.out w) u ∙ (law was is ds led w u).0
    ∙ ap (λ (b : Bool). b || adds_follow ds w u) (sym (half-member (was.out w) u))
edge-led law was is ds led kind.Mention w u = (law was is ds led w u).1

-- an edge that was added has its start, and a start an edge
pub any-more : {X : Type 0} (p q : X → Bool) → ((x : X) → p x ≡ true → q x ≡ true) → (xs : List X) → list_any p xs ≡ true
    → list_any q xs ≡ true
any-more p q up [] h = absurd cc
any-more p q up (x ∷ xs) h = here (or_cases (p x) (list_any p xs) h) (any-more p q up xs)
  where
    here : (p x ≡ true) ⊎ (list_any p xs ≡ true) → (list_any p xs ≡ true → list_any q xs ≡ true) → (q x || list_any q xs) ≡ true
    here (inl k) more = rw (up x k) refl
    here (inr k) more = or_right (q x) (list_any q xs) (more k)

any-found : {X : Type 0} (p : X → Bool) (xs : List X) → list_any p xs ≡ true → (x : X) × (p x ≡ true)
    × ((q : X → Bool) → q x ≡ true → list_any q xs ≡ true)
any-found p [] h = absurd cc
any-found {X} p (x ∷ xs) h = here (or_cases (p x) (list_any p xs) h) (any-found p xs)
  where
    here : (p x ≡ true) ⊎ (list_any p xs ≡ true) → (list_any p xs ≡ true → (y : X) × (p y ≡ true)
        × ((q : X → Bool) → q y ≡ true → list_any q xs ≡ true)) → (y : X) × (p y ≡ true)
        × ((q : X → Bool) → q y ≡ true → (q x || list_any q xs) ≡ true)
    here (inl k) more = (x, k, λ q on. rw on refl)
    here (inr k) more = let m = more k in (m.0, m.1, λ q on. or_right (q x) (list_any q xs) (m.2 q on))

-- the same over any list of pairs of deltas
start-of : (lists : DeltaLists → List Pair) (ds : List DeltaLists) (w u : User)
    → list_any (λ (d : DeltaLists). list_any (is_to w u) (lists d)) ds ≡ true
    → list_any (λ (d : DeltaLists). list_any (is_of w) (lists d)) ds ≡ true
start-of lists ds w u h =
    any-more (λ (d : DeltaLists). list_any (is_to w u) (lists d)) (λ (d : DeltaLists). list_any (is_of w) (lists d))
    (λ d. any-more (is_to w u) (is_of w) (λ p on. (and_parts (same_user w p.user) (same_user u p.other) on).0) (lists d)) ds h

end-of : (lists : DeltaLists → List Pair) (ds : List DeltaLists) (w : User)
    → list_any (λ (d : DeltaLists). list_any (is_of w) (lists d)) ds ≡ true → (u : User)
    × (list_any (λ (d : DeltaLists). list_any (is_to w u) (lists d)) ds ≡ true)
end-of lists ds w h =
    let d = any-found (λ (d : DeltaLists). list_any (is_of w) (lists d)) ds h in
    let p = any-found (is_of w) (lists d.0) d.1 in (
      p.0.other,
      d.2 (λ (e : DeltaLists). list_any (is_to w p.0.other) (lists e))
          (p.2 (is_to w p.0.other) (rw (p.1, same_user-refl p.0.other) refl)),
    )

pub adds-start : (ds : List DeltaLists) (k : EdgeKind) (w u : User) → adds ds k w u ≡ true → adds_of ds k w ≡ true
adds-start ds kind.Follow w u h = start-of (λ (d : DeltaLists). d.new_out) ds w u h
adds-start ds kind.Mention w u h = start-of (λ (d : DeltaLists). d.mention_out) ds w u h

pub start-adds : (ds : List DeltaLists) (k : EdgeKind) (w : User) → adds_of ds k w ≡ true → (u : User) × (adds ds k w u ≡ true)
start-adds ds kind.Follow w h = end-of (λ (d : DeltaLists). d.new_out) ds w h
start-adds ds kind.Mention w h = end-of (λ (d : DeltaLists). d.mention_out) ds w h
