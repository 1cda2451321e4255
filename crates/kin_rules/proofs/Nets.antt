-- Both ends of each edge that a rule sees are vertices.
use mathlib.Core.List.{map-map}
use Rattle.std.proofs.Common.{◌≡◌, ◌||◌, ◌&&◌, ◌∙◌, ◌⊎◌, inl, inr, Bool, true, false, List, [], ◌∷◌, refl, ap, cond, map, filter}
use Rattle.std.specs.List.{list_any}
use Rattle.std.proofs.lemmas.Bool.{or_cases, or_left, or_right}
use Rattle.std.proofs.Math.Bool.{or-true}
use Rattle.std.proofs.lemmas.List.Folds.{list_any-append}
use Rattle.kin_ids.specs.declared.ids.User.{User}
use Rattle.kin_ids.specs.declared.ops.Half.{Half}
use Rattle.kin_ids.specs.Users.{same_user, has_user}
use Rattle.kin_ids.specs.Graph.{Graph, Edge, Mention, half_out, distinct, vertices}
use Rattle.kin_ids.proofs.Vertices.{has-distinct_onto}
use Rattle.kin_rules.specs.declared.kinds.EdgeKind.TheVariants as kind
use Rattle.kin_rules.specs.Nets.{EdgesAreSeen, NetsAreWhole}

-- users each once are the same users
has-distinct : (us : List User) (x : User) → has_user (distinct us) x ≡ has_user us x
has-distinct us x = has-distinct_onto [] us x

-- both ends of a link among those out of w
ends-among : {X : Type 0} (start end : X → User) (w u : User) (xs : List X) → has_user (map end (filter (λ x. same_user w (start x)) xs)) u ≡ true
    → (has_user (map start xs) w ≡ true) × (has_user (map end xs) u ≡ true)
ends-among start end w u [] h = absurd cc
ends-among start end w u (x ∷ xs) h = here (same_user w (start x)) refl h (ends-among start end w u xs)
  where
    more : (has_user (map start xs) w ≡ true) × (has_user (map end xs) u ≡ true) → (has_user (map start (x ∷ xs)) w ≡ true) × (has_user (map end (x ∷ xs)) u ≡ true)
    more k = (or_right (same_user w (start x)) (has_user (map start xs) w) k.0, or_right (same_user u (end x)) (has_user (map end xs) u) k.1)

    here : (b : Bool) → same_user w (start x) ≡ b → has_user (map end (cond b (x ∷ filter (λ y. same_user w (start y)) xs) (filter (λ y. same_user w (start y)) xs))) u ≡ true
        → (has_user (map end (filter (λ y. same_user w (start y)) xs)) u ≡ true → (has_user (map start xs) w ≡ true) × (has_user (map end xs) u ≡ true))
        → (has_user (map start (x ∷ xs)) w ≡ true) × (has_user (map end (x ∷ xs)) u ≡ true)
    here false q h old = more (old h)
    here true q h old = this (or_cases (same_user u (end x)) (has_user (map end (filter (λ y. same_user w (start y)) xs)) u) h)
      where
        this : (same_user u (end x) ≡ true) ⊎ (has_user (map end (filter (λ y. same_user w (start y)) xs)) u ≡ true) → (has_user (map start (x ∷ xs)) w ≡ true) × (has_user (map end (x ∷ xs)) u ≡ true)
        this (inl k) = (or_left (same_user w (start x)) (has_user (map start xs) w) q, or_left (same_user u (end x)) (has_user (map end xs) u) k)
        this (inr k) = more (old k)

-- there is an end u out of w where a link has both
has-ends : {X : Type 0} (start end : X → User) (w u : User) (xs : List X) → has_user (map end (filter (λ x. same_user w (start x)) xs)) u ≡ list_any (λ x. same_user w (start x) && same_user u (end x)) xs
has-ends start end w u [] = refl
has-ends start end w u (x ∷ xs) = here (same_user w (start x)) (has-ends start end w u xs)
  where
    here : (b : Bool) → has_user (map end (filter (λ y. same_user w (start y)) xs)) u ≡ list_any (λ y. same_user w (start y) && same_user u (end y)) xs
        → has_user (map end (cond b (x ∷ filter (λ y. same_user w (start y)) xs) (filter (λ y. same_user w (start y)) xs))) u ≡ ((b && same_user u (end x)) || list_any (λ y. same_user w (start y) && same_user u (end y)) xs)
    here true e = ap (λ (r : Bool). same_user u (end x) || r) e
    here false e = e

pub edges-seen : EdgesAreSeen
edges-seen g w u =
    (rw (map-map (λ (h : Half). h.other) half_out) (has-ends (λ (e : Edge). e.start) (λ (e : Edge). e.end) w u g.edges), has-ends (λ (m : Mention). m.start) (λ (m : Mention). m.end) w u g.mentions)

-- the vertices are the users in edges, mentions and uses
pub has-vertices : (g : Graph) (x : User) → has_user (vertices g) x
    ≡ (((has_user (map (λ e. e.start) g.edges) x || has_user (map (λ e. e.end) g.edges) x)
    || (has_user (map (λ m. m.start) g.mentions) x || has_user (map (λ m. m.end) g.mentions) x)) || has_user (map (λ t. t.user) g.uses) x)
has-vertices g x = rw has-distinct (simp list_any-append)

pub nets-whole : NetsAreWhole
nets-whole r g kind.Follow w u h =
    let k = ends-among (λ (e : Edge). e.start) (λ (e : Edge). e.end) w u g.edges (rw (map-map (λ (h : Half). h.other) half_out) at h) in
    (has-vertices g w ∙ rw k.0 refl, has-vertices g u ∙ simp (k.1, or-true))
nets-whole r g kind.Mention w u h =
    let k = ends-among (λ (m : Mention). m.start) (λ (m : Mention). m.end) w u g.mentions h in
    (has-vertices g w ∙ simp (k.0, or-true), has-vertices g u ∙ simp (k.1, or-true))
