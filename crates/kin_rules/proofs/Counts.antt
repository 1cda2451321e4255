-- Who follows a user, and the ends of edges.
use Rattle.std.proofs.Common.{◌≡◌, ◌||◌, ◌&&◌, Bool, true, false, List, [], ◌∷◌, cond, filter, map, refl, ap}
use Rattle.std.specs.List.{list_any}
use Rattle.std.proofs.Math.Bool.{and-true, and-false}
use Rattle.kin_ids.specs.declared.ids.User.{User}
use Rattle.kin_ids.specs.declared.ops.Half.{Half}
use Rattle.kin_ids.specs.Users.{same_user, has_user}
use Rattle.kin_ids.specs.Graph.{Edge, half_in, is_edge}
use Rattle.kin_rules.specs.Counts.{FollowersArePresent}

-- the present halves into x
abbrev into : User → List Edge → List Half
into x es = filter (λ (h : Half). h.present) (map half_in (filter (λ e. same_user x e.end) es))

into-present : (x y : User) (es : List Edge) → has_user (map (λ (h : Half). h.other) (into x es)) y ≡ list_any (λ e. is_edge y x e && e.present) es
into-present x y [] = refl
into-present x y (e ∷ es) = here (same_user x e.end) (into-present x y es)
  where
    kept : (b : Bool) → has_user (map (λ (h : Half). h.other) (into x es)) y ≡ list_any (λ d. is_edge y x d && d.present) es
        → has_user (map (λ (h : Half). h.other) (cond b (half_in e ∷ into x es) (into x es))) y ≡ (((same_user y e.start && true) && b) || list_any (λ d. is_edge y x d && d.present) es)
    kept true old = rw (and-true (same_user y e.start), and-true (same_user y e.start)) (ap (λ (r : Bool). same_user y e.start || r) old)
    kept false old = rw (and-false (same_user y e.start && true)) old

    here : (b : Bool) → has_user (map (λ (h : Half). h.other) (into x es)) y ≡ list_any (λ d. is_edge y x d && d.present) es
        → has_user (map (λ (h : Half). h.other) (filter (λ (h : Half). h.present) (map half_in (cond b (e ∷ filter (λ d. same_user x d.end) es) (filter (λ d. same_user x d.end) es))))) y
        ≡ (((same_user y e.start && b) && e.present) || list_any (λ d. is_edge y x d && d.present) es)
    here true old = kept e.present old
    here false old = rw (and-false (same_user y e.start)) old

pub followers-present : FollowersArePresent
followers-present g u w = into-present u w g.edges
