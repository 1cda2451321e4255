-- Ranks are capped, and followers follow somebody.
use Rattle.std.proofs.Common.{◌≡◌, ◌≤◌, ◌<◌, ◌+◌, ◌&&◌, ◌∙◌, sym, ◌^◌, ◌⊎◌, inl, inr, ℕ, zero, suc, min, Bool, true, false, List, [], ◌∷◌, cond, filter, map, arith}
use Rattle.std.specs.List.{list_any, sum_by, count_by}
use Rattle.std.proofs.lemmas.Bool.{or_cases, and_parts}
use Rattle.std.proofs.lemmas.List.Sums.{sum_by-cons}
use Rattle.kin_ids.specs.declared.ids.User.{User}
use Rattle.kin_ids.specs.declared.ops.Half.{Half}
use Rattle.kin_ids.specs.Users.{same_user}
use Rattle.kin_ids.specs.Graph.{Edge, half_out, is_edge}
use Rattle.kin_rules.specs.Counts.{followers}
use Rattle.kin_rules.proofs.Counts.{followers-present}
use Rattle.kin_rules.specs.Ranks.{share, rank_at, RanksAreCapped, FollowersFollow}

min-first : (a b : ℕ) → min a b ≤ a
min-first a b = omega arith

pub ranks-capped : RanksAreCapped
ranks-capped g zero x = omega arith
ranks-capped g (suc r) x = min-first (10 ^ 15) (sum_by (λ y. share g y (rank_at g r y)) (followers g x))

-- the present edges out of y, edge by edge
abbrev counted : User → List Edge → ℕ
counted y es = count_by (λ (h : Half). h.present) (map half_out (filter (λ e. same_user y e.start) es))

counted-cons : (y : User) (e : Edge) (es : List Edge) → counted y (e ∷ es) ≡ cond (same_user y e.start) (cond e.present 1 0) 0 + counted y es
counted-cons y e es = here (same_user y e.start)
  where
    here : (b : Bool) → count_by (λ (h : Half). h.present) (map half_out (cond b (e ∷ filter (λ x. same_user y x.start) es) (filter (λ x. same_user y x.start) es))) ≡ cond b (cond e.present 1 0) 0 + counted y es
    here true = sum_by-cons (λ (h : Half). cond h.present 1 0) (half_out e) (map half_out (filter (λ x. same_user y x.start) es))
    here false = omega arith

present-counts : (x y : User) (es : List Edge) → list_any (λ e. is_edge y x e && e.present) es ≡ true → 0 < counted y es
present-counts x y [] h = absurd cc
present-counts x y (e ∷ es) h = rw (counted-cons y e es) (here (or_cases (is_edge y x e && e.present) (list_any (λ d. is_edge y x d && d.present) es) h) (present-counts x y es))
  where
    here : ((is_edge y x e && e.present) ≡ true) ⊎ (list_any (λ d. is_edge y x d && d.present) es ≡ true) → (list_any (λ d. is_edge y x d && d.present) es ≡ true → 0 < counted y es)
        → 0 < cond (same_user y e.start) (cond e.present 1 0) 0 + counted y es
    here (inr k) old = omega (arith, old k)
    here (inl k) old =
        let parts = and_parts (is_edge y x e) e.present k in
        let ends = and_parts (same_user y e.start) (same_user x e.end) parts.0 in
        rw (ends.0, parts.1) (omega arith)

pub followers-follow : FollowersFollow
followers-follow g x y h = present-counts x y g.edges (sym (followers-present g x y) ∙ h)
