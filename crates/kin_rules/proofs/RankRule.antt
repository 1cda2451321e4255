-- The layers of rank as a rule of layers.
use Rattle.std.proofs.Common.{◌≡◌, ◌^◌, min, ℕ, zero, suc, List, [], ◌∷◌, refl, ap, arith}
use Rattle.std.specs.List.{sum_by}
use Rattle.std.proofs.lemmas.List.Sums.{sum_by-cons}
use Rattle.kin_ids.specs.declared.ids.User.{User}
use Rattle.kin_ids.specs.Graph.{Graph}
use Rattle.kin_rules.specs.Counts.{followers}
use Rattle.kin_rules.specs.Layers.{inputs_of, facts_of, layer_of}
use Rattle.kin_rules.specs.Ranks.{share, rank_at}
use Rattle.kin_rules.specs.RankRule.{share_of, rank_rule, RanksAreLayers}

sums : (g : Graph) (f h : User → ℕ) (ys : List User) → ((y : User) → f y ≡ h y) → sum_by share_of (inputs_of (facts_of g) f ys) ≡ sum_by (λ y. share g y (h y)) ys
sums g f h [] same = refl
sums g f h (y ∷ ys) same =
    let old = sums g f h ys same in
    let one : share g y (f y) ≡ share g y (h y) = ap (share g y) (same y) in
    let a = sum_by-cons share_of (record { facts = facts_of g y; value = f y }) (inputs_of (facts_of g) f ys) in
    let b = sum_by-cons (λ z. share g z (h z)) y ys in
    omega (arith, old, one, a, b)

pub ranks-are-layers : RanksAreLayers
ranks-are-layers g zero x = refl
ranks-are-layers g (suc r) x = ap (min (10 ^ 15)) (sums g (layer_of rank_rule g r) (rank_at g r) (followers g x) (ranks-are-layers g r))
