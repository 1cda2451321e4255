-- Rank is a rule of layers.
use Rattle.std.proofs.Common.{◌≡◌, ◌^◌, min, ℕ, List, [], ◌∷◌, refl, sym, ap, ap₂, arith, eq-eqb}
use Rattle.std.specs.List.{sum_by}
use Rattle.std.proofs.lemmas.List.Sums.{sum_by-cons}
use Rattle.std.proofs.lemmas.List.Sorted.{sum_by-IsPermutation}
use Rattle.std.proofs.lemmas.Bool.Decides.{nat_tests}
use Rattle.kin_rules.specs.declared.pull_rules.Input.{Input}
use Rattle.kin_rules.specs.Layers.{IsLayerRule, AreAlikeInputs, AreSameInputs}
use Rattle.kin_rules.specs.RankRule.{share_among, share_of, rank_rule}

alike-sums : (xs ys : List (Input ℕ)) → AreAlikeInputs rank_rule xs ys → sum_by share_of xs ≡ sum_by share_of ys
alike-sums [] [] h = refl
alike-sums [] (y ∷ ys) h = absurd h
alike-sums (x ∷ xs) [] h = absurd h
alike-sums (x ∷ xs) (y ∷ ys) h =
    let e : share_of x ≡ share_of y = grind (arith, nat_tests, h.1) in
    let old = alike-sums xs ys h.2 in
    let a = sum_by-cons share_of x xs in
    let b = sum_by-cons share_of y ys in
    omega (arith, e, old, a, b)

same-sums : (xs ys : List (Input ℕ)) → AreSameInputs xs ys → sum_by share_of xs ≡ sum_by share_of ys
same-sums [] [] h = refl
same-sums [] (y ∷ ys) h = absurd h
same-sums (x ∷ xs) [] h = absurd h
same-sums (x ∷ xs) (y ∷ ys) h =
    let e : share_of x ≡ share_of y = ap₂ share_among h.0.following h.1 in
    let old = same-sums xs ys h.2 in
    let a = sum_by-cons share_of x xs in
    let b = sum_by-cons share_of y ys in
    omega (arith, e, old, a, b)

pub rank-laws : IsLayerRule rank_rule
rank-laws = record {
  own = λ a b xs h. refl;
  inputs = λ a xs ys h. ap (min (10 ^ 15)) (alike-sums xs ys h);
  input_order = λ a xs ys h. ap (min (10 ^ 15)) (sym (sum_by-IsPermutation share_of xs ys h));
  use_order = λ a b xs ys own h. ap (min (10 ^ 15)) (same-sums xs ys h);
  same = λ a v. eq-eqb (share_among a.following v) (share_among a.following v) refl;
  blank = λ u. refl;
}
