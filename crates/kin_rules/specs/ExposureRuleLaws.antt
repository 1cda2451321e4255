-- Exposure is a rule of layers.
use Rattle.std.proofs.Common.{◌≡◌, ◌+◌, ◌∙◌, ◌&&◌, nat_eq, ℕ, Bool, true, List, [], ◌∷◌, map, cond, refl, sym, ap, ap₂, arith, eq-eqb}
use Rattle.std.specs.Cmp.Lexicographic.{pointwise, same_text, texts_ties}
use Rattle.std.specs.Ordering.{nat_cmp}
use Rattle.std.specs.declared.cmp.Ordering.TheVariants.{Equal}
use Rattle.std.specs.Cmp.{Equal-is}
use Rattle.std.specs.List.Sorted.{IsPermutation}
use Rattle.std.proofs.lemmas.List.Sums.{sum_by-cons}
use Rattle.std.proofs.lemmas.List.Sorted.{sum_by-IsPermutation, list_any-IsPermutation, IsPermutation-map}
use Rattle.std.proofs.lemmas.Bool.{and_parts, and_from}
use Rattle.std.proofs.lemmas.Bool.Decides.{nat_tests}
use Rattle.std.proofs.lemmas.Cmp.{nat_cmp_total, nat_list_cmp_total, on_total, then_total}
use Rattle.std.proofs.lemmas.Map.Lookups.{exact_unsigned}
use Rattle.kin_ids.specs.declared.stamps.Place.{Place}
use Rattle.kin_ids.specs.declared.ops.Use.{Use}
use Rattle.kin_ids.specs.Users.{is_before, same_tag, tag_cmp}
use Rattle.kin_ids.proofs.Same.{same_tag-true, same_tag-refl}
use Rattle.kin_rules.specs.declared.exposure_rules.UseK.{UseK}
use Rattle.kin_rules.specs.declared.pull_rules.Input.{Input}
use Rattle.kin_rules.specs.Layers.{IsLayerRule, AreAlikeInputs, AreSameInputs}
use Rattle.kin_rules.specs.ExposureRule.{is_earlier, earlier, use_k, use_k_order, same_place, same_uses, exposure_rule}
use Rattle.kin_rules.specs.Top.{in_order}
use Rattle.kin_rules.specs.Orderings.{IsExact, alike-in-order, both-tie}

-- entries that tie are one
pub entries-exact : IsExact use_k_order
entries-exact = record {
  total = then_total (on_total (λ (e : UseK). e.tag) nat_list_cmp_total) (on_total (λ (e : UseK). e.k) nat_cmp_total);
  exact = exact;
}
  where
    exact : (x y : UseK) → use_k_order x y ≡ Equal → x ≡ y
    exact x y h =
        let k = both-tie (tag_cmp x.tag y.tag) (nat_cmp x.k y.k) h in
        ap₂ (λ (t : List ℕ) (n : ℕ). let e : UseK = record { tag = t; k = n } in e) (same_tag-true x.tag y.tag ((Equal-is (tag_cmp x.tag y.tag)).1 k.0)) (exact_unsigned x.k y.k k.1)

-- in whatever order they come
permuted-in-order : (xs ys : List UseK) → IsPermutation xs ys → in_order use_k_order xs ≡ in_order use_k_order ys
permuted-in-order xs ys h = alike-in-order entries-exact xs ys (λ p. sym (sum_by-IsPermutation (λ (e : UseK). cond (p e) 1 0) xs ys h))

place-is : (a b : Place) → same_place a b ≡ true → a ≡ b
place-is a b h =
    let parts = and_parts (nat_eq a.epoch.0 b.epoch.0 && nat_eq a.ingest.0 b.ingest.0) (nat_eq a.number b.number) h in
    let firsts = and_parts (nat_eq a.epoch.0 b.epoch.0) (nat_eq a.ingest.0 b.ingest.0) parts.0 in
    let e : a.epoch.0 ≡ b.epoch.0 = grind (arith, nat_tests, firsts.0) in
    let i : a.ingest.0 ≡ b.ingest.0 = grind (arith, nat_tests, firsts.1) in
    let n : a.number ≡ b.number = grind (arith, nat_tests, parts.1) in
    λ j. record { epoch = record { 0 = e j }; ingest = record { 0 = i j }; number = n j }

place-self : (a : Place) → same_place a a ≡ true
place-self a = rw (eq-eqb a.epoch.0 a.epoch.0 refl, eq-eqb a.ingest.0 a.ingest.0 refl, eq-eqb a.number a.number refl) refl

abbrev same_use : Use → Use → Bool
same_use a b = pointwise nat_eq a.tag b.tag && same_place a.first b.first

use-is : (a b : Use) → same_use a b ≡ true → a ≡ b
use-is a b h =
    let both = and_parts (pointwise nat_eq a.tag b.tag) (same_place a.first b.first) h in
    ap₂ (λ (t : List ℕ) (p : Place). let x : Use = record { tag = t; first = p } in x) (same_text a.tag b.tag (sym both.0)) (place-is a.first b.first both.1)

use-self : (a : Use) → same_use a a ≡ true
use-self a = and_from (pointwise nat_eq a.tag a.tag) (same_place a.first a.first) (texts_ties a.tag a.tag ∙ same_tag-refl a.tag) (place-self a.first)

uses-are : (xs ys : List Use) → same_uses xs ys ≡ true → xs ≡ ys
uses-are [] [] h = refl
uses-are [] (y ∷ ys) h = absurd cc
uses-are (x ∷ xs) [] h = absurd cc
uses-are (x ∷ xs) (y ∷ ys) h = let both = and_parts (same_use x y) (same_uses xs ys) h in ap₂ (λ (z : Use) (zs : List Use). z ∷ zs) (use-is x y both.0) (uses-are xs ys both.1)

uses-self : (xs : List Use) → same_uses xs xs ≡ true
uses-self [] = refl
uses-self (x ∷ xs) = and_from (same_use x x) (same_uses xs xs) (use-self x) (uses-self xs)

-- as many inputs used the tag before, where each did and each of the others did
earlier-cons : (x : Use) (i : Input (List UseK)) (is : List (Input (List UseK))) → earlier (i ∷ is) x ≡ cond (is_earlier x i.facts.uses) 1 0 + earlier is x
earlier-cons x i is = sum_by-cons (λ (q : Input (List UseK)). cond (is_earlier x q.facts.uses) 1 0) i is

alike-earlier : (x : Use) (is js : List (Input (List UseK))) → AreAlikeInputs exposure_rule is js → earlier is x ≡ earlier js x
alike-earlier x [] [] h = refl
alike-earlier x [] (j ∷ js) h = absurd h
alike-earlier x (i ∷ is) [] h = absurd h
alike-earlier x (i ∷ is) (j ∷ js) h =
    earlier-cons x i is ∙ ap₂ (λ (b : Bool) (n : ℕ). cond b 1 0 + n) (ap (is_earlier x) (uses-are i.facts.uses j.facts.uses h.1)) (alike-earlier x is js h.2) ∙ sym (earlier-cons x j js)

same-earlier : (x : Use) (is js : List (Input (List UseK))) → AreSameInputs is js → earlier is x ≡ earlier js x
same-earlier x [] [] h = refl
same-earlier x [] (j ∷ js) h = absurd h
same-earlier x (i ∷ is) [] h = absurd h
same-earlier x (i ∷ is) (j ∷ js) h =
    let one : is_earlier x i.facts.uses ≡ is_earlier x j.facts.uses = list_any-IsPermutation (λ w. same_tag x.tag w.tag && is_before w.first x.first) i.facts.uses j.facts.uses h.0.uses in
    earlier-cons x i is ∙ ap₂ (λ (b : Bool) (n : ℕ). cond b 1 0 + n) one (same-earlier x is js h.2) ∙ sym (earlier-cons x j js)

map-alike : (is js : List (Input (List UseK))) (us : List Use) → ((x : Use) → earlier is x ≡ earlier js x) → map (use_k is) us ≡ map (use_k js) us
map-alike is js [] h = refl
map-alike is js (u ∷ us) h = ap₂ (λ (n : ℕ) (es : List UseK). record { tag = u.tag; k = n } ∷ es) (h u) (map-alike is js us h)

pub exposure-laws : IsLayerRule exposure_rule
exposure-laws = record {
  own = λ a b xs h. ap (λ (us : List Use). in_order use_k_order (map (use_k xs) us)) (uses-are a.uses b.uses h);
  inputs = λ a xs ys h. ap (in_order use_k_order) (map-alike xs ys a.uses (λ x. alike-earlier x xs ys h));
  input_order = λ a xs ys h. ap (in_order use_k_order) (map-alike xs ys a.uses (λ x. sym (sum_by-IsPermutation (λ (i : Input (List UseK)). cond (is_earlier x i.facts.uses) 1 0) xs ys h)));
  use_order = λ a b xs ys own h.
      ap (in_order use_k_order) (map-alike xs ys a.uses (λ x. same-earlier x xs ys h))
      ∙ permuted-in-order (map (use_k ys) a.uses) (map (use_k ys) b.uses) (IsPermutation-map (use_k ys) a.uses b.uses own.uses);
  same = λ a v. uses-self a.uses;
  blank = λ u. refl;
}
