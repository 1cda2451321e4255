-- Keys that ascend are the same lists where the same keys are in them.
use Rattle.std.proofs.Common.{◌≡◌, ◌∙◌, ◌||◌, Bool, true, false, List, [], ◌∷◌, refl, sym, ap, subst}
use Rattle.std.specs.List.{list_any, AllByRecursion}
use Rattle.std.specs.List.Sorted.{IsStrictlySortedBy}
use Rattle.std.specs.Ordering.{is_eq, ordering_reverse}
use Rattle.std.specs.BTreeMap.{is_at}
use Rattle.std.specs.declared.cmp.Ordering.{Ordering}
use Rattle.std.specs.declared.cmp.Ordering.TheVariants.{Less, Equal, Greater}
use Rattle.std.proofs.lemmas.Bool.{both_ways}
use Rattle.std.proofs.lemmas.Cmp.{tied_itself}
use Rattle.kin_rules.proofs.Orders.{IsExact}

module _ {K : Type 0} {cmp : K → K → Ordering} (o : IsExact cmp) where
  self : (x : K) → is_at (cmp x) x ≡ true
  self x = ap is_eq (tied_itself o.total x)

  less-before : (x y : K) → cmp x y ≡ Greater → cmp y x ≡ Less
  less-before x y e = o.total.antisymm y x ∙ ap ordering_reverse e

  none-after : (x : K) (ys : List K) → AllByRecursion (λ y. cmp x y ≡ Less) ys → list_any (is_at (cmp x)) ys ≡ false
  none-after x [] all = refl
  none-after x (y ∷ ys) all = rw all.0 (none-after x ys all.1)

  all-after : (x y : K) (ys : List K) → cmp x y ≡ Less → AllByRecursion (λ z. cmp y z ≡ Less) ys → AllByRecursion (λ z. cmp x z ≡ Less) ys
  all-after x y [] less all = tt
  all-after x y (z ∷ ys) less all = (o.total.trans x y z less all.0, all-after x y ys less all.1)

  -- a key before the first one isn't there
  before-first : (x y : K) (ys : List K) → cmp x y ≡ Less → AllByRecursion (λ z. cmp y z ≡ Less) ys → list_any (is_at (cmp x)) (y ∷ ys) ≡ false
  before-first x y ys less all = rw less (none-after x ys (all-after x y ys less all))

  is-same : (k x : K) → is_at (cmp k) x ≡ true → k ≡ x
  is-same k x h = o.exact k x (here (cmp k x) h)
    where
      here : (r : Ordering) → is_eq r ≡ true → r ≡ Equal
      here Less h = absurd cc
      here Equal h = refl
      here Greater h = absurd cc

  or-false : (b c : Bool) → b ≡ false → (b || c) ≡ c
  or-false b c e = rw e refl

  pub unique : (xs ys : List K) → IsStrictlySortedBy cmp xs → IsStrictlySortedBy cmp ys → ((k : K) → list_any (is_at (cmp k)) xs ≡ list_any (is_at (cmp k)) ys) → xs ≡ ys
  unfolding IsStrictlySortedBy
  unique [] [] s t same = refl
  unique [] (y ∷ ys) s t same = absurd (both_ways (list_any (is_at (cmp y)) (y ∷ ys)) (sym (same y)) (rw (self y) refl))
  unique (x ∷ xs) [] s t same = absurd (both_ways (list_any (is_at (cmp x)) (x ∷ xs)) (same x) (rw (self x) refl))
  unique (x ∷ xs) (y ∷ ys) s t same = here (cmp x y) refl (unique xs ys s.1 t.1)
    where
      tail : x ≡ y → (k : K) (b : Bool) → is_at (cmp k) x ≡ b → list_any (is_at (cmp k)) xs ≡ list_any (is_at (cmp k)) ys
      tail e k true h =
          let at : k ≡ x = is-same k x h in
          subst (λ (z : K). list_any (is_at (cmp z)) xs ≡ false) (sym at) (none-after x xs s.0)
          ∙ sym (subst (λ (z : K). list_any (is_at (cmp z)) ys ≡ false) (sym (at ∙ e)) (none-after y ys t.0))
      tail e k false h =
          sym (or-false (is_at (cmp k) x) (list_any (is_at (cmp k)) xs) h) ∙ (same k
          ∙ or-false (is_at (cmp k) y) (list_any (is_at (cmp k)) ys) (subst (λ (z : K). is_at (cmp k) z ≡ false) e h))

      here : (r : Ordering) → cmp x y ≡ r → (((k : K) → list_any (is_at (cmp k)) xs ≡ list_any (is_at (cmp k)) ys) → xs ≡ ys) → x ∷ xs ≡ y ∷ ys
      here Less e rest = absurd (both_ways (list_any (is_at (cmp x)) (x ∷ xs)) (same x ∙ before-first x y ys e t.0) (rw (self x) refl))
      here Equal e rest =
          let at : x ≡ y = o.exact x y e in
          let tails : xs ≡ ys = rest (λ k. tail at k (is_at (cmp k) x) refl) in
          rw (at, tails) refl
      here Greater e rest = absurd (both_ways (list_any (is_at (cmp y)) (y ∷ ys)) (sym (same y) ∙ before-first y x xs (less-before x y e) s.0) (rw (self y) refl))
