-- Keys that ascend: which are among them, and what sorting more of them leaves.
use Rattle.std.proofs.Common.{◌≡◌, ◌<◌, ◌≤◌, ◌+◌, ◌||◌, ◌&&◌, ◌∙◌, ◌++◌, ℕ, ltb, Bool, true, false, not, cond, List, [], ◌∷◌, length, get_or, take, refl, sym, ap, subst, arith, Result, Ok, Err}
use Rattle.std.specs.List.{list_any, dedup, dedup_from}
use Rattle.std.specs.List.Sorted.{IsPermutation, IsStrictlySortedBy, IsSorted, IsSearchInRange, IsBinarySearchResult}
use Rattle.std.specs.BTreeMap.{is_at}
use Rattle.std.specs.Cmp.{IsTotalOrder}
use Rattle.std.specs.Ordering.{is_eq, is_lt, ordering_reverse}
use Rattle.std.specs.Result.{is_ok}
use Rattle.std.specs.declared.cmp.Ordering.{Ordering}
use Rattle.std.specs.declared.cmp.Ordering.TheVariants.{Less, Equal, Greater}
use Rattle.std.proofs.lemmas.Bool.{ltb-true, ltb-false}
use Rattle.std.proofs.lemmas.Cmp.{tied_back}
use Rattle.std.proofs.lemmas.List.{take_all}
use Rattle.std.proofs.lemmas.List.Folds.{list_any-append, list_any_at, list_any_more}
use Rattle.std.proofs.lemmas.List.Sorted.{list_any-IsPermutation, searchable_from_sorted}
use Rattle.std.proofs.lemmas.Map.Keys.{Less-from_sorted}
use Rattle.kin_changes.proofs.Homes.{any-none}

-- users or tags that pass or not
pub or-later : (o a b n : Bool) → ((o || (a && n)) || (b && n)) ≡ (o || ((a || b) && n))
or-later true a b n = refl
or-later false true b true = refl
or-later false true true false = refl
or-later false true false false = refl
or-later false false b n = refl

-- those known, and those told that weren't known
pub known-or-told : (a b : Bool) → (a || (b && not a)) ≡ (a || b)
known-or-told true b = refl
known-or-told false true = refl
known-or-told false false = refl

-- one more of those that tell of a user or a tag
pub told-next : {X : Type 0} (tells : X → Bool) (xs : List X) (i : ℕ) (x : X) → i < length xs → x ≡ get_or xs i x → (n old new : Bool)
    → old ≡ (list_any tells (take i xs) && n) → new ≡ (old || (tells x && n))
    → new ≡ (list_any tells (take (i + 1) xs) && n)
told-next {X} tells xs i x lt is n old new before more =
    more ∙ (ap (λ (b : Bool). b || (tells x && n)) before
    ∙ (or-later false (list_any tells (take i xs)) (tells x) n
    ∙ ap (λ (b : Bool). b && n) (ap (λ (z : X). list_any tells (take i xs) || tells z) is ∙ sym (list_any_more tells xs i x lt))))

pub told-last : {X : Type 0} (tells : X → Bool) (xs : List X) (i : ℕ) → length xs ≤ i → (n old : Bool) → old
    ≡ (list_any tells (take i xs) && n) → old ≡ (list_any tells xs && n)
told-last {X} tells xs i past n old e = e ∙ ap (λ (zs : List X). list_any tells zs && n) (take_all i xs past)

module _ {K : Type 0} (cmp : K → K → Ordering) (o : IsTotalOrder cmp) where
  less-back : (a b : K) → cmp a b ≡ Less → is_lt (cmp b a) ≡ false
  less-back a b e = ap is_lt (o.antisymm b a ∙ ap ordering_reverse e)

  sorted-once : (ks : List K) → IsStrictlySortedBy cmp ks → IsSorted cmp ks
  sorted-once ks up i d low lt = less-back (get_or ks i d) (get_or ks (i + 1) d) (Less-from_sorted cmp ks i (i + 1) d up (omega arith) lt)

  flip-none : (a b : K) → (p : Ordering) → cmp a b ≡ p → is_eq p ≡ false → is_at (cmp b) a ≡ false
  flip-none a b Less e t = ap is_eq (o.antisymm b a ∙ ap ordering_reverse e)
  flip-none a b Equal e t = absurd cc
  flip-none a b Greater e t = ap is_eq (o.antisymm b a ∙ ap ordering_reverse e)

  -- what a binary search answers
  pub searched : (ks : List K) (key : K) (r : Result ℕ ℕ) → IsStrictlySortedBy cmp ks → IsSearchInRange r (length ks)
      → IsBinarySearchResult (λ y. cmp y key) ks r → is_ok r ≡ list_any (is_at (cmp key)) ks
  searched ks key (Ok i) up within found = sym (list_any_at (is_at (cmp key)) ks i key within
      (ap is_eq (tied_back o (get_or ks i key) key (found key))))
  searched ks key (Err i) up within found =
      let parts = found (searchable_from_sorted o (λ (k : K). k) ks key (sorted-once ks up)) in
      sym (any-none (is_at (cmp key)) key ks (λ p lt. by_test p lt (ltb p i) refl parts.0 parts.1)) where
        by_test : (p : ℕ) → p < length ks → (b : Bool) → ltb p i ≡ b → ((k : ℕ) (d : K) → 0 ≤ k → k < i → cmp (get_or ks k d) key ≡ Less)
            → ((k : ℕ) (d : K) → i ≤ k → k < length ks → cmp (get_or ks k d) key ≡ Greater)
            → is_at (cmp key) (get_or ks p key) ≡ false
        by_test p lt true t below above = flip-none (get_or ks p key) key Less (below p key (omega arith) (ltb-true p i t)) refl
        by_test p lt false t below above = flip-none (get_or ks p key) key Greater (above p key (ltb-false p i t) lt) refl

  module _ (exact : (x y : K) → cmp x y ≡ Equal → x ≡ y) where
    is-equal : (p : Ordering) → is_eq p ≡ true → p ≡ Equal
    is-equal Less e = absurd cc
    is-equal Equal e = refl
    is-equal Greater e = absurd cc

    -- one key more, where it wasn't known
    pub pushed-fresh : (known old new : List K) (key : K) → new ≡ cond (list_any (is_at (cmp key)) known) old (old ++ key ∷ [])
        → (k : K) → list_any (is_at (cmp k)) new ≡ (list_any (is_at (cmp k)) old
        || (is_at (cmp k) key && not (list_any (is_at (cmp k)) known)))
    pushed-fresh known old new key e k =
        ap (list_any (is_at (cmp k))) e ∙ by_test (list_any (is_at (cmp key)) known) refl (is_at (cmp k) key) refl where
          end : (a : Bool) → (a || false) ≡ a
          end true = refl
          end false = refl

          last : (a b : Bool) → (a || (b || false)) ≡ (a || (b && true))
          last true b = refl
          last false true = refl
          last false false = refl

          by_test : (b : Bool) → list_any (is_at (cmp key)) known ≡ b → (t : Bool) → is_at (cmp k) key ≡ t
              → list_any (is_at (cmp k)) (cond b old (old ++ key ∷ []))
              ≡ (list_any (is_at (cmp k)) old || (t && not (list_any (is_at (cmp k)) known)))
          by_test true known-is false t = sym (end (list_any (is_at (cmp k)) old))
          by_test true known-is true t =
              let same : k ≡ key = exact k key (is-equal (cmp k key) t) in
              let here : list_any (is_at (cmp k)) known ≡ true = subst (λ (x : K). list_any (is_at (cmp x)) known ≡ true)
              (sym same) known-is in
              rw here (sym (end (list_any (is_at (cmp k)) old)))
          by_test false known-is false t = list_any-append (is_at (cmp k)) old (key ∷ []) ∙ rw t (last (list_any (is_at (cmp k)) old) false)
          by_test false known-is true t =
              let same : k ≡ key = exact k key (is-equal (cmp k key) t) in
              let here : list_any (is_at (cmp k)) known ≡ false = subst (λ (x : K). list_any (is_at (cmp x)) known ≡ false)
              (sym same) known-is in
              list_any-append (is_at (cmp k)) old (key ∷ []) ∙ rw (t, here) (last (list_any (is_at (cmp k)) old) true)

    -- a loop that appends the keys of items that weren't known
    module _ {Y : Type 0} (key : Y → K) (ys : List Y) (i : ℕ) (known start old : List K)
        (sofar : (k : K) → list_any (is_at (cmp k)) old ≡ (list_any (is_at (cmp k)) start
        || (list_any (λ y. is_at (cmp k) (key y)) (take i ys) && not (list_any (is_at (cmp k)) known)))) where
      pub fresh-next : (d : Y) → i < length ys → (new : List K) → new
          ≡ cond (list_any (is_at (cmp (key (get_or ys i d)))) known) old (old ++ key (get_or ys i d) ∷ [])
          → (k : K) → list_any (is_at (cmp k)) new ≡ (list_any (is_at (cmp k)) start
          || (list_any (λ y. is_at (cmp k) (key y)) (take (i + 1) ys) && not (list_any (is_at (cmp k)) known)))
      fresh-next d lt new e k =
          pushed-fresh known old new (key (get_or ys i d)) e k
          ∙ (ap (λ (b : Bool). b || (is_at (cmp k) (key (get_or ys i d)) && not (list_any (is_at (cmp k)) known))) (sofar k)
          ∙ (or-later (list_any (is_at (cmp k)) start) (list_any (λ y. is_at (cmp k) (key y)) (take i ys))
          (is_at (cmp k) (key (get_or ys i d))) (not (list_any (is_at (cmp k)) known))
          ∙ ap (λ (b : Bool). list_any (is_at (cmp k)) start || (b && not (list_any (is_at (cmp k)) known)))
          (sym (list_any_more (λ y. is_at (cmp k) (key y)) ys i d lt))))

      pub fresh-item : (y : Y) → i < length ys → y ≡ get_or ys i y → (new : List K) → new
          ≡ cond (list_any (is_at (cmp (key y))) known) old (old ++ key y ∷ [])
          → (k : K) → list_any (is_at (cmp k)) new ≡ (list_any (is_at (cmp k)) start
          || (list_any (λ z. is_at (cmp k) (key z)) (take (i + 1) ys) && not (list_any (is_at (cmp k)) known)))
      fresh-item y lt is new e = fresh-next y lt new (subst (λ (z : Y). new
          ≡ cond (list_any (is_at (cmp (key z))) known) old (old ++ key z ∷ [])) is e)

      pub fresh-last : length ys ≤ i → (k : K) → list_any (is_at (cmp k)) old
          ≡ (list_any (is_at (cmp k)) start || (list_any (λ y. is_at (cmp k) (key y)) ys && not (list_any (is_at (cmp k)) known)))
      fresh-last past k = sofar k ∙ ap (λ (zs : List Y). list_any (is_at (cmp k)) start
          || (list_any (λ y. is_at (cmp k) (key y)) zs && not (list_any (is_at (cmp k)) known))) (take_all i ys past)

    -- equal neighbours are one
    module _ (same : K → K → Bool) (ties : (x y : K) → same x y ≡ is_eq (cmp x y)) (p : K → Bool) where
      any-dedup_from : (k : K) (xs : List K) → list_any p (dedup_from same k xs) ≡ (p k || list_any p xs)
      any-dedup_from k [] = refl
      any-dedup_from k (x ∷ xs) = by_test (same x k) refl (any-dedup_from k xs) (any-dedup_from x xs) where
        twice : (a b c : Bool) → a ≡ b → (a || c) ≡ (a || (b || c))
        twice true b c e = refl
        twice false true c e = absurd cc
        twice false false c e = refl

        by_test : (b : Bool) → same x k ≡ b → list_any p (dedup_from same k xs) ≡ (p k || list_any p xs)
            → list_any p (dedup_from same x xs) ≡ (p x || list_any p xs)
            → list_any p (cond b (dedup_from same k xs) (k ∷ dedup_from same x xs)) ≡ (p k || (p x || list_any p xs))
        by_test true t one other = one ∙ twice (p k) (p x) (list_any p xs)
            (sym (ap p (exact x k (is-equal (cmp x k) (sym (ties x k) ∙ t)))))
        by_test false t one other = ap (λ (b : Bool). p k || b) other

      pub any-dedup : (xs : List K) → list_any p (dedup same xs) ≡ list_any p xs
      any-dedup [] = refl
      any-dedup (x ∷ xs) = any-dedup_from x xs

      or-turned : (a b : Bool) → (a || b) ≡ (b || a)
      or-turned true true = refl
      or-turned true false = refl
      or-turned false true = refl
      or-turned false false = refl

      -- known and fresh ones, sorted together
      pub any-joined : (known fresh up together all : List K) → IsPermutation fresh up → IsPermutation (up ++ known) together → all
          ≡ dedup same together → list_any p all ≡ (list_any p known || list_any p fresh)
      any-joined known fresh up together all first second kept =
          ap (list_any p) kept ∙ (any-dedup together ∙ (sym (list_any-IsPermutation p (up ++ known) together second)
          ∙ (list_any-append p up known
          ∙ (ap (λ (b : Bool). b || list_any p known) (sym (list_any-IsPermutation p fresh up first))
          ∙ or-turned (list_any p fresh) (list_any p known)))))
