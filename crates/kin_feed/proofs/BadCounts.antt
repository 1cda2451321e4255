-- A search among the numbers of the Bad records counts the Bad records.
use Rattle.std.proofs.Common.{◌≡◌, ◌<◌, ◌≤◌, ℕ, zero, suc, ◌+◌, ◌-◌, Bool, true, false, cond, leb, List, [], ◌∷◌, ◌++◌, length, take, get_or, count_by, sym, ap, ◌∙◌, refl, subst, arith, if◌then◌else◌}
use Rattle.std.specs.List.Sorted.{IsPartitionPoint, IsPartitionedBy, IsNonDecreasingBy}
use Rattle.std.proofs.lemmas.List.Sorted.{IsPartitionedBy-leb}
use Rattle.std.proofs.lemmas.List.Recursion.{is_count_by}
use Rattle.std.proofs.lemmas.Bool.Decides.{nat_tests}
use Rattle.std.proofs.lemmas.List.Sums.{sum_by-append}
use Rattle.std.proofs.Math.Seq.{take-add}
use Rattle.kin_ids.specs.Order.{between}
use Rattle.kin_ids.specs.declared.ops.Record.{Record}
use Rattle.kin_ids.specs.Operations.{is_bad}
use Rattle.kin_feed.specs.BadIndex.{bad_numbers}

-- how many are Bad
abbrev bads : List Record → ℕ
bads [] = 0
bads (r ∷ rs) = cond (is_bad r) (1 + bads rs) (bads rs)

bads_are : (rs : List Record) → bads rs ≡ count_by is_bad rs
bads_are rs = is_count_by bads is_bad refl (λ r rs. refl) rs

-- each number is past n
abbrev Past : ℕ → List ℕ → Type 0
Past n xs = (i d : ℕ) → i < length xs → n < get_or xs i d

past_cons : (b : Bool) (n : ℕ) (xs : List ℕ) → Past (n + 1) xs → Past n (if b then (n + 1) ∷ xs else xs)
past_cons true n xs h zero d short = omega arith
past_cons true n xs h (suc i) d short = omega (arith, h i d (omega (arith, short)))
past_cons false n xs h i d short = omega (arith, h i d short)

past : (n : ℕ) (rs : List Record) → Past n (bad_numbers n rs)
past n [] = λ i d short. absurd (omega (arith, short))
past n (r ∷ rs) = past_cons (is_bad r) n (bad_numbers (n + 1) rs) (past (n + 1) rs)

ascends_cons : (b : Bool) (n : ℕ) (xs : List ℕ) → Past (n + 1) xs → IsNonDecreasingBy (λ x. x) xs → IsNonDecreasingBy (λ x. x) (if b then (n + 1) ∷ xs else xs)
ascends_cons true n xs p h zero zero d le short = omega arith
ascends_cons true n xs p h zero (suc j) d le short = omega (arith, p j d (omega (arith, short)))
ascends_cons true n xs p h (suc i) zero d le short = absurd (omega (arith, le))
ascends_cons true n xs p h (suc i) (suc j) d le short = h i j d (omega (arith, le)) (omega (arith, short))
ascends_cons false n xs p h i j d le short = h i j d le short

ascends : (n : ℕ) (rs : List Record) → IsNonDecreasingBy (λ x. x) (bad_numbers n rs)
ascends n [] = λ i j d le short. absurd (omega (arith, short))
ascends n (r ∷ rs) = ascends_cons (is_bad r) n (bad_numbers (n + 1) rs) (past (n + 1) rs) (ascends (n + 1) rs)

-- the numbers up to t come first
pub parted : (t : ℕ) (rs : List Record) → IsPartitionedBy (λ y. leb y t) (bad_numbers 0 rs)
parted t rs = IsPartitionedBy-leb (λ x. x) (bad_numbers 0 rs) t (ascends 0 rs)

-- i numbers are up to t, and the others are past it
record Splits (t : ℕ) (xs : List ℕ) (i : ℕ) : Type 0 where
  few : i ≤ length xs
  upto : (j d : ℕ) → j < i → get_or xs j d ≤ t
  past_it : (j d : ℕ) → i ≤ j → j < length xs → t < get_or xs j d

counted_cons : (b : Bool) (n k : ℕ) (xs : List ℕ) (i m : ℕ) → Splits (n + suc k) (if b then (n + 1) ∷ xs else xs) i
    → ((j : ℕ) → Splits (n + 1 + k) xs j → j ≡ m) → i ≡ cond b (1 + m) m
counted_cons true n k xs zero m s h = absurd (omega (arith, s.past_it 0 0 (omega arith) (omega arith)))
counted_cons true n k xs (suc i) m s h =
    let less : Splits (n + 1 + k) xs i = record {
      few = omega (arith, s.few);
      upto = λ j d short. omega (arith, s.upto (suc j) d (omega (arith, short)));
      past_it = λ j d from short. omega (arith, s.past_it (suc j) d (omega (arith, from)) (omega (arith, short)));
    } in omega (arith, h i less)
counted_cons false n k xs i m s h = h i (record { few = s.few; upto = λ j d short. omega (arith, s.upto j d short); past_it = λ j d from short. omega (arith, s.past_it j d from short) })

counted : (n k : ℕ) (rs : List Record) (i : ℕ) → Splits (n + k) (bad_numbers n rs) i → i ≡ bads (take k rs)
counted n zero [] i s = omega (arith, s.few)
counted n (suc k) [] i s = omega (arith, s.few)
counted n zero (r ∷ rs) zero s = refl
counted n zero (r ∷ rs) (suc i) s = absurd (omega (arith, s.upto 0 0 (omega arith), past n (r ∷ rs) 0 0 (omega (arith, s.few))))
counted n (suc k) (r ∷ rs) i s = counted_cons (is_bad r) n k (bad_numbers (n + 1) rs) i (bads (take k rs)) s (λ j t. counted (n + 1) k rs j t)

-- the place that a search for t finds is how many of the first t records are Bad
pub point_counts : (t : ℕ) (rs : List Record) (i : ℕ) → i ≤ length (bad_numbers 0 rs) → IsPartitionPoint (λ y. leb y t ≡ true) (λ y. leb y t ≡ false) (bad_numbers 0 rs) i
    → i ≡ count_by is_bad (take t rs)
point_counts t rs i few p =
    let at : Splits t (bad_numbers 0 rs) i = record {
      few = few;
      upto = λ j d short. grind (arith, nat_tests, p.0 j d (omega arith) short);
      past_it = λ j d from short. grind (arith, nat_tests, p.1 j d from short);
    } in
    let zero_more : t ≡ 0 + t = omega arith in
    counted 0 t rs i (subst (λ (k : ℕ). Splits k (bad_numbers 0 rs) i) zero_more at) ∙ bads_are (take t rs)

push_cons : (b : Bool) (n : ℕ) (xs ys : List ℕ) → (if b then (n + 1) ∷ (xs ++ ys) else xs ++ ys) ≡ (if b then (n + 1) ∷ xs else xs) ++ ys
push_cons true n xs ys = refl
push_cons false n xs ys = refl

-- one more record
pub numbers_push : (n : ℕ) (rs : List Record) (r : Record) → bad_numbers n (rs ++ r ∷ []) ≡ bad_numbers n rs ++ bad_numbers (n + length rs) (r ∷ [])
numbers_push n [] r = let e : n + length {A = Record} [] ≡ n = omega arith in rw e refl
numbers_push n (x ∷ rs) r =
    let e : n + 1 + length rs ≡ n + length (x ∷ rs) = omega arith in
    let more = rw e at (numbers_push (n + 1) rs r) in
    ap (λ (xs : List ℕ). if is_bad x then (n + 1) ∷ xs else xs) more ∙ push_cons (is_bad x) n (bad_numbers (n + 1) rs) (bad_numbers (n + length (x ∷ rs)) (r ∷ []))

-- the Bad ones up to a position are those up to an earlier one and those between
pub counts_between : (from to : ℕ) (rs : List Record) → from ≤ to → count_by is_bad (take to rs) ≡ count_by is_bad (take from rs) + count_by is_bad (between rs from to)
counts_between from to rs le =
    let e : from + (to - from) ≡ to = omega (arith, le) in
    ap (λ (k : ℕ). count_by is_bad (take k rs)) (sym e) ∙ ap (count_by is_bad) (take-add from (to - from) rs) ∙ sum_by-append (λ (r : Record). cond (is_bad r) 1 0) (take from rs) (between rs from to)
