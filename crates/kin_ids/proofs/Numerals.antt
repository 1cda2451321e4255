-- Numbers as decimal texts: reading undoes writing, and what no number writes is not read.
use Rattle.std.proofs.Common.{◌≡◌, ℕ, ◌^◌, ◌<◌, ◌≤◌, true, false, eqb, ltb, ◌&&◌, ⊎_elim, List, length, get_or, Some, None, Result, Ok, Err, refl, sym, ◌∙◌, ap, subst, arith}
use Rattle.std.specs.Str.{bytes_eq, IsUtf8}
use Rattle.std.specs.Str.Parse.{AllDigits, IsNumeral, digits_value, ParsesUnsigned}
use Rattle.std.specs.Fmt.{decimal}
use Rattle.std.specs.Result.{result_ok, OkIff}
use Rattle.std.proofs.lemmas.Bool.{cases_Bool, cases_lt, cond-true, cond-false, and_parts, and_from, or_cases, or_left, or_right, eqb-true, eq-eqb, ltb-true, lt-ltb, both_ways}
use Rattle.std.proofs.lemmas.Slice.Eq.{bytes_eq-Decides}
use Rattle.std.proofs.lemmas.Str.{IsUtf8-from_ascii}
use Rattle.std.proofs.lemmas.Str.Parse.{IsNumeralModel, numerals_by_value, tells_digits, digit_at, without_leading_plus_none}
use Rattle.std.proofs.lemmas.Fmt.{decimal_is_IsNumeral, decimal-digits_value, decimal_digit, first_decimal, IsAscii-decimal}
use Rattle.kin_ids.specs.Texts.{number_of, has_needless_front, NumberLaw, UserLaw}

digits : IsNumeralModel (AllDigits 10) (digits_value 10)
digits = numerals_by_value (AllDigits 10) tells_digits

-- a number that writes the text is read
pub number_of-some : (bound n : ℕ) (text : List ℕ) → digits_value 10 text ≡ n → decimal n ≡ text → n < bound → number_of bound text ≡ Some n
number_of-some bound n text e writes lt = rw e (cond-true _ _ _ (and_from _ _ ((bytes_eq-Decides (decimal n) text).1 writes) (lt-ltb _ _ lt)))

-- reading undoes writing
pub number_of-decimal : (bound n : ℕ) → n < bound → bound ≤ 2 ^ 64 → number_of bound (decimal n) ≡ Some n
number_of-decimal bound n lt le = number_of-some bound n (decimal n) (decimal_is_IsNumeral n (omega arith)).1 refl lt

pub number-law : NumberLaw
number-law n lt = number_of-decimal (2 ^ 64) n lt (omega arith)

pub user-law : UserLaw
user-law u lt = rw (number_of-decimal (2 ^ 32) u.0 lt (omega arith)) refl

-- what no number writes is not read
pub number_of-none : (bound : ℕ) (text : List ℕ) → ((n : ℕ) → n < bound → decimal n ≡ text → ⊥) → number_of bound text ≡ None
number_of-none bound text none =
    let n = digits_value 10 text in
    ⊎_elim (λ (t : (bytes_eq (decimal n) text && ltb n bound) ≡ true).
    let parts = and_parts _ _ t in
    absurd (none n (ltb-true _ _ parts.1) ((bytes_eq-Decides (decimal n) text).0 parts.0)))
    (λ (f : (bytes_eq (decimal n) text && ltb n bound) ≡ false). cond-false _ _ _ f)
    (cases_Bool (bytes_eq (decimal n) text && ltb n bound))

no_needless : (n : ℕ) → n < 2 ^ 64 → has_needless_front (decimal n) ≡ true → ⊥
no_needless n lt h =
    let numeral = (decimal_is_IsNumeral n lt).0 in
    let first = digit_at (decimal n) 0 numeral.1 numeral.0 in
    ⊎_elim (λ (plus : eqb (get_or (decimal n) 0 0) 43 ≡ true). let e : get_or (decimal n) 0 0 ≡ 43 = eqb-true _ _ plus in omega arith)
    (λ (zero_first : (eqb (get_or (decimal n) 0 0) 48 && ltb 1 (length (decimal n))) ≡ true).
    let parts = and_parts _ _ zero_first in
    let e : get_or (decimal n) 0 0 ≡ 48 = eqb-true _ _ parts.0 in
    let long : 1 < length (decimal n) = ltb-true _ _ parts.1 in
    ⊎_elim (λ (some : 0 < n). let big = first_decimal n some lt in omega arith)
    (λ (none : n ≤ 0). let is : n ≡ 0 = omega arith in let short : length (decimal n) ≡ 1 = ap (λ (m : ℕ). length (decimal m)) is ∙ ap length (decimal_digit 0 (omega arith)) in omega arith)
    (cases_lt 0 n))
    (or_cases _ _ h)

pub number_of-needless : (text : List ℕ) → has_needless_front text ≡ true → number_of (2 ^ 64) text ≡ None
number_of-needless text h = number_of-none (2 ^ 64) text (λ n lt e. no_needless n lt (subst (λ t. has_needless_front t ≡ true) (sym e) h))

pub number_of-no_text : (text : List ℕ) → ¬ (IsUtf8 text) → number_of (2 ^ 64) text ≡ None
number_of-no_text text other = number_of-none (2 ^ 64) text (λ n lt e. other (subst IsUtf8 e (IsUtf8-from_ascii (decimal n) (IsAscii-decimal n lt))))

-- `parse` reads what has no needless front
pub parsed : {E : Type 0} (text : List ℕ) (r : Result ℕ E) → has_needless_front text ≡ false → ParsesUnsigned 64 10 text r → result_ok r ≡ number_of (2 ^ 64) text
parsed {E = E} text r plain h =
    let same = without_leading_plus_none text (λ (e : get_or text 0 0 ≡ 43). both_ways _ plain (or_left _ _ (eq-eqb _ _ e))) in
    go r (subst (λ ds. OkIff r (IsNumeral 10 ds × (digits_value 10 ds < 2 ^ 64)) (digits_value 10 ds)) same h)
  where
    one : get_or text 0 0 ≡ 48 → 0 < length text → length text ≡ 1
    one e some = ⊎_elim (λ (long : 1 < length text). absurd (both_ways (has_needless_front text) plain (or_right (eqb (get_or text 0 0) 43) _ (and_from _ _ (eq-eqb _ _ e) (lt-ltb _ _ long))))) (λ (le : length text ≤ 1). omega arith) (cases_lt 1 (length text))

    go : (r : Result ℕ E) → OkIff r (IsNumeral 10 text × (digits_value 10 text < 2 ^ 64)) (digits_value 10 text) → result_ok r ≡ number_of (2 ^ 64) text
    go (Ok x) k = ap Some k.1 ∙ sym (number_of-some (2 ^ 64) (digits_value 10 text) text refl (decimal-digits_value digits text k.0.0.1 k.0.0.0 (λ e. one e k.0.0.0) k.0.1) k.0.1)
    go (Err e) k = sym (number_of-none (2 ^ 64) text (λ n lt writes. let numeral = decimal_is_IsNumeral n lt in
        k (subst (λ t. IsNumeral 10 t × (digits_value 10 t < 2 ^ 64)) writes (numeral.0, rw numeral.1 lt))))
