-- Steps of going round the nodes, for code that takes a fair cut.
use Rattle.std.proofs.Common.{◌≡◌, ◌≢◌, ℕ, zero, suc, ◌+◌, ◌-◌, ◌<◌, ◌≤◌, Bool, cond, eqb, ltb, max, ⊎_elim, List, [], ◌∷◌, ◌++◌, refl, sym, ◌∙◌, ap, subst, arith, length, get_or, set}
use Rattle.std.specs.List.{slice_get, range_with_len, filter}
use Rattle.std.proofs.lemmas.Bool.{cond_both, cond-true, cond-false, cases_eq, eq-eqb, ne_eqb, ltb-false}
use Rattle.std.proofs.lemmas.List.{get_or-set_same, get_or-set_other, get_or_read}
use Rattle.std.proofs.lemmas.Option.{slice_get_past}
use Rattle.std.specs.List.{All}
use Rattle.std.proofs.lemmas.List.Elements.{All-nil, All-cons, All-head, All-tail, All-weaker}
use Rattle.kin_ids.specs.Types.{Stamp}
use Rattle.kin_ids.specs.Rounds.{waiting_at, row, rows, longest}

pub get_or-set : {X : Type 0} (xs : List X) (i j : ℕ) (v d : X) → i < length xs → get_or (set xs i v) j d ≡ cond (eqb i j) v (get_or xs j d)
get_or-set xs i j v d lt =
    ⊎_elim (λ (e : i ≡ j). subst (λ (k : ℕ). get_or (set xs i v) k d ≡ v) e (get_or-set_same xs i v d lt) ∙ sym (cond-true (eqb i j) v (get_or xs j d) (eq-eqb i j e)))
    (λ (ne : i ≢ j). get_or-set_other xs i j v d (λ e. ne (sym e)) ∙ sym (cond-false (eqb i j) v (get_or xs j d) (ne_eqb i j ne)))
    (cases_eq i j)

pub range-step : (a n : ℕ) → a < n → range_with_len a (n - a) ≡ a ∷ range_with_len (a + 1) (n - (a + 1))
range-step a n lt = let e : n - a ≡ suc (n - (a + 1)) = omega arith in rw e refl

pub longest-step : (lists : List (List Stamp)) (item : List Stamp) (most k : ℕ) → k < length lists → item ≡ get_or lists k item →
    max most (longest (λ (i : ℕ). get_or lists i []) (range_with_len k (length lists - k))) ≡ max (max most (length item)) (longest (λ (i : ℕ). get_or lists i []) (range_with_len (k + 1) (length lists - (k + 1))))
longest-step lists item most k lt is =
    let here : item ≡ get_or lists k [] = get_or_read lists k item lt is [] in
    rw (range-step k (length lists) lt, sym here) (omega arith)

-- nodes without an entry there have none later
pub row-filter : (pending : ℕ → List Stamp) (place q : ℕ) (is : List ℕ) → place ≤ q → row pending q (filter (λ i. ltb place (length (pending i))) is) ≡ row pending q is
row-filter pending place q [] le = refl
row-filter pending place q (i ∷ is) le =
    cond_both (ltb place (length (pending i))) (i ∷ filter (λ i. ltb place (length (pending i))) is) (filter (λ i. ltb place (length (pending i))) is) (λ js. row pending q js ≡ row pending q (i ∷ is))
    (λ _. ap (λ ts. waiting_at i q (slice_get (pending i) q) ++ ts) (row-filter pending place q is le))
    (λ no. let short : length (pending i) ≤ place = ltb-false _ _ no in let none = slice_get_past (pending i) q (omega arith) in rw none (row-filter pending place q is le))

pub All-filter : (P : ℕ → Type 0) (p : ℕ → Bool) (xs : List ℕ) → All P xs → All P (filter p xs)
All-filter P p [] all = all
All-filter P p (x ∷ xs) all = cond_both (p x) (x ∷ filter p xs) (filter p xs) (All P) (λ _. All-cons P x (filter p xs) (All-head P x xs all) (All-filter P p xs (All-tail P x xs all))) (λ _. All-filter P p xs (All-tail P x xs all))

pub range-push : (a n : ℕ) → range_with_len a (n + 1) ≡ range_with_len a n ++ (a + n) ∷ []
range-push a zero = let e : a ≡ a + 0 = omega arith in rw (sym e) refl
range-push a (suc n) =
    let e : suc n + 1 ≡ suc (n + 1) = omega arith in
    let f : a + 1 + n ≡ a + suc n = omega arith in
    rw (e) (ap (λ xs. a ∷ xs) (rw (sym f) (range-push (a + 1) n)))

pub rows-step : (pending : ℕ → List Stamp) (is : List ℕ) (place m : ℕ) → place < m → rows pending is place (m - place) ≡ row pending place is ++ rows pending is (place + 1) (m - (place + 1))
rows-step pending is place m lt = let e : m - place ≡ suc (m - (place + 1)) = omega arith in rw e refl

pub in_range : (a n : ℕ) → All (λ (i : ℕ). i < a + n) (range_with_len a n)
in_range a zero = All-nil (λ (i : ℕ). i < a + 0)
in_range a (suc n) = All-cons (λ (i : ℕ). i < a + suc n) a (range_with_len (a + 1) n) (omega arith) (All-weaker (λ (i : ℕ). i < a + 1 + n) (λ (i : ℕ). i < a + suc n) (λ i lt. omega arith) (range_with_len (a + 1) n) (in_range (a + 1) n))

pub still-live : (pending : ℕ → List Stamp) (all live kept : List ℕ) (place : ℕ) → kept ≡ filter (λ i. ltb place (length (pending i))) live → ((q : ℕ) → place ≤ q → row pending q live ≡ row pending q all) →
    (q : ℕ) → place ≤ q → row pending q kept ≡ row pending q all
still-live pending all live kept place is before q le = rw is (row-filter pending place q live le ∙ before q le)

pub first_more : (n : ℕ) → range_with_len 0 (n + 1) ≡ range_with_len 0 n ++ n ∷ []
first_more n = let e : 0 + n ≡ n = omega arith in range-push 0 n ∙ ap (λ (m : ℕ). range_with_len 0 n ++ m ∷ []) e

pub first_within : (n : ℕ) → All (λ (i : ℕ). i < n) (range_with_len 0 n)
first_within n = All-weaker (λ (i : ℕ). i < 0 + n) (λ (i : ℕ). i < n) (λ i lt. omega arith) (range_with_len 0 n) (in_range 0 n)
