-- Row by row, the pending transactions come in turn.
use Rattle.std.proofs.Common.{◌≡◌, ◌≢◌, ℕ, zero, suc, ◌+◌, ◌<◌, ◌≤◌, Bool, true, eqb, inl, inr, ⊎_elim, List, [], ◌∷◌, ◌++◌, Option, Some, None, refl, sym, ◌∙◌, ap, subst, arith, length, get_or, drop, append_assoc}
use Rattle.std.specs.List.{list_all, slice_get, range_with_len}
use Rattle.std.proofs.lemmas.Bool.{cond-true, cond-false, and_parts, and_from, eq-eqb, ne_eqb, cases_eq, cases_lt}
use Rattle.std.proofs.lemmas.List.{append-nil}
use Rattle.std.proofs.lemmas.List.Elements.{filter-append}
use Rattle.std.proofs.lemmas.List.Folds.{list_all-append}
use Rattle.std.proofs.lemmas.Option.{slice_get_past, slice_get-get_or}
use Rattle.std.proofs.Math.Seq.{drop-cons}
use Rattle.kin_ids.specs.Types.{Stamp}
use Rattle.kin_ids.specs.Fair.{Waiting, waiting_from, goes_first, of_node, IsByNumber}
use Rattle.kin_ids.specs.Rounds.{waiting_at, row, rows, longest, RowsLaw}
use Rattle.kin_ids.proofs.InTurn.{first-from, only-law}

abbrev waits : ℕ → ℕ → Stamp → Waiting
waits i r s = record { node = i; number = r; stamp = s }

-- tests that the transactions of a row, and of rows, pass
all-at : (p : Waiting → Bool) (i r : ℕ) (o : Option Stamp) → ((s : Stamp) → p (waits i r s) ≡ true) → list_all p (waiting_at i r o) ≡ true
all-at p i r None h = refl
all-at p i r (Some s) h = and_from _ _ (h s) refl

module _ (pending : ℕ → List Stamp) where
  all-row : (p : Waiting → Bool) (r a n : ℕ) → ((i : ℕ) (s : Stamp) → a ≤ i → p (waits i r s) ≡ true) → list_all p (row pending r (range_with_len a n)) ≡ true
  all-row p r a zero h = refl
  all-row p r a (suc n) h = list_all-append p (waiting_at a r (slice_get (pending a) r)) (row pending r (range_with_len (a + 1) n))
      ∙ and_from _ _ (all-at p a r (slice_get (pending a) r) (λ s. h a s (omega arith))) (all-row p r (a + 1) n (λ i s le. h i s (omega arith)))

  all-rows : (p : Waiting → Bool) (n r k : ℕ) → ((i q : ℕ) (s : Stamp) → r ≤ q → p (waits i q s) ≡ true) → list_all p (rows pending (range_with_len 0 n) r k) ≡ true
  all-rows p n r zero h = refl
  all-rows p n r (suc k) h = list_all-append p (row pending r (range_with_len 0 n)) (rows pending (range_with_len 0 n) (r + 1) k)
      ∙ and_from _ _ (all-row p r 0 n (λ i s le. h i r s (omega arith))) (all-rows p n (r + 1) k (λ i q s le. h i q s (omega arith)))

  -- rows are by number, and each is by node
  append-by_number : (xs ys : List Waiting) → IsByNumber xs → IsByNumber ys → list_all (λ x. list_all (goes_first x) ys) xs ≡ true → IsByNumber (xs ++ ys)
  append-by_number [] ys a b h = b
  append-by_number (x ∷ xs) ys a b h =
      let parts = and_parts (list_all (goes_first x) ys) (list_all (λ x. list_all (goes_first x) ys) xs) h in
      (list_all-append (goes_first x) xs ys ∙ and_from _ _ a.0 parts.0, append-by_number xs ys a.1 b parts.1)

  at-by_number : (i r : ℕ) (o : Option Stamp) → IsByNumber (waiting_at i r o)
  at-by_number i r None = tt
  at-by_number i r (Some s) = (refl, tt)

  row-by_number : (r a n : ℕ) → IsByNumber (row pending r (range_with_len a n))
  row-by_number r a zero = tt
  row-by_number r a (suc n) = append-by_number (waiting_at a r (slice_get (pending a) r)) (row pending r (range_with_len (a + 1) n)) (at-by_number a r (slice_get (pending a) r)) (row-by_number r (a + 1) n)
      (all-at (λ x. list_all (goes_first x) (row pending r (range_with_len (a + 1) n))) a r (slice_get (pending a) r)
      (λ s. all-row (goes_first (waits a r s)) r (a + 1) n (λ i t le. first-from (waits a r s) (waits i r t) (inr (refl, omega arith)))))

  rows-by_number : (n r k : ℕ) → IsByNumber (rows pending (range_with_len 0 n) r k)
  rows-by_number n r zero = tt
  rows-by_number n r (suc k) = append-by_number (row pending r (range_with_len 0 n)) (rows pending (range_with_len 0 n) (r + 1) k) (row-by_number r 0 n) (rows-by_number n (r + 1) k)
      (all-row (λ x. list_all (goes_first x) (rows pending (range_with_len 0 n) (r + 1) k)) r 0 n
      (λ i s le. all-rows (goes_first (waits i r s)) n (r + 1) k (λ j q t lt. first-from (waits i r s) (waits j q t) (inl (omega arith)))))

  -- what they have of a node
  of-append : (i : ℕ) (xs ys : List Waiting) → of_node i (xs ++ ys) ≡ of_node i xs ++ of_node i ys
  of-append i xs ys = filter-append (λ (t : Waiting). eqb t.node i) xs ys

  of-at : (i r : ℕ) (o : Option Stamp) → of_node i (waiting_at i r o) ≡ waiting_at i r o
  of-at i r None = refl
  of-at i r (Some s) = cond-true (eqb i i) _ _ (eq-eqb i i refl)

  of-at-other : (i j r : ℕ) (o : Option Stamp) → j ≢ i → of_node i (waiting_at j r o) ≡ []
  of-at-other i j r None ne = refl
  of-at-other i j r (Some s) ne = cond-false (eqb j i) _ _ (ne_eqb j i ne)

  of-row-none : (r a n i : ℕ) → ((j : ℕ) → a ≤ j → j < a + n → j ≢ i) → of_node i (row pending r (range_with_len a n)) ≡ []
  of-row-none r a zero i other = refl
  of-row-none r a (suc n) i other = of-append i (waiting_at a r (slice_get (pending a) r)) (row pending r (range_with_len (a + 1) n))
      ∙ rw (of-at-other i a r (slice_get (pending a) r) (other a (omega arith) (omega arith))) (of-row-none r (a + 1) n i (λ j le lt. other j (omega arith) (omega arith)))

  of-row : (r a n i : ℕ) → a ≤ i → i < a + n → of_node i (row pending r (range_with_len a n)) ≡ waiting_at i r (slice_get (pending i) r)
  of-row r a zero i le lt = absurd (omega arith)
  of-row r a (suc n) i le lt =
      of-append i (waiting_at a r (slice_get (pending a) r)) (row pending r (range_with_len (a + 1) n))
      ∙ ⊎_elim (λ (e : a ≡ i). subst (λ (k : ℕ). of_node k (waiting_at a r (slice_get (pending a) r)) ++ of_node k (row pending r (range_with_len (a + 1) n)) ≡ waiting_at k r (slice_get (pending k) r)) e
      (rw (of-at a r (slice_get (pending a) r), of-row-none r (a + 1) n a (λ j low high (same : j ≡ a). omega arith)) (append-nil (waiting_at a r (slice_get (pending a) r)))))
      (λ (ne : a ≢ i). rw (of-at-other i a r (slice_get (pending a) r) ne) (of-row r (a + 1) n i (omega arith) (omega arith)))
      (cases_eq a i)

  of-rows-none : (n r k i : ℕ) → n ≤ i → of_node i (rows pending (range_with_len 0 n) r k) ≡ []
  of-rows-none n r zero i le = refl
  of-rows-none n r (suc k) i le = of-append i (row pending r (range_with_len 0 n)) (rows pending (range_with_len 0 n) (r + 1) k)
      ∙ rw (of-row-none r 0 n i (λ j low high (same : j ≡ i). omega arith)) (of-rows-none n (r + 1) k i le)

drop-past : (xs : List Stamp) (r : ℕ) → length xs ≤ r → drop r xs ≡ []
drop-past [] zero le = refl
drop-past [] (suc r) le = refl
drop-past (x ∷ xs) zero le = absurd (omega arith)
drop-past (x ∷ xs) (suc r) le = drop-past xs r (omega arith)

some_stamp : Stamp
some_stamp = record { ingest = record { 0 = 0 }; inc = record { 0 = 0 }; from = 0; to = 0 }

drop-step : (i : ℕ) (xs : List Stamp) (r : ℕ) → waiting_at i r (slice_get xs r) ++ waiting_from i (r + 1) (drop (r + 1) xs) ≡ waiting_from i r (drop r xs)
drop-step i xs r =
    let next : suc r ≡ r + 1 = omega arith in
    ⊎_elim (λ (lt : r < length xs). rw (slice_get-get_or xs r some_stamp lt)
    (subst (λ (m : ℕ). waits i r (get_or xs r some_stamp) ∷ waiting_from i (r + 1) (drop m xs) ≡ waiting_from i r (drop r xs)) next (sym (ap (waiting_from i r) (drop-cons xs r some_stamp lt)))))
    (λ (le : length xs ≤ r). rw (slice_get_past xs r le, drop-past xs r le, drop-past xs (r + 1) (omega arith)) refl)
    (cases_lt r (length xs))

of-rows : (pending : ℕ → List Stamp) (n i r k : ℕ) → i < n → of_node i (rows pending (range_with_len 0 n) r k) ++ waiting_from i (r + k) (drop (r + k) (pending i)) ≡ waiting_from i r (drop r (pending i))
of-rows pending n i r zero lt = let e : r + 0 ≡ r = omega arith in rw e refl
of-rows pending n i r (suc k) lt =
    let e : r + suc k ≡ r + 1 + k = omega arith in
    rw (e, of-append pending i (row pending r (range_with_len 0 n)) (rows pending (range_with_len 0 n) (r + 1) k), of-row pending r 0 n i (omega arith) (omega arith))
    (append_assoc (waiting_at i r (slice_get (pending i) r)) (of_node i (rows pending (range_with_len 0 n) (r + 1) k)) (waiting_from i (r + 1 + k) (drop (r + 1 + k) (pending i)))
    ∙ (ap (λ vs. waiting_at i r (slice_get (pending i) r) ++ vs) (of-rows pending n i (r + 1) k lt) ∙ drop-step i (pending i) r))

longest-ge : (pending : ℕ → List Stamp) (a n i : ℕ) → a ≤ i → i < a + n → length (pending i) ≤ longest pending (range_with_len a n)
longest-ge pending a zero i le lt = absurd (omega arith)
longest-ge pending a (suc n) i le lt =
    ⊎_elim (λ (e : a ≡ i). let same : length (pending a) ≡ length (pending i) = ap (λ (k : ℕ). length (pending k)) e in omega arith)
    (λ (ne : a ≢ i). let ih = longest-ge pending (a + 1) n i (omega arith) (omega arith) in omega arith)
    (cases_eq a i)

each-of-rows : (pending : ℕ → List Stamp) (nodes i : ℕ) → i < nodes → of_node i (rows pending (range_with_len 0 nodes) 0 (longest pending (range_with_len 0 nodes))) ≡ waiting_from i 0 (pending i)
each-of-rows pending nodes i lt =
    let m = longest pending (range_with_len 0 nodes) in
    let long : length (pending i) ≤ m = longest-ge pending 0 nodes i (omega arith) (omega arith) in
    let none : drop (0 + m) (pending i) ≡ [] = drop-past (pending i) (0 + m) (omega arith) in
    let all = rows pending (range_with_len 0 nodes) 0 m in
    sym (append-nil (of_node i all)) ∙ (ap (λ vs. of_node i all ++ waiting_from i (0 + m) vs) (sym none) ∙ of-rows pending nodes i 0 m lt)

pub rows-law : RowsLaw
rows-law pending nodes = sym (only-law pending nodes (rows pending (range_with_len 0 nodes) 0 (longest pending (range_with_len 0 nodes))) (record {
  by_number = rows-by_number pending nodes 0 (longest pending (range_with_len 0 nodes));
  each = λ i lt. each-of-rows pending nodes i lt;
  none = λ i le. of-rows-none pending nodes 0 (longest pending (range_with_len 0 nodes)) i le;
}))
