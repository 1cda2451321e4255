-- A cut with a number has to do with so many pending transactions of each node.
use Rattle.std.proofs.Common.{◌≡◌, ◌≢◌, ℕ, zero, suc, ◌+◌, ◌-◌, ◌<◌, ◌≤◌, cond, eqb, ⊎_elim, List, [], ◌∷◌, ◌++◌, Option, Some, None}
use Rattle.std.proofs.Common.{refl, sym, ◌∙◌, ap, subst, arith, length, take, drop, min, Result, Ok, Err}
use Rattle.std.specs.Prelude.{map, IfOk}
use Rattle.std.specs.List.{All, slice_get, range_with_len}
use Rattle.std.proofs.lemmas.Bool.{cond-true, cases_lt, cases_eq, eq-eqb}
use Rattle.std.proofs.lemmas.List.{length-take, append_assoc, take-append-drop, get_or-map}
use Rattle.std.proofs.lemmas.List.Elements.{All-head, All-tail, All-weaker}
use Rattle.kin_ids.specs.declared.stamps.Stamp.{Stamp}
use Rattle.kin_ids.specs.declared.ops.Piece.{Piece}
use Rattle.kin_ids.specs.Lines.{IsEnd, stamps_of}
use Rattle.kin_ids.specs.Fair.{Waiting, size, records, enough, fair, last_end}
use Rattle.kin_ids.specs.Rounds.{waiting_at, row, rows, longest}
use Rattle.kin_ids.proofs.Rounds.{first_within}
use Rattle.kin_ids.proofs.RowOrder.{rows-law}
use Rattle.kin_ids.proofs.Turns.{enough-none, fair-end, fair-alike}
use Rattle.kin_table.specs.Ends.{inc_at, end_of_cut}
use Rattle.kin_table.specs.Lists.{list_at}
use Rattle.kin_table.specs.Tables.{TableView, last_of}
use Rattle.kin_table.specs.Cuts.{IsNextCut, next_position}
use Rattle.kin_table.specs.declared.cuts.Cut.{Cut}
use Rattle.kin_table.specs.declared.answers.CutRefused.{CutRefused}
use Rattle.kin_hub.specs.Cuts.{HasRecords, front_for}

-- what is beyond enough isn't taken
enough-front : (n : ℕ) (xs ys : List Waiting) → n ≤ records xs → enough n (xs ++ ys) ≡ enough n xs
enough-front n [] ys le = enough-none n ys (omega arith)
enough-front n (t ∷ ts) ys le = ap (λ (rest : List Waiting). cond (eqb n 0) [] (t ∷ rest))
    (enough-front (n - size t.stamp) ts ys (omega arith))

records-append : (xs ys : List Waiting) → records (xs ++ ys) ≡ records xs + records ys
records-append [] ys = omega arith
records-append (t ∷ ts) ys = let ih = records-append ts ys in omega arith

rows-append : (pending : ℕ → List Stamp) (is : List ℕ) (r a b : ℕ) → rows pending is r (a + b) ≡ rows pending is r a ++ rows pending is
    (r + a) b
rows-append pending is r zero b =
    let none : 0 + b ≡ b = omega arith in
    let same : r ≡ r + 0 = omega arith in
    ap (rows pending is r) none ∙ ap (λ (k : ℕ). rows pending is k b) same
rows-append pending is r (suc a) b =
    let more : suc a + b ≡ suc (a + b) = omega arith in
    let next : r + 1 + a ≡ r + suc a = omega arith in
    ap (rows pending is r) more ∙ (ap (λ ts. row pending r is ++ ts) (rows-append pending is (r + 1) a b
    ∙ ap (λ (k : ℕ). rows pending is (r + 1) a ++ rows pending is k b) next)
    ∙ sym (append_assoc (row pending r is) (rows pending is (r + 1) a) (rows pending is (r + suc a) b)))

-- the first transactions are the same
get-take : (ss : List Stamp) (n r : ℕ) → r < n → slice_get (take n ss) r ≡ slice_get ss r
get-take [] zero r lt = refl
get-take [] (suc n) r lt = refl
get-take (s ∷ ss) zero r lt = absurd (omega arith)
get-take (s ∷ ss) (suc n) zero lt = refl
get-take (s ∷ ss) (suc n) (suc r) lt = get-take ss n r (omega arith)

module _ (pending : ℕ → List Stamp) (n : ℕ) where
  abbrev Front : ℕ → List Stamp
  Front i = take n (pending i)

  row-take : (r : ℕ) (is : List ℕ) → r < n → row Front r is ≡ row pending r is
  row-take r [] lt = refl
  row-take r (i ∷ is) lt = ap (λ o. waiting_at i r o ++ row Front r is) (get-take (pending i) n r lt)
      ∙ ap (λ ts. waiting_at i r (slice_get (pending i) r) ++ ts) (row-take r is lt)

  rows-take : (is : List ℕ) (r k : ℕ) → r + k ≤ n → rows Front is r k ≡ rows pending is r k
  rows-take is r zero le = refl
  rows-take is r (suc k) le = ap (λ ts. ts ++ rows Front is (r + 1) k) (row-take r is (omega arith))
      ∙ ap (λ ts. row pending r is ++ ts) (rows-take is (r + 1) k (omega arith))

  longest-take : (is : List ℕ) → longest Front is ≡ min n (longest pending is)
  longest-take [] = omega arith
  longest-take (i ∷ is) = let one = length-take n (pending i) in let rest = longest-take is in omega arith

-- a row that has a transaction has a record
module _ (pending : ℕ → List Stamp) where
  turn-some : (i q : ℕ) (ss : List Stamp) (r : ℕ) → All HasRecords ss → r < length ss → 1 ≤ records (waiting_at i q (slice_get ss r))
  turn-some i q [] r all lt = absurd (omega arith)
  turn-some i q (s ∷ ss) zero all lt = let some : s.from < s.to = All-head HasRecords s ss all in omega arith
  turn-some i q (s ∷ ss) (suc r) all lt = turn-some i q ss r (All-tail HasRecords s ss all) (omega arith)

  row-some : (is : List ℕ) (r : ℕ) → All (λ (i : ℕ). All HasRecords (pending i)) is → r < longest pending is
      → 1 ≤ records (row pending r is)
  row-some [] r all lt = absurd (omega arith)
  row-some (i ∷ is) r all lt =
      let both = records-append (waiting_at i r (slice_get (pending i) r)) (row pending r is) in
      ⊎_elim (λ (here : r < length (pending i)). let some = turn-some i r (pending i) r
      (All-head (λ (i : ℕ). All HasRecords (pending i)) i is all) here in omega arith)
      (λ (past : length (pending i) ≤ r). let rest = row-some is r (All-tail (λ (i : ℕ). All HasRecords (pending i)) i is all)
      (omega arith) in omega arith)
      (cases_lt r (length (pending i)))

  rows-some : (is : List ℕ) (r k : ℕ) → All (λ (i : ℕ). All HasRecords (pending i)) is → r + k ≤ longest pending is
      → k ≤ records (rows pending is r k)
  rows-some is r zero all le = omega arith
  rows-some is r (suc k) all le =
      let both = records-append (row pending r is) (rows pending is (r + 1) k) in
      let one = row-some is r all (omega arith) in
      let rest = rows-some is (r + 1) k all (omega arith) in
      omega arith

  -- so many transactions of each node are enough
  enough-take : (n : ℕ) (is : List ℕ) → All (λ (i : ℕ). All HasRecords (pending i)) is →
      enough n (rows (λ i. take n (pending i)) is 0 (longest (λ i. take n (pending i)) is))
      ≡ enough n (rows pending is 0 (longest pending is))
  enough-take n is all =
      let short = longest-take pending n is in
      let first = rows-take pending n is 0 (longest (λ i. take n (pending i)) is) (omega arith) in
      ap (enough n) first ∙ ⊎_elim
      (λ (low : longest pending is < n). let same : longest (λ i. take n (pending i)) is ≡ longest pending is = omega arith in
      ap (λ (k : ℕ). enough n (rows pending is 0 k)) same)
      (λ (high : n ≤ longest pending is).
      let same : longest (λ i. take n (pending i)) is ≡ n = omega arith in
      let all_of : n + (longest pending is - n) ≡ longest pending is = omega arith in
      ap (λ (k : ℕ). enough n (rows pending is 0 k)) same
      ∙ (sym (enough-front n (rows pending is 0 n) (rows pending is (0 + n) (longest pending is - n)) (rows-some is 0 n all (omega arith)))
      ∙ (ap (enough n) (sym (rows-append pending is 0 n (longest pending is - n)))
      ∙ ap (λ (k : ℕ). enough n (rows pending is 0 k)) all_of)))
      (cases_lt (longest pending is) n)

pub fair-take : (prev : ℕ → ℕ) (pending : ℕ → List Stamp) (nodes n i : ℕ) → All (λ (i : ℕ). All HasRecords (pending i))
    (range_with_len 0 nodes) →
    fair prev (λ j. take n (pending j)) nodes n i ≡ fair prev pending nodes n i
fair-take prev pending nodes n i all = ap (last_end (prev i) i)
    (ap (enough n) (rows-law (λ j. take n (pending j)) nodes) ∙ (enough-take pending n (range_with_len 0 nodes) all
    ∙ ap (enough n) (sym (rows-law pending nodes))))

-- the incarnation at an end of the front
inc_at-front : (at v : ℕ) (xs ys : List Stamp) → IsEnd at xs v → v ≢ at → inc_at (xs ++ ys) v ≡ inc_at xs v
inc_at-front at v [] ys e ne = absurd (ne e)
inc_at-front at v (s ∷ xs) ys e ne = ⊎_elim
    (λ (same : s.to ≡ v). cond-true (eqb s.to v) _ _ (eq-eqb _ _ same) ∙ sym (cond-true (eqb s.to v) _ _ (eq-eqb _ _ same)))
    (λ (other : s.to ≢ v). ap (λ (c : ℕ). cond (eqb s.to v) s.inc.0 c)
    (inc_at-front s.to v xs ys (⊎_elim (λ (h : v ≡ at). absurd (ne h)) (λ (h : IsEnd s.to xs v). h) e) (λ h. other (sym h))))
    (cases_eq s.to v)

module _ (t : TableView) (lists : List (List Stamp)) (count : length lists ≡ length t.agreed) (sized : (i : ℕ) → i < length t.agreed
    → All HasRecords (list_at lists i)) where
  front-at : (n : Option ℕ) (i : ℕ) → i < length t.agreed → list_at (map (front_for n) lists) i ≡ front_for n (list_at lists i)
  front-at n i lt = get_or-map (front_for {A = Stamp} n) lists i [] [] (omega arith)

  abbrev last : ℕ → ℕ
  last j = (last_of t j).to

  position-same : (n : Option ℕ) (i : ℕ) → i < length t.agreed → next_position t n (map (front_for n) lists) i ≡ next_position t n lists i
  position-same None i lt = refl
  position-same (Some m) i lt =
      fair-alike last last (list_at (map (front_for (Some m)) lists)) (λ j. take m (list_at lists j)) (length t.agreed) m i refl
      (λ j j_lt. front-at (Some m) j j_lt)
      ∙ fair-take last (list_at lists) (length t.agreed) m i
      (All-weaker (λ (j : ℕ). j < length t.agreed) (λ (j : ℕ). All HasRecords (list_at lists j)) sized
      (range_with_len 0 (length t.agreed)) (first_within (length t.agreed)))

  end-same : (n : Option ℕ) (i : ℕ) → i < length t.agreed → end_of_cut (last_of t i) (list_at (map (front_for n) lists) i)
      (next_position t n lists i) ≡ end_of_cut (last_of t i) (list_at lists i) (next_position t n lists i)
  end-same None i lt = ap (λ (ss : List Stamp). end_of_cut (last_of t i) ss (next_position t None lists i)) (front-at None i lt)
  end-same (Some m) i lt =
      let v = next_position t (Some m) lists i in
      let ss = list_at lists i in
      let at : IsEnd (last i) (take m ss) v = subst (IsEnd (last i) (take m ss)) (position-same (Some m) i lt)
      (subst (λ (xs : List Stamp). IsEnd (last i) xs (next_position t (Some m) (map (front_for (Some m)) lists) i))
      (front-at (Some m) i lt)
      (fair-end last (list_at (map (front_for (Some m)) lists)) (length t.agreed) m i lt)) in
      ap (λ (xs : List Stamp). end_of_cut (last_of t i) xs v) (front-at (Some m) i lt)
      ∙ ⊎_elim
      (λ (e : v ≡ last i). cond-true (eqb v (last i)) _ _ (eq-eqb v (last i) e)
      ∙ sym (cond-true (eqb v (last i)) _ _ (eq-eqb v (last i) e)))
      (λ (ne : v ≢ last i).
      let inc : inc_at (take m ss) v ≡ inc_at ss v = sym (inc_at-front (last i) v (take m ss) (drop m ss) at ne)
      ∙ ap (λ (xs : List Stamp). inc_at xs v) (take-append-drop m ss) in
      ap (λ (k : ℕ). cond (eqb v (last i)) (last_of t i) (record { inc = record { 0 = k }; to = v })) inc)
      (cases_eq v (last i))

  -- the cut over the fronts is the cut
  pub fronts-next : (n : Option ℕ) (cut : Cut) → IsNextCut t n (map (front_for n) lists) cut → IsNextCut t n lists cut
  fronts-next n cut is = record {
    epoch = is.epoch;
    count = is.count;
    ends = λ i lt. is.ends i lt ∙ (ap (end_of_cut (last_of t i) (list_at (map (front_for n) lists) i)) (position-same n i lt)
        ∙ end-same n i lt);
  }

  pub cut-fronts : (n : Option ℕ) (r : Result Cut CutRefused) → IfOk r (IsNextCut t n (map (front_for n) lists))
      → IfOk r (IsNextCut t n lists)
  cut-fronts n (Ok cut) is = fronts-next n cut is
  cut-fronts n (Err e) is = tt

-- the stamps of the first pieces are the first stamps
stamps-all : (xs : List Piece) → map (λ (x : Piece). x.stamp) xs ≡ stamps_of xs
stamps-all [] = refl
stamps-all (x ∷ xs) = ap (λ ss. x.stamp ∷ ss) (stamps-all xs)

stamps-take : (m : ℕ) (xs : List Piece) → map (λ (x : Piece). x.stamp) (take m xs) ≡ take m (stamps_of xs)
stamps-take zero [] = refl
stamps-take zero (x ∷ xs) = refl
stamps-take (suc m) [] = refl
stamps-take (suc m) (x ∷ xs) = ap (λ ss. x.stamp ∷ ss) (stamps-take m xs)

pub front-stamps : (n : Option ℕ) (xs : List Piece) → map (λ (x : Piece). x.stamp) (front_for n xs) ≡ front_for n (stamps_of xs)
front-stamps None xs = stamps-all xs
front-stamps (Some m) xs = stamps-take m xs
