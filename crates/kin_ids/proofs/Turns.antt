-- Fronts of the transactions in turn, and where a fair cut ends a node.
use Rattle.std.proofs.Common.{◌≡◌, ◌≢◌, ℕ, zero, suc, ◌+◌, ◌-◌, ◌<◌, ◌≤◌, ◌⊎◌, Bool, true, false, cond, eqb, inl, inr, ⊎_elim, List, [], ◌∷◌, ◌++◌, refl, sym, ◌∙◌, ap, subst, arith, length}
use Rattle.std.specs.Prelude.{map, All}
use Rattle.std.specs.List.{list_all, AllByRecursion}
use Rattle.std.proofs.lemmas.Bool.{cond_both, and_parts, and_from, eqb-true, eqb-false, cases_lt}
use Rattle.std.proofs.lemmas.List.{length-append, map-append}
use Rattle.std.proofs.lemmas.List.Elements.{filter-append, All-head, All-tail}
use Rattle.kin_ids.specs.Types.{Stamp}
use Rattle.kin_ids.specs.Lines.{end_of, IsEnd}
use Rattle.kin_ids.specs.Fair.{Waiting, waiting_from, all_waiting, goes_first, put_in, ordered, in_turn, size, records, enough, last_end, fair, of_node, IsByNumber, IsShortest, ShortestLaw, IsSized, FewLaw, count_of, EvenLaw}
use Rattle.kin_ids.proofs.InTurn.{first-low, all-of, in_turn-law}

no_last : (shorter last : List Waiting) → [] ≡ shorter ++ last → 0 < length last → ⊥
no_last shorter last e lt = let n : 0 ≡ length shorter + length last = ap length e ∙ length-append shorter last in absurd (omega arith)

abbrev tail_of : List Waiting → List Waiting
tail_of [] = []
tail_of (t ∷ ts) = ts

abbrev head_or : Waiting → List Waiting → Waiting
head_or d [] = d
head_or d (t ∷ ts) = t

pub shortest-law : ShortestLaw
shortest-law n [] = record { rest = []; front = refl; least = inr refl; shortest = λ shorter last e lt. absurd (no_last shorter last e lt) }
shortest-law n (t ∷ ts) = go (eqb n 0) refl (shortest-law (n - size t.stamp) ts)
  where
    go : (b : Bool) → eqb n 0 ≡ b → IsShortest (n - size t.stamp) ts (enough (n - size t.stamp) ts) → IsShortest n (t ∷ ts) (cond b [] (t ∷ enough (n - size t.stamp) ts))
    go true e ih = let none : n ≡ 0 = eqb-true _ _ e in record { rest = t ∷ ts; front = refl; least = inl (omega arith); shortest = λ shorter last e lt. absurd (no_last shorter last e lt) }
    go false e ih = record {
      rest = ih.rest;
      front = ap (λ xs. t ∷ xs) ih.front;
      least = ⊎_elim (λ (le : n - size t.stamp ≤ records (enough (n - size t.stamp) ts)). inl (omega arith)) (λ (none : ih.rest ≡ []). inr none) ih.least;
      shortest = shorter_by;
    }
      where
        shorter_by : (shorter last : List Waiting) → t ∷ enough (n - size t.stamp) ts ≡ shorter ++ last → 0 < length last → records shorter < n
        shorter_by [] last same lt = let some : n ≢ 0 = eqb-false _ _ e in omega arith
        shorter_by (x ∷ shorter) last same lt =
            let less : records shorter < n - size t.stamp = ih.shortest shorter last (ap tail_of same) lt in
            let one : t ≡ x = ap (head_or t) same in
            let alike : size t.stamp ≡ size x.stamp = ap (λ (u : Waiting). size u.stamp) one in
            omega arith

pub enough-none : (n : ℕ) (ts : List Waiting) → n ≡ 0 → enough n ts ≡ []
enough-none n [] e = refl
enough-none n (t ∷ ts) e = rw e refl

-- a node's end is that of its stamps
abbrev stamps : List Waiting → List Stamp
stamps ts = map (λ (t : Waiting). t.stamp) ts

last-is : (at i : ℕ) (ts : List Waiting) → last_end at i ts ≡ end_of at (stamps (of_node i ts))
last-is at i [] = refl
last-is at i (t ∷ ts) = cond_both (eqb t.node i) (t ∷ of_node i ts) (of_node i ts) (λ xs. last_end (cond (eqb t.node i) t.stamp.to at) i ts ≡ end_of at (stamps xs))
    (λ e. rw e (last-is t.stamp.to i ts)) (λ e. rw e (last-is at i ts))

stamps-from : (i n : ℕ) (ss : List Stamp) → stamps (waiting_from i n ss) ≡ ss
stamps-from i n [] = refl
stamps-from i n (s ∷ ss) = ap (λ xs. s ∷ xs) (stamps-from i (n + 1) ss)

pub front-end_of : (at : ℕ) (xs ys : List Stamp) → IsEnd at (xs ++ ys) (end_of at xs)
front-end_of at [] [] = refl
front-end_of at [] (y ∷ ys) = inl refl
front-end_of at (x ∷ xs) ys = inr (front-end_of x.to xs ys)

of-append : (i : ℕ) (xs ys : List Waiting) → of_node i (xs ++ ys) ≡ of_node i xs ++ of_node i ys
of-append i xs ys = filter-append (λ (t : Waiting). eqb t.node i) xs ys

-- what is taken of a node and what is left are its pending transactions
taken-left : (pending : ℕ → List Stamp) (nodes n i : ℕ) → i < nodes →
    of_node i (enough n (in_turn pending nodes)) ++ of_node i (shortest-law n (in_turn pending nodes)).rest ≡ waiting_from i 0 (pending i)
taken-left pending nodes n i lt =
    let s = shortest-law n (in_turn pending nodes) in
    sym (of-append i (enough n (in_turn pending nodes)) s.rest) ∙ (ap (of_node i) (sym s.front) ∙ (in_turn-law pending nodes).each i lt)

-- where a fair cut ends a node is an end of its pending line
pub fair-end : (prev : ℕ → ℕ) (pending : ℕ → List Stamp) (nodes n i : ℕ) → i < nodes → IsEnd (prev i) (pending i) (fair prev pending nodes n i)
fair-end prev pending nodes n i lt =
    let taken = of_node i (enough n (in_turn pending nodes)) in
    let left = of_node i (shortest-law n (in_turn pending nodes)).rest in
    let is : pending i ≡ stamps taken ++ stamps left =
    sym (stamps-from i 0 (pending i)) ∙ (ap stamps (sym (taken-left pending nodes n i lt)) ∙ map-append (λ (t : Waiting). t.stamp) taken left) in
    rw (last-is (prev i) i (enough n (in_turn pending nodes))) (subst (λ xs. IsEnd (prev i) xs (end_of (prev i) (stamps taken))) (sym is) (front-end_of (prev i) (stamps taken) (stamps left)))

-- what is pending below the number of nodes decides
all-alike : (f g : ℕ → List Stamp) (n : ℕ) → ((i : ℕ) → i < n → f i ≡ g i) → all_waiting f n ≡ all_waiting g n
all-alike f g zero h = refl
all-alike f g (suc n) h = rw (all-alike f g n (λ i lt. h i (omega arith)), h n (omega arith)) refl

pub fair-alike : (p q : ℕ → ℕ) (f g : ℕ → List Stamp) (nodes n i : ℕ) → p i ≡ q i → ((j : ℕ) → j < nodes → f j ≡ g j) → fair p f nodes n i ≡ fair q g nodes n i
fair-alike p q f g nodes n i e h = rw (e, all-alike f g nodes h) refl

-- a cut has few records
abbrev Sized : Waiting → Type 0
Sized t = IsSized t.stamp

sized-from : (i n : ℕ) (ss : List Stamp) → All IsSized ss → AllByRecursion Sized (waiting_from i n ss)
sized-from i n [] all = tt
sized-from i n (s ∷ ss) all = (All-head IsSized s ss all, sized-from i (n + 1) ss (All-tail IsSized s ss all))

sized-append : (xs ys : List Waiting) → AllByRecursion Sized xs → AllByRecursion Sized ys → AllByRecursion Sized (xs ++ ys)
sized-append [] ys a b = b
sized-append (x ∷ xs) ys a b = (a.0, sized-append xs ys a.1 b)

sized-all : (pending : ℕ → List Stamp) (n : ℕ) → ((i : ℕ) → i < n → All IsSized (pending i)) → AllByRecursion Sized (all_waiting pending n)
sized-all pending zero all = tt
sized-all pending (suc n) all = sized-append (all_waiting pending n) (waiting_from n 0 (pending n)) (sized-all pending n (λ i lt. all i (omega arith))) (sized-from n 0 (pending n) (all n (omega arith)))

sized-put_in : (x : Waiting) (ts : List Waiting) → Sized x → AllByRecursion Sized ts → AllByRecursion Sized (put_in x ts)
sized-put_in x [] h all = (h, tt)
sized-put_in x (y ∷ ys) h all = cond_both (goes_first x y) (x ∷ y ∷ ys) (y ∷ put_in x ys) (AllByRecursion Sized) (λ _. (h, all)) (λ _. (all.0, sized-put_in x ys h all.1))

sized-ordered : (xs : List Waiting) → AllByRecursion Sized xs → AllByRecursion Sized (ordered xs)
sized-ordered [] all = tt
sized-ordered (x ∷ xs) all = sized-put_in x (ordered xs) all.0 (sized-ordered xs all.1)

few-records : (n : ℕ) (ts : List Waiting) → AllByRecursion Sized ts → records (enough n ts) ≤ n + 15
few-records n [] all = omega arith
few-records n (t ∷ ts) all =
    let few = all.0.few in
    let ih = few-records (n - size t.stamp) ts all.1 in
    cond_both (eqb n 0) [] (t ∷ enough (n - size t.stamp) ts) (λ us. records us ≤ n + 15) (λ _. omega arith)
    (λ e. let some : n ≢ 0 = eqb-false _ _ e in
    ⊎_elim (λ (lt : size t.stamp < n). omega arith)
    (λ (le : n ≤ size t.stamp).
    let none : records (enough (n - size t.stamp) ts) ≡ 0 = ap records (enough-none (n - size t.stamp) ts (omega arith)) in omega arith)
    (cases_lt (size t.stamp) n))

pub few-law : FewLaw
few-law pending nodes n sized = few-records n (in_turn pending nodes) (sized-ordered (all_waiting pending nodes) (sized-all pending nodes sized))

-- a cut is even
all-before : (xs ys : List Waiting) (z : Waiting) (p : Waiting → Bool) → IsByNumber (xs ++ ys) → ((x : Waiting) → list_all (goes_first x) ys ≡ true → p x ≡ true) → list_all p xs ≡ true
all-before [] ys z p b h = refl
all-before (x ∷ xs) ys z p b h = and_from _ _ (h x (after x xs ys b.0)) (all-before xs ys z p b.1 h)
  where
    after : (x : Waiting) (xs ys : List Waiting) → list_all (goes_first x) (xs ++ ys) ≡ true → list_all (goes_first x) ys ≡ true
    after x [] ys all = all
    after x (y ∷ xs) ys all = after x xs ys (and_parts (goes_first x y) (list_all (goes_first x) (xs ++ ys)) all).1

-- the number of the first that is left is how many are taken
number-left : (i n : ℕ) (ss : List Stamp) (xs ys : List Waiting) (z : Waiting) → xs ++ z ∷ ys ≡ waiting_from i n ss → z.number ≡ n + length xs
number-left i n [] [] ys z e = let no : suc (length ys) ≡ 0 = ap length e in absurd (omega arith)
number-left i n [] (x ∷ xs) ys z e = let no : suc (length (xs ++ z ∷ ys)) ≡ 0 = ap length e in absurd (omega arith)
number-left i n (s ∷ ss) [] ys z e = let is : z.number ≡ n = ap (λ ts. (head_or z ts).number) e in omega arith
number-left i n (s ∷ ss) (x ∷ xs) ys z e = let ih = number-left i (n + 1) ss xs ys z (ap tail_of e) in omega arith

-- where all that are taken have numbers up to one, so many are taken at most
count-below : (j n m : ℕ) (ss : List Stamp) (xs ys : List Waiting) (z : Waiting) → xs ++ ys ≡ waiting_from j n ss → list_all (λ t. goes_first t z) xs ≡ true → (length xs ≡ 0) ⊎ (n + length xs ≤ z.number + 1)
count-below j n m ss [] ys z e all = inl refl
count-below j n m [] (x ∷ xs) ys z e all = let no : suc (length (xs ++ ys)) ≡ 0 = ap length e in absurd (omega arith)
count-below j n m (s ∷ ss) (x ∷ xs) ys z e all =
    let parts = and_parts (goes_first x z) (list_all (λ t. goes_first t z) xs) all in
    let is : x.number ≡ n = ap (λ ts. (head_or x ts).number) e in
    let low = first-low x z parts.0 in
    ⊎_elim (λ (none : length xs ≡ 0). inr (omega arith)) (λ (few : n + 1 + length xs ≤ z.number + 1). inr (omega arith))
    (count-below j (n + 1) m ss xs ys z (ap tail_of e) parts.1)

pub even-law : EvenLaw
even-law pending nodes n i j i_lt j_lt =
    let s = shortest-law n (in_turn pending nodes) in
    go (of_node i s.rest) refl
  where
    taken : List Waiting
    taken = enough n (in_turn pending nodes)

    go : (left : List Waiting) → of_node i (shortest-law n (in_turn pending nodes)).rest ≡ left → (count_of j taken ≤ count_of i taken + 1) ⊎ (count_of i taken ≡ length (pending i))
    go [] e =
        let all : stamps (of_node i taken) ≡ pending i = ap stamps (sym (append-nothing (of_node i taken)) ∙ (ap (λ zs. of_node i taken ++ zs) (sym e) ∙ taken-left pending nodes n i i_lt)) ∙ stamps-from i 0 (pending i) in
        inr (sym (length-stamps (of_node i taken)) ∙ ap length all)
      where
        append-nothing : (xs : List Waiting) → xs ++ [] ≡ xs
        append-nothing [] = refl
        append-nothing (x ∷ xs) = ap (λ ys. x ∷ ys) (append-nothing xs)

        length-stamps : (xs : List Waiting) → length (stamps xs) ≡ length xs
        length-stamps [] = refl
        length-stamps (x ∷ xs) = ap suc (length-stamps xs)
    go (z ∷ zs) e =
        let s = shortest-law n (in_turn pending nodes) in
        let number : z.number ≡ 0 + count_of i taken = number-left i 0 (pending i) (of_node i taken) zs z (ap (λ us. of_node i taken ++ us) (sym e) ∙ taken-left pending nodes n i i_lt) in
        let by : IsByNumber (taken ++ s.rest) = subst IsByNumber s.front (in_turn-law pending nodes).by_number in
        let before : list_all (λ t. goes_first t z) taken ≡ true = all-before taken s.rest z (λ t. goes_first t z) by
        (λ x all. (and_parts (goes_first x z) (list_all (goes_first x) zs) (subst (λ us. list_all (goes_first x) us ≡ true) e (all-of (goes_first x) i s.rest all))).0) in
        inl (⊎_elim (λ (none : count_of j taken ≡ 0). omega arith) (λ (few : 0 + count_of j taken ≤ z.number + 1). omega arith)
        (count-below j 0 0 (pending j) (of_node j taken) (of_node j s.rest) z (taken-left pending nodes n j j_lt) (all-of (λ t. goes_first t z) j taken before)))
