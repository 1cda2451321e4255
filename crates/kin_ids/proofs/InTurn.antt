-- Pending transactions put in order: what they have of each node, and that no other list in order has the same.
use Rattle.std.proofs.Common.{◌≡◌, ◌≢◌, ℕ, zero, suc, ◌+◌, ◌<◌, ◌≤◌, Bool, true, false, cond, eqb, ltb, leb, ◌&&◌, ◌⊎◌, inl, inr, ⊎_elim, List, [], ◌∷◌, ◌++◌, refl, sym, ◌∙◌, ap, subst, arith, length}
use Rattle.std.specs.List.{list_all}
use Rattle.std.proofs.lemmas.Bool.{cond_both, cond-true, cond-false, and_parts, and_from, or_cases, or_left, or_right, eqb-true, eq-eqb, ne_eqb, ltb-true, lt-ltb, leb-true, le-leb, both_ways, cases_eq, cases_lt}
use Rattle.std.proofs.lemmas.List.Elements.{filter-append}
use Rattle.kin_ids.specs.Types.{Stamp}
use Rattle.kin_ids.specs.Fair.{Waiting, waiting_from, all_waiting, goes_first, put_in, ordered, in_turn, of_node, IsByNumber, InTurnLaw, OnlyInTurnLaw}

-- what it is to go first
abbrev First : Waiting → Waiting → Type 0
First a b = (a.number < b.number) ⊎ ((a.number ≡ b.number) × (a.node ≤ b.node))

first-is : (a b : Waiting) → goes_first a b ≡ true → First a b
first-is a b h = ⊎_elim (λ (l : ltb a.number b.number ≡ true). inl (ltb-true _ _ l))
    (λ (r : (eqb a.number b.number && leb a.node b.node) ≡ true). let parts = and_parts _ _ r in inr (eqb-true _ _ parts.0, leb-true _ _ parts.1))
    (or_cases (ltb a.number b.number) (eqb a.number b.number && leb a.node b.node) h)

pub first-from : (a b : Waiting) → First a b → goes_first a b ≡ true
first-from a b (inl l) = or_left _ _ (lt-ltb _ _ l)
first-from a b (inr (e, l)) = or_right (ltb a.number b.number) _ (and_from _ _ (eq-eqb _ _ e) (le-leb _ _ l))

pub first-low : (a b : Waiting) → goes_first a b ≡ true → a.number ≤ b.number
first-low a b h = ⊎_elim (λ (l : a.number < b.number). omega arith) (λ (r : (a.number ≡ b.number) × (a.node ≤ b.node)). let e = r.0 in omega arith) (first-is a b h)

first-trans : (a b c : Waiting) → goes_first a b ≡ true → goes_first b c ≡ true → goes_first a c ≡ true
first-trans a b c h k = first-from a c (go (first-is a b h) (first-is b c k))
  where
    go : First a b → First b c → First a c
    go (inl l) (inl m) = inl (omega arith)
    go (inl l) (inr (e, m)) = inl (omega arith)
    go (inr (e, l)) (inl m) = inl (omega arith)
    go (inr (e, l)) (inr (f, m)) = inr (omega arith, omega arith)

first-total : (a b : Waiting) → goes_first a b ≡ false → goes_first b a ≡ true
first-total a b n =
    ⊎_elim (λ (l : b.number < a.number). first-from b a (inl l))
    (λ (le : a.number ≤ b.number). ⊎_elim (λ (l : b.node < a.node). ⊎_elim
    (λ (e : a.number ≡ b.number). first-from b a (inr (sym e, omega arith)))
    (λ (ne : a.number ≢ b.number). absurd (both_ways _ n (first-from a b (inl (below a.number b.number le ne))))) (cases_eq a.number b.number))
    (λ (m : a.node ≤ b.node). absurd (both_ways _ n (first-from a b (reach a.number b.number le m)))) (cases_lt b.node a.node))
    (cases_lt b.number a.number)
  where
    below : (m n : ℕ) → m ≤ n → m ≢ n → m < n
    below m n le ne = omega arith

    reach : (m n : ℕ) → m ≤ n → a.node ≤ b.node → (m < n) ⊎ ((m ≡ n) × (a.node ≤ b.node))
    reach m n le at = ⊎_elim (λ (e : m ≡ n). inr (e, at)) (λ (ne : m ≢ n). inl (omega arith)) (cases_eq m n)

first-both : (a b : Waiting) → goes_first a b ≡ true → goes_first b a ≡ true → a.node ≡ b.node
first-both a b h k = go (first-is a b h) (first-is b a k)
  where
    go : First a b → First b a → a.node ≡ b.node
    go (inl l) (inl m) = omega arith
    go (inl l) (inr (e, m)) = omega arith
    go (inr (e, l)) (inl m) = omega arith
    go (inr (e, l)) (inr (f, m)) = omega arith

all-first : (x y : Waiting) (ts : List Waiting) → goes_first x y ≡ true → list_all (goes_first y) ts ≡ true → list_all (goes_first x) ts ≡ true
all-first x y [] h all = refl
all-first x y (t ∷ ts) h all = let parts = and_parts (goes_first y t) (list_all (goes_first y) ts) all in and_from _ _ (first-trans x y t h parts.0) (all-first x y ts h parts.1)

-- putting in order
all-put_in : (p : Waiting → Bool) (x : Waiting) (ts : List Waiting) → p x ≡ true → list_all p ts ≡ true → list_all p (put_in x ts) ≡ true
all-put_in p x [] h all = and_from _ _ h refl
all-put_in p x (y ∷ ys) h all =
    let parts = and_parts (p y) (list_all p ys) all in
    cond_both (goes_first x y) (x ∷ y ∷ ys) (y ∷ put_in x ys) (λ zs. list_all p zs ≡ true) (λ _. and_from _ _ h all) (λ _. and_from _ _ parts.0 (all-put_in p x ys h parts.1))

put_in-by_number : (x : Waiting) (ts : List Waiting) → IsByNumber ts → IsByNumber (put_in x ts)
put_in-by_number x [] b = (refl, tt)
put_in-by_number x (y ∷ ys) b = cond_both (goes_first x y) (x ∷ y ∷ ys) (y ∷ put_in x ys) IsByNumber
    (λ t. (and_from _ _ t (all-first x y ys t b.0), b)) (λ n. (all-put_in (goes_first y) x ys (first-total x y n) b.0, put_in-by_number x ys b.1))

ordered-by_number : (xs : List Waiting) → IsByNumber (ordered xs)
ordered-by_number [] = tt
ordered-by_number (x ∷ xs) = put_in-by_number x (ordered xs) (ordered-by_number xs)

-- one node's transactions among those in order
pub all-of : (p : Waiting → Bool) (i : ℕ) (ts : List Waiting) → list_all p ts ≡ true → list_all p (of_node i ts) ≡ true
all-of p i [] all = refl
all-of p i (t ∷ ts) all =
    let parts = and_parts (p t) (list_all p ts) all in
    let rest = all-of p i ts parts.1 in
    cond_both (eqb t.node i) (t ∷ of_node i ts) (of_node i ts) (λ zs. list_all p zs ≡ true) (λ _. and_from _ _ parts.0 rest) (λ _. rest)

put_in-first : (x : Waiting) (ts : List Waiting) → list_all (goes_first x) ts ≡ true → put_in x ts ≡ x ∷ ts
put_in-first x [] all = refl
put_in-first x (y ∷ ys) all = cond-true (goes_first x y) _ _ (and_parts (goes_first x y) (list_all (goes_first x) ys) all).0

of-put_in-other : (i : ℕ) (x : Waiting) (ts : List Waiting) → eqb x.node i ≡ false → of_node i (put_in x ts) ≡ of_node i ts
of-put_in-other i x [] n = cond-false (eqb x.node i) _ _ n
of-put_in-other i x (y ∷ ys) n = cond_both (goes_first x y) (x ∷ y ∷ ys) (y ∷ put_in x ys) (λ zs. of_node i zs ≡ of_node i (y ∷ ys))
    (λ _. cond-false (eqb x.node i) _ _ n) (λ _. ap (λ zs. cond (eqb y.node i) (y ∷ zs) zs) (of-put_in-other i x ys n))

of-put_in : (i : ℕ) (x : Waiting) (ts : List Waiting) → IsByNumber ts → eqb x.node i ≡ true → of_node i (put_in x ts) ≡ put_in x (of_node i ts)
of-put_in i x [] b e = cond-true (eqb x.node i) _ _ e
of-put_in i x (y ∷ ys) b e = cond_both (goes_first x y) (x ∷ y ∷ ys) (y ∷ put_in x ys) (λ zs. of_node i zs ≡ put_in x (of_node i (y ∷ ys)))
    (λ t. cond-true (eqb x.node i) _ _ e ∙ sym (put_in-first x (of_node i (y ∷ ys)) (all-of (goes_first x) i (y ∷ ys) (and_from _ _ t (all-first x y ys t b.0)))))
    (λ n. cond_both (eqb y.node i) (y ∷ of_node i ys) (of_node i ys) (λ zs. cond (eqb y.node i) (y ∷ of_node i (put_in x ys)) (of_node i (put_in x ys)) ≡ put_in x zs)
    (λ s. cond-true (eqb y.node i) _ _ s ∙ (ap (λ zs. y ∷ zs) (of-put_in i x ys b.1 e) ∙ sym (cond-false (goes_first x y) _ _ n)))
    (λ s. cond-false (eqb y.node i) _ _ s ∙ of-put_in i x ys b.1 e))

of-ordered : (i : ℕ) (xs : List Waiting) → of_node i (ordered xs) ≡ ordered (of_node i xs)
of-ordered i [] = refl
of-ordered i (x ∷ xs) = cond_both (eqb x.node i) (x ∷ of_node i xs) (of_node i xs) (λ zs. of_node i (put_in x (ordered xs)) ≡ ordered zs)
    (λ e. of-put_in i x (ordered xs) (ordered-by_number xs) e ∙ ap (put_in x) (of-ordered i xs)) (λ n. of-put_in-other i x (ordered xs) n ∙ of-ordered i xs)

from-later : (i n m : ℕ) (s : Stamp) (ss : List Stamp) → n < m → list_all (goes_first (record { node = i; number = n; stamp = s })) (waiting_from i m ss) ≡ true
from-later i n m s [] lt = refl
from-later i n m s (t ∷ ss) lt = and_from _ _ (first-from (record { node = i; number = n; stamp = s }) (record { node = i; number = m; stamp = t }) (inl lt)) (from-later i n (m + 1) s ss (omega arith))

ordered-from : (i n : ℕ) (ss : List Stamp) → ordered (waiting_from i n ss) ≡ waiting_from i n ss
ordered-from i n [] = refl
ordered-from i n (s ∷ ss) = ap (put_in (record { node = i; number = n; stamp = s })) (ordered-from i (n + 1) ss) ∙ put_in-first (record { node = i; number = n; stamp = s }) (waiting_from i (n + 1) ss) (from-later i n (n + 1) s ss (omega arith))

pub of-from : (i n : ℕ) (ss : List Stamp) → of_node i (waiting_from i n ss) ≡ waiting_from i n ss
of-from i n [] = refl
of-from i n (s ∷ ss) = cond-true (eqb i i) _ _ (eq-eqb i i refl) ∙ ap (λ zs. record { node = i; number = n; stamp = s } ∷ zs) (of-from i (n + 1) ss)

of-from-other : (i j n : ℕ) (ss : List Stamp) → j ≢ i → of_node i (waiting_from j n ss) ≡ []
of-from-other i j n [] ne = refl
of-from-other i j n (s ∷ ss) ne = cond-false (eqb j i) _ _ (ne_eqb j i ne) ∙ of-from-other i j (n + 1) ss ne

of-all-none : (pending : ℕ → List Stamp) (n i : ℕ) → n ≤ i → of_node i (all_waiting pending n) ≡ []
of-all-none pending zero i le = refl
of-all-none pending (suc n) i le = filter-append (λ (t : Waiting). eqb t.node i) (all_waiting pending n) (waiting_from n 0 (pending n))
    ∙ rw (of-all-none pending n i (omega arith)) (of-from-other i n 0 (pending n) (λ (e : n ≡ i). omega arith))

of-all : (pending : ℕ → List Stamp) (n i : ℕ) → i < n → of_node i (all_waiting pending n) ≡ waiting_from i 0 (pending i)
of-all pending zero i lt = absurd (omega arith)
of-all pending (suc n) i lt = filter-append (λ (t : Waiting). eqb t.node i) (all_waiting pending n) (waiting_from n 0 (pending n))
    ∙ ⊎_elim (λ (e : n ≡ i). rw (of-all-none pending n i (omega arith)) (subst (λ (k : ℕ). of_node i (waiting_from k 0 (pending k)) ≡ waiting_from i 0 (pending i)) (sym e) (of-from i 0 (pending i))))
    (λ (ne : n ≢ i). rw (of-all pending n i (omega arith), of-from-other i n 0 (pending n) ne) (append-nothing (waiting_from i 0 (pending i))))
    (cases_eq n i)
  where
    append-nothing : (xs : List Waiting) → xs ++ [] ≡ xs
    append-nothing [] = refl
    append-nothing (x ∷ xs) = ap (λ ys. x ∷ ys) (append-nothing xs)

pub in_turn-law : InTurnLaw
in_turn-law pending nodes = record {
  by_number = ordered-by_number (all_waiting pending nodes);
  each = λ i lt. of-ordered i (all_waiting pending nodes) ∙ (ap ordered (of-all pending nodes i lt) ∙ ordered-from i 0 (pending i));
  none = λ i le. of-ordered i (all_waiting pending nodes) ∙ ap ordered (of-all-none pending nodes i le);
}

-- lists in order that have the same of each node
head-passes : (p : Waiting → Bool) (i : ℕ) (ts : List Waiting) (x : Waiting) (rest : List Waiting) → list_all p ts ≡ true → of_node i ts ≡ x ∷ rest → p x ≡ true
head-passes p i ts x rest all is = (and_parts (p x) (list_all p rest) (subst (λ zs. list_all p zs ≡ true) is (all-of p i ts all))).0

abbrev head_or : Waiting → List Waiting → Waiting
head_or d [] = d
head_or d (t ∷ ts) = t

abbrev tail_of : List Waiting → List Waiting
tail_of [] = []
tail_of (t ∷ ts) = ts

none-there : (y : Waiting) (ys : List Waiting) → [] ≡ of_node y.node (y ∷ ys) → ⊥
none-there y ys h = let e : 0 ≡ suc (length (of_node y.node ys)) = ap length (h ∙ cond-true (eqb y.node y.node) _ _ (eq-eqb y.node y.node refl)) in absurd (omega arith)

same-order : (xs ys : List Waiting) → IsByNumber xs → IsByNumber ys → ((i : ℕ) → of_node i xs ≡ of_node i ys) → xs ≡ ys
same-order [] [] a b h = refl
same-order [] (y ∷ ys) a b h = absurd (none-there y ys (h y.node))
same-order (x ∷ xs) [] a b h = absurd (none-there x xs (sym (h x.node)))
same-order (x ∷ xs) (y ∷ ys) a b h =
    let mine : of_node x.node (x ∷ xs) ≡ x ∷ of_node x.node xs = cond-true (eqb x.node x.node) _ _ (eq-eqb x.node x.node refl) in
    let yours : of_node y.node (y ∷ ys) ≡ y ∷ of_node y.node ys = cond-true (eqb y.node y.node) _ _ (eq-eqb y.node y.node refl) in
    ⊎_elim (λ (e : y.node ≡ x.node).
    let both : x ∷ of_node x.node xs ≡ y ∷ of_node x.node ys = sym mine ∙ (h x.node ∙ cond-true (eqb y.node x.node) _ _ (eq-eqb y.node x.node e)) in
    let one : x ≡ y = ap (head_or x) both in
    rw one (ap (λ zs. y ∷ zs) (same-order xs ys a.1 b.1 (λ i. tails (eqb y.node i) (of_node i xs) (of_node i ys) (rw one at (h i))))))
    (λ (ne : y.node ≢ x.node).
    let first = head-passes (goes_first y) x.node ys x (of_node x.node xs) b.0 (sym (cond-false (eqb y.node x.node) _ _ (ne_eqb y.node x.node ne)) ∙ (sym (h x.node) ∙ mine)) in
    let second = head-passes (goes_first x) y.node xs y (of_node y.node ys) a.0 (sym (cond-false (eqb x.node y.node) _ _ (ne_eqb x.node y.node (λ f. ne (sym f)))) ∙ (h y.node ∙ yours)) in
    absurd (ne (first-both y x first second)))
    (cases_eq y.node x.node)
  where
    tails : (t : Bool) (A B : List Waiting) → cond t (y ∷ A) A ≡ cond t (y ∷ B) B → A ≡ B
    tails true A B e = ap tail_of e
    tails false A B e = e

pub only-law : OnlyInTurnLaw
only-law pending nodes ts s =
    let is = in_turn-law pending nodes in
    same-order ts (in_turn pending nodes) s.by_number is.by_number
    (λ i. ⊎_elim (λ (lt : i < nodes). s.each i lt ∙ sym (is.each i lt)) (λ (le : nodes ≤ i). s.none i le ∙ sym (is.none i le)) (cases_lt i nodes))
