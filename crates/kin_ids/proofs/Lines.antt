-- Lines of stamps, their ends, and their longest fronts that arrived.
use Rattle.std.proofs.Common.{◌≡◌, ◌≢◌, ℕ, zero, suc, ◌<◌, ◌≤◌, Bool, true, false, cond, eqb, leb, max, ◌&&◌, ◌||◌, inl, inr, ⊎_elim, List, [], ◌∷◌, ◌++◌, refl, sym, ◌∙◌, ap, subst, arith, min}
use Rattle.std.proofs.lemmas.Bool.{cond_both, cond-true, cond-false, false≢true, and_parts, or_cases, or_left, or_right, eqb-true, eq-eqb, both_ways, cases_lt, cases_eq, leb-true, leb-false, le-leb, lt-leb}
use Rattle.std.proofs.lemmas.Bool.Decides.{nat_tests}
use Rattle.kin_ids.specs.Types.{Stamp}
use Rattle.kin_ids.specs.Lines.{end_of, same_stamp, has, front_in, IsLine, IsEnd, least_from, upto, past, made_by, is_of, seen_in}

pub same_stamp-refl : (s : Stamp) → same_stamp s s ≡ true
same_stamp-refl s = grind (arith, nat_tests)

abbrev stamp_of : ℕ → ℕ → ℕ → ℕ → Stamp
stamp_of i c from to = record { ingest = record { 0 = i }; inc = record { 0 = c }; from = from; to = to }

pub same_from_test : (a b : Stamp) → same_stamp a b ≡ true → a ≡ b
same_from_test a b h =
    let parts = and_parts _ _ h in
    let first = and_parts _ _ parts.0 in
    let second = and_parts _ _ parts.1 in
    let p : a.ingest.0 ≡ b.ingest.0 = eqb-true _ _ first.0 in
    let q : a.inc.0 ≡ b.inc.0 = eqb-true _ _ first.1 in
    let r : a.from ≡ b.from = eqb-true _ _ second.0 in
    let t : a.to ≡ b.to = eqb-true _ _ second.1 in
    ap (λ (x : ℕ). stamp_of x a.inc.0 a.from a.to) p ∙ ap (λ (x : ℕ). stamp_of b.ingest.0 x a.from a.to) q
    ∙ ap (λ (x : ℕ). stamp_of b.ingest.0 b.inc.0 x a.to) r ∙ ap (λ (x : ℕ). stamp_of b.ingest.0 b.inc.0 b.from x) t

pub has-push : (ss : List Stamp) (s t : Stamp) → has (ss ++ s ∷ []) t ≡ (has ss t || same_stamp s t)
has-push [] s t = grind arith
has-push (x ∷ ss) s t = grind (arith, has-push ss s t)

pub end_of-append : (at : ℕ) (xs ys : List Stamp) → end_of at (xs ++ ys) ≡ end_of (end_of at xs) ys
end_of-append at [] ys = refl
end_of-append at (x ∷ xs) ys = end_of-append x.to xs ys

pub IsLine-append : (at : ℕ) (xs ys : List Stamp) → IsLine at xs → IsLine (end_of at xs) ys → IsLine at (xs ++ ys)
IsLine-append at [] ys first second = second
IsLine-append at (x ∷ xs) ys first second = (first.0, first.1, IsLine-append x.to xs ys first.2 second)

pub line_grows : (at : ℕ) (ss : List Stamp) → IsLine at ss → at ≤ end_of at ss
line_grows at [] l = omega arith
line_grows at (s ∷ ss) l = let ih = line_grows s.to ss l.2 in let lt : at < s.to = l.1 in omega arith

-- where a stamp of a line lies
pub record Lies (at : ℕ) (ss : List Stamp) (s : Stamp) : Type 0 where
  pub from : at ≤ s.from
  pub some : s.from < s.to
  pub to : s.to ≤ end_of at ss

pub lies : (at : ℕ) (ss : List Stamp) (s : Stamp) → IsLine at ss → has ss s ≡ true → Lies at ss s
lies at [] s l h = absurd (false≢true h)
lies at (x ∷ ss) s l h =
    ⊎_elim (λ (e : same_stamp x s ≡ true).
    let same : x ≡ s = same_from_test x s e in
    let grows = line_grows x.to ss l.2 in
    let from : x.from ≡ s.from = ap (λ (y : Stamp). y.from) same in
    let to : x.to ≡ s.to = ap (λ (y : Stamp). y.to) same in
    let begins : x.from ≡ at = l.0 in
    let some : at < x.to = l.1 in
    record { from = omega arith; some = omega arith; to = omega arith })
    (λ (r : has ss s ≡ true).
    let ih = lies x.to ss s l.2 r in
    let some : at < x.to = l.1 in
    let a = ih.from in
    record { from = omega arith; some = ih.some; to = ih.to })
    (or_cases (same_stamp x s) (has ss s) h)

-- two stamps of a line that begin at one position are one
pub only_at : (at : ℕ) (ss : List Stamp) (s t : Stamp) → IsLine at ss → has ss s ≡ true → has ss t ≡ true → s.from ≡ t.from → s ≡ t
only_at at [] s t l h k e = absurd (false≢true h)
only_at at (x ∷ ss) s t l h k e =
    let begins : x.from ≡ at = l.0 in
    let some : at < x.to = l.1 in
    ⊎_elim (λ (p : same_stamp x s ≡ true).
    ⊎_elim (λ (q : same_stamp x t ≡ true). sym (same_from_test x s p) ∙ same_from_test x t q)
    (λ (q : has ss t ≡ true).
    let there = (lies x.to ss t l.2 q).from in
    let same : x.from ≡ s.from = ap (λ (y : Stamp). y.from) (same_from_test x s p) in
    absurd (omega arith))
    (or_cases (same_stamp x t) (has ss t) k))
    (λ (p : has ss s ≡ true).
    ⊎_elim (λ (q : same_stamp x t ≡ true).
    let there = (lies x.to ss s l.2 p).from in
    let same : x.from ≡ t.from = ap (λ (y : Stamp). y.from) (same_from_test x t q) in
    absurd (omega arith))
    (λ (q : has ss t ≡ true). only_at x.to ss s t l.2 p q e)
    (or_cases (same_stamp x t) (has ss t) k))
    (or_cases (same_stamp x s) (has ss s) h)

-- a stamp that didn't arrive doesn't lengthen the front
pub front_in-fresh : (D ss : List Stamp) (s : Stamp) → has D s ≡ false → front_in D (ss ++ s ∷ []) ≡ front_in D ss
front_in-fresh D [] s n = cond-false (has D s) _ _ n
front_in-fresh D (x ∷ ss) s n = ap (λ ys. cond (has D x) (x ∷ ys) []) (front_in-fresh D ss s n)

-- what arrived alike has the same front
pub front_in-alike : (D E ss : List Stamp) → ((s : Stamp) → has D s ≡ has E s) → front_in D ss ≡ front_in E ss
front_in-alike D E [] h = refl
front_in-alike D E (x ∷ ss) h = rw (h x) (ap (λ ys. cond (has E x) (x ∷ ys) []) (front_in-alike D E ss h))

pub front-line : (D : List Stamp) (at : ℕ) (ss : List Stamp) → IsLine at ss → IsLine at (front_in D ss)
front-line D at [] l = tt
front-line D at (x ∷ ss) l = cond_both (has D x) (x ∷ front_in D ss) [] (IsLine at) (λ _. (l.0, l.1, front-line D x.to ss l.2)) (λ _. tt)

-- a stamp of the front is of the line, and arrived
pub front-has : (D ss : List Stamp) (s : Stamp) → has (front_in D ss) s ≡ true → (has ss s ≡ true) × (has D s ≡ true)
front-has D [] s = λ h. absurd (false≢true h)
front-has D (x ∷ ss) s =
    cond_both (has D x) (x ∷ front_in D ss) [] (λ ys. has ys s ≡ true → (has (x ∷ ss) s ≡ true) × (has D s ≡ true))
    (λ here h. ⊎_elim (λ (e : same_stamp x s ≡ true). (or_left _ _ e, subst (λ (y : Stamp). has D y ≡ true) (same_from_test x s e) here))
    (λ (r : has (front_in D ss) s ≡ true). let ih = front-has D ss s r in (or_right _ _ ih.0, ih.1))
    (or_cases (same_stamp x s) (has (front_in D ss) s) h))
    (λ _ h. absurd (false≢true h))

-- a stamp of the line that ends within the front is of the front
pub front-upto : (D : List Stamp) (at : ℕ) (ss : List Stamp) (s : Stamp) → IsLine at ss → has ss s ≡ true → s.to ≤ end_of at (front_in D ss) → has (front_in D ss) s ≡ true
front-upto D at [] s l h = λ le. absurd (false≢true h)
front-upto D at (x ∷ ss) s l h =
    cond_both (has D x) (x ∷ front_in D ss) [] (λ ys. s.to ≤ end_of at ys → has ys s ≡ true)
    (λ _ le. ⊎_elim (λ (e : same_stamp x s ≡ true). or_left _ _ e)
    (λ (r : has ss s ≡ true). or_right _ _ (front-upto D x.to ss s l.2 r le))
    (or_cases (same_stamp x s) (has ss s) h))
    (λ _ le. let there = lies at (x ∷ ss) s l h in let a = there.from in let b = there.some in absurd (omega arith))

-- the stamp of the line that begins where the front ends didn't arrive
pub front-stops : (D : List Stamp) (at : ℕ) (ss : List Stamp) (s : Stamp) → IsLine at ss → has ss s ≡ true → s.from ≡ end_of at (front_in D ss) → has D s ≡ false
front-stops D at [] s l h = λ e. absurd (false≢true h)
front-stops D at (x ∷ ss) s l h =
    let begins : x.from ≡ at = l.0 in
    let some : at < x.to = l.1 in
    cond_both (has D x) (x ∷ front_in D ss) [] (λ ys. s.from ≡ end_of at ys → has D s ≡ false)
    (λ _ e. ⊎_elim (λ (p : same_stamp x s ≡ true).
    let same : x.from ≡ s.from = ap (λ (y : Stamp). y.from) (same_from_test x s p) in
    let grows = line_grows x.to (front_in D ss) (front-line D x.to ss l.2) in
    absurd (omega arith))
    (λ (r : has ss s ≡ true). front-stops D x.to ss s l.2 r e)
    (or_cases (same_stamp x s) (has ss s) h))
    (λ missing e. ⊎_elim (λ (p : same_stamp x s ≡ true). subst (λ (y : Stamp). has D y ≡ false) (same_from_test x s p) missing)
    (λ (r : has ss s ≡ true). let there = (lies x.to ss s l.2 r).from in absurd (omega arith))
    (or_cases (same_stamp x s) (has ss s) h))

-- A line of stamps of the line that arrived is the front, where the stamp that comes next didn't arrive.
pub front_in-is : (D : List Stamp) (at : ℕ) (ss gs : List Stamp) → IsLine at ss → IsLine at gs →
    ((s : Stamp) → has gs s ≡ true → (has ss s ≡ true) × (has D s ≡ true)) →
    ((s : Stamp) → has ss s ≡ true → s.from ≡ end_of at gs → has D s ≡ false) → front_in D ss ≡ gs
front_in-is D at [] [] l k each stops = refl
front_in-is D at [] (g ∷ gs) l k each stops = absurd (false≢true (each g (or_left _ _ (same_stamp-refl g))).0)
front_in-is D at (x ∷ ss) [] l k each stops = cond-false (has D x) _ _ (stops x (or_left _ _ (same_stamp-refl x)) l.0)
front_in-is D at (x ∷ ss) (g ∷ gs) l k each stops =
    let of_g = each g (or_left _ _ (same_stamp-refl g)) in
    let some : at < g.to = k.1 in
    let begins : x.from ≡ at = l.0 in
    let begins_g : g.from ≡ at = k.0 in
    let same : x ≡ g = only_at at (x ∷ ss) x g l (or_left _ _ (same_stamp-refl x)) of_g.0 (omega arith) in
    let rest : IsLine g.to ss = subst (λ (y : Stamp). IsLine y.to ss) same l.2 in
    let tail : front_in D ss ≡ gs =
    front_in-is D g.to ss gs rest k.2
    (λ s h. let both = each s (or_right (same_stamp g s) (has gs s) h) in (
      ⊎_elim (λ (e : same_stamp x s ≡ true).
          let from : x.from ≡ s.from = ap (λ (y : Stamp). y.from) (same_from_test x s e) in
          let there = (lies g.to gs s k.2 h).from in
          absurd (omega arith))
          (λ (r : has ss s ≡ true). r) (or_cases (same_stamp x s) (has ss s) both.0),
      both.1,
    ))
    (λ s h e. stops s (or_right (same_stamp x s) (has ss s) h) e) in
    cond-true (has D x) _ _ (subst (λ (y : Stamp). has D y ≡ true) (sym same) of_g.1) ∙ (ap (λ ys. x ∷ ys) tail ∙ ap (λ y. y ∷ gs) same)

pub front-end : (D : List Stamp) (at : ℕ) (ss : List Stamp) → IsEnd at ss (end_of at (front_in D ss))
front-end D at [] = refl
front-end D at (x ∷ ss) = cond_both (has D x) (x ∷ front_in D ss) [] (λ ys. IsEnd at (x ∷ ss) (end_of at ys)) (λ _. inr (front-end D x.to ss)) (λ _. inl refl)

-- a longer line keeps its ends
pub IsEnd-append : (at : ℕ) (xs ys : List Stamp) (m : ℕ) → IsEnd at xs m → IsEnd at (xs ++ ys) m
IsEnd-append at [] [] m e = e
IsEnd-append at [] (y ∷ ys) m e = inl e
IsEnd-append at (x ∷ xs) ys m e = ⊎_elim (λ h. inl h) (λ h. inr (IsEnd-append x.to xs ys m h)) e

pub end_grows : (at : ℕ) (ss : List Stamp) (m : ℕ) → IsLine at ss → IsEnd at ss m → at ≤ m
end_grows at [] m l e = omega (arith, e)
end_grows at (s ∷ ss) m l e = let some : at < s.to = l.1 in ⊎_elim (λ (h : m ≡ at). omega arith) (λ (h : IsEnd s.to ss m). let ih = end_grows s.to ss m l.2 h in omega arith) e

-- the least of several ends is an end
pub least-end : (at : ℕ) (ss : List Stamp) (first n : ℕ) (f : ℕ → ℕ) → IsEnd at ss first → ((k : ℕ) → k < n → IsEnd at ss (f k)) → IsEnd at ss (least_from first n f)
least-end at ss first zero f e each = e
least-end at ss first (suc n) f e each =
    let a : IsEnd at ss (least_from first n f) = least-end at ss first n f e (λ k lt. each k (omega arith)) in
    let b : IsEnd at ss (f n) = each n (omega arith) in
    ⊎_elim (λ (lt : least_from first n f < f n). let same : least_from first n f ≡ min (least_from first n f) (f n) = omega arith in subst (IsEnd at ss) same a)
    (λ (le : f n ≤ least_from first n f). let same : f n ≡ min (least_from first n f) (f n) = omega arith in subst (IsEnd at ss) same b)
    (cases_lt (least_from first n f) (f n))

pub least-le_first : (first n : ℕ) (f : ℕ → ℕ) → least_from first n f ≤ first
least-le_first first zero f = omega arith
least-le_first first (suc n) f = let ih = least-le_first first n f in omega arith

pub least-le : (first n : ℕ) (f : ℕ → ℕ) (k : ℕ) → k < n → least_from first n f ≤ f k
least-le first zero f k lt = absurd (omega arith)
least-le first (suc n) f k lt =
    ⊎_elim (λ (e : k ≡ n). let same : f k ≡ f n = ap f e in omega arith)
    (λ (ne : k ≢ n). let ih = least-le first n f k (omega arith) in omega arith) (cases_eq k n)

pub least-ge : (first n : ℕ) (f : ℕ → ℕ) (m : ℕ) → m ≤ first → ((k : ℕ) → k < n → m ≤ f k) → m ≤ least_from first n f
least-ge first zero f m le each = le
least-ge first (suc n) f m le each = let ih = least-ge first n f m le (λ k lt. each k (omega arith)) in let h = each n (omega arith) in omega arith

-- the least of numbers that agree
pub least-alike : (first n : ℕ) (f g : ℕ → ℕ) → ((k : ℕ) → k < n → f k ≡ g k) → least_from first n f ≡ least_from first n g
least-alike first zero f g each = refl
least-alike first (suc n) f g each = let ih = least-alike first n f g (λ k lt. each k (omega arith)) in let h = each n (omega arith) in rw (ih, h) refl

-- where more arrived the front is no shorter
pub front-grows : (D E : List Stamp) (at : ℕ) (ss : List Stamp) → IsLine at ss → ((s : Stamp) → has D s ≡ true → has E s ≡ true) → end_of at (front_in D ss) ≤ end_of at (front_in E ss)
front-grows D E at [] l h = omega arith
front-grows D E at (x ∷ ss) l h =
    cond_both (has D x) (x ∷ front_in D ss) [] (λ ys. end_of at ys ≤ end_of at (front_in E (x ∷ ss)))
    (λ here. rw (cond-true (has E x) (x ∷ front_in E ss) [] (h x here)) (front-grows D E x.to ss l.2 h))
    (λ _. line_grows at (front_in E (x ∷ ss)) (front-line E at (x ∷ ss) l))

-- a stamp of the line that ends past the front begins at its end or past it
pub front-past : (D : List Stamp) (at : ℕ) (ss : List Stamp) (s : Stamp) → IsLine at ss → has ss s ≡ true → end_of at (front_in D ss) < s.to → end_of at (front_in D ss) ≤ s.from
front-past D at [] s l h = λ lt. absurd (false≢true h)
front-past D at (x ∷ ss) s l h =
    cond_both (has D x) (x ∷ front_in D ss) [] (λ ys. end_of at ys < s.to → end_of at ys ≤ s.from)
    (λ _ lt. ⊎_elim (λ (e : same_stamp x s ≡ true).
    let same : x.to ≡ s.to = ap (λ (y : Stamp). y.to) (same_from_test x s e) in
    let grows = line_grows x.to (front_in D ss) (front-line D x.to ss l.2) in
    absurd (omega arith))
    (λ (r : has ss s ≡ true). front-past D x.to ss s l.2 r lt)
    (or_cases (same_stamp x s) (has ss s) h))
    (λ _ lt. (lies at (x ∷ ss) s l h).from)

-- an end of the line that lies within the front is an end of the front
pub front-ends : (D : List Stamp) (at : ℕ) (ss : List Stamp) (m : ℕ) → IsLine at ss → IsEnd at ss m → m ≤ end_of at (front_in D ss) → IsEnd at (front_in D ss) m
front-ends D at [] m l e = λ le. e
front-ends D at (x ∷ ss) m l e =
    let some : at < x.to = l.1 in
    cond_both (has D x) (x ∷ front_in D ss) [] (λ ys. m ≤ end_of at ys → IsEnd at ys m)
    (λ _ le. ⊎_elim (λ (h : m ≡ at). inl h) (λ (h : IsEnd x.to ss m). inr (front-ends D x.to ss m l.2 h le)) e)
    (λ _ le. ⊎_elim (λ (h : m ≡ at). h) (λ (h : IsEnd x.to ss m). let grows = end_grows x.to ss m l.2 h in absurd (omega arith)) e)

-- what arrived alike of a line has the same front
pub front_in-alike_on : (D E ss : List Stamp) → ((s : Stamp) → has ss s ≡ true → has D s ≡ has E s) → front_in D ss ≡ front_in E ss
front_in-alike_on D E [] h = refl
front_in-alike_on D E (x ∷ ss) h = rw (h x (or_left _ _ (same_stamp-refl x))) (ap (λ ys. cond (has E x) (x ∷ ys) []) (front_in-alike_on D E ss (λ s k. h s (or_right (same_stamp x s) _ k))))

-- cutting a line at a position
pub upto-cong : (b : ℕ) (xs ys zs : List Stamp) → upto b ys ≡ upto b zs → upto b (xs ++ ys) ≡ upto b (xs ++ zs)
upto-cong b [] ys zs e = e
upto-cong b (x ∷ xs) ys zs e = ap (λ vs. cond (leb x.to b) (x ∷ vs) []) (upto-cong b xs ys zs e)

pub upto-append : (b : ℕ) (xs ys : List Stamp) → upto b ys ≡ [] → upto b (xs ++ ys) ≡ upto b xs
upto-append b [] ys e = e
upto-append b (x ∷ xs) ys e = ap (λ vs. cond (leb x.to b) (x ∷ vs) []) (upto-append b xs ys e)

pub upto-none : (at b : ℕ) (ys : List Stamp) → IsLine at ys → b ≤ at → upto b ys ≡ []
upto-none at b [] l le = refl
upto-none at b (y ∷ ys) l le = let some : at < y.to = l.1 in cond-false (leb y.to b) _ _ (lt-leb _ _ (omega arith))

pub upto-upto : (a b : ℕ) (xs : List Stamp) → a ≤ b → upto a (upto b xs) ≡ upto a xs
upto-upto a b [] le = refl
upto-upto a b (x ∷ xs) le = cond_both (leb x.to b) (x ∷ upto b xs) [] (λ ys. upto a ys ≡ upto a (x ∷ xs))
    (λ _. ap (λ vs. cond (leb x.to a) (x ∷ vs) []) (upto-upto a b xs le))
    (λ n. let out = leb-false _ _ n in sym (cond-false (leb x.to a) _ _ (lt-leb _ _ (omega arith))))

pub upto-line : (at b : ℕ) (xs : List Stamp) → IsLine at xs → IsLine at (upto b xs)
upto-line at b [] l = tt
upto-line at b (x ∷ xs) l = cond_both (leb x.to b) (x ∷ upto b xs) [] (IsLine at) (λ _. (l.0, l.1, upto-line x.to b xs l.2)) (λ _. tt)

pub upto-end : (at b : ℕ) (xs : List Stamp) → IsLine at xs → IsEnd at xs b → end_of at (upto b xs) ≡ b
upto-end at b [] l e = sym e
upto-end at b (x ∷ xs) l e =
    let some : at < x.to = l.1 in
    ⊎_elim (λ (h : b ≡ at). ap (end_of at) (cond-false (leb x.to b) (x ∷ upto b xs) [] (lt-leb _ _ (omega arith))) ∙ sym h)
    (λ (h : IsEnd x.to xs b). let grows = end_grows x.to xs b l.2 h in ap (end_of at) (cond-true (leb x.to b) (x ∷ upto b xs) [] (le-leb _ _ grows)) ∙ upto-end x.to b xs l.2 h) e

pub upto-ends : (at b m : ℕ) (xs : List Stamp) → IsLine at xs → IsEnd at xs m → m ≤ b → IsEnd at (upto b xs) m
upto-ends at b m [] l e le = e
upto-ends at b m (x ∷ xs) l e le =
    cond_both (leb x.to b) (x ∷ upto b xs) [] (λ ys. IsEnd at ys m)
    (λ _. ⊎_elim (λ (h : m ≡ at). inl h) (λ (h : IsEnd x.to xs m). inr (upto-ends x.to b m xs l.2 h le)) e)
    (λ n. let out = leb-false _ _ n in ⊎_elim (λ (h : m ≡ at). h) (λ (h : IsEnd x.to xs m). let grows = end_grows x.to xs m l.2 h in absurd (omega arith)) e)

pub upto-has : (b : ℕ) (xs : List Stamp) (s : Stamp) → has (upto b xs) s ≡ true → (has xs s ≡ true) × (s.to ≤ b)
upto-has b [] s = λ h. absurd (false≢true h)
upto-has b (x ∷ xs) s = cond_both (leb x.to b) (x ∷ upto b xs) [] (λ ys. has ys s ≡ true → (has (x ∷ xs) s ≡ true) × (s.to ≤ b))
    (λ t h. ⊎_elim (λ (e : same_stamp x s ≡ true). (or_left _ _ e, subst (λ (y : Stamp). y.to ≤ b) (same_from_test x s e) (leb-true _ _ t)))
    (λ (r : has (upto b xs) s ≡ true). let ih = upto-has b xs s r in (or_right (same_stamp x s) _ ih.0, ih.1)) (or_cases _ _ h))
    (λ _ h. absurd (false≢true h))

pub upto-front : (D : List Stamp) (at b : ℕ) (xs : List Stamp) → IsLine at xs → b ≤ end_of at (front_in D xs) → upto b (front_in D xs) ≡ upto b xs
upto-front D at b [] l = λ le. refl
upto-front D at b (x ∷ xs) l = cond_both (has D x) (x ∷ front_in D xs) [] (λ ys. b ≤ end_of at ys → upto b ys ≡ upto b (x ∷ xs))
    (λ _ le. ap (λ vs. cond (leb x.to b) (x ∷ vs) []) (upto-front D x.to b xs l.2 le))
    (λ _ le. let some : at < x.to = l.1 in sym (cond-false (leb x.to b) _ _ (lt-leb _ _ (omega arith))))

-- a front that arrived whole goes on with what follows it
pub front_in-append : (D xs ys : List Stamp) → ((s : Stamp) → has xs s ≡ true → has D s ≡ true) → front_in D (xs ++ ys) ≡ xs ++ front_in D ys
front_in-append D [] ys h = refl
front_in-append D (x ∷ xs) ys h = cond-true (has D x) _ _ (h x (or_left _ _ (same_stamp-refl x))) ∙ ap (λ vs. x ∷ vs) (front_in-append D xs ys (λ s k. h s (or_right (same_stamp x s) _ k)))

pub front_in-all : (D xs : List Stamp) → ((s : Stamp) → has xs s ≡ true → has D s ≡ true) → front_in D xs ≡ xs
front_in-all D [] h = refl
front_in-all D (x ∷ xs) h = cond-true (has D x) _ _ (h x (or_left _ _ (same_stamp-refl x))) ∙ ap (λ vs. x ∷ vs) (front_in-all D xs (λ s k. h s (or_right (same_stamp x s) _ k)))

-- nothing arrived
pub front_in-none : (D xs : List Stamp) → ((s : Stamp) → has xs s ≡ true → has D s ≡ false) → front_in D xs ≡ []
front_in-none D [] h = refl
front_in-none D (x ∷ xs) h = cond-false (has D x) _ _ (h x (or_left _ _ (same_stamp-refl x)))

-- stamps of one incarnation
pub made_by-push : (i c : ℕ) (ss : List Stamp) (s : Stamp) → made_by i c (ss ++ s ∷ []) ≡ cond (is_of i c s) (made_by i c ss ++ s ∷ []) (made_by i c ss)
made_by-push i c [] s = refl
made_by-push i c (x ∷ ss) s =
    cond_both (is_of i c x) (x ∷ made_by i c ss) (made_by i c ss) (λ ys. cond (is_of i c x) (x ∷ made_by i c (ss ++ s ∷ [])) (made_by i c (ss ++ s ∷ [])) ≡ cond (is_of i c s) (ys ++ s ∷ []) ys)
    (λ t. cond-true (is_of i c x) _ _ t ∙ (ap (λ vs. x ∷ vs) (made_by-push i c ss s) ∙ cond_both (is_of i c s) (made_by i c ss ++ s ∷ []) (made_by i c ss) (λ vs. x ∷ vs ≡ cond (is_of i c s) (x ∷ made_by i c ss ++ s ∷ []) (x ∷ made_by i c ss))
    (λ e. sym (cond-true (is_of i c s) _ _ e)) (λ e. sym (cond-false (is_of i c s) _ _ e))))
    (λ t. cond-false (is_of i c x) _ _ t ∙ made_by-push i c ss s)

pub has-made : (i c : ℕ) (ss : List Stamp) (s : Stamp) → has (made_by i c ss) s ≡ (has ss s && is_of i c s)
has-made i c [] s = refl
has-made i c (x ∷ ss) s =
    cond_both (is_of i c x) (x ∷ made_by i c ss) (made_by i c ss) (λ ys. has ys s ≡ (has (x ∷ ss) s && is_of i c s))
    (λ t. or_and (same_stamp x s) (has (made_by i c ss) s) (has ss s) (is_of i c s) (has-made i c ss s) (λ e. subst (λ (y : Stamp). is_of i c y ≡ true) (same_from_test x s e) t))
    (λ n. has-made i c ss s ∙ or_not (same_stamp x s) (has ss s) (is_of i c s) (λ e. subst (λ (y : Stamp). is_of i c y ≡ false) (same_from_test x s e) n))
  where
    or_and : (d a b c : Bool) → a ≡ (b && c) → (d ≡ true → c ≡ true) → (d || a) ≡ ((d || b) && c)
    or_and true a b c e h = sym (h refl)
    or_and false a b c e h = e

    or_not : (d b c : Bool) → (d ≡ true → c ≡ false) → (b && c) ≡ ((d || b) && c)
    or_not true true c h = refl
    or_not true false c h = sym (h refl)
    or_not false b c h = refl

-- what was seen
pub seen-ge : (ss : List Stamp) (i : ℕ) (s : Stamp) → has ss s ≡ true → s.ingest.0 ≡ i → s.inc.0 ≤ seen_in ss i
seen-ge [] i s h e = absurd (false≢true h)
seen-ge (x ∷ ss) i s h e =
    cond_both (eqb x.ingest.0 i) (max x.inc.0 (seen_in ss i)) (seen_in ss i) (λ (m : ℕ). s.inc.0 ≤ m)
    (λ _. ⊎_elim (λ (k : same_stamp x s ≡ true). let same : x.inc.0 ≡ s.inc.0 = ap (λ (y : Stamp). y.inc.0) (same_from_test x s k) in omega arith) (λ (r : has ss s ≡ true). let ih = seen-ge ss i s r e in omega arith) (or_cases _ _ h))
    (λ n. ⊎_elim (λ (k : same_stamp x s ≡ true). absurd (both_ways _ n (eq-eqb _ _ (ap (λ (y : Stamp). y.ingest.0) (same_from_test x s k) ∙ e)))) (λ (r : has ss s ≡ true). seen-ge ss i s r e) (or_cases _ _ h))

pub seen-le : (ss : List Stamp) (i m : ℕ) → ((s : Stamp) → has ss s ≡ true → s.ingest.0 ≡ i → s.inc.0 ≤ m) → seen_in ss i ≤ m
seen-le [] i m h = omega arith
seen-le (x ∷ ss) i m h =
    let ih = seen-le ss i m (λ s k. h s (or_right (same_stamp x s) _ k)) in
    cond_both (eqb x.ingest.0 i) (max x.inc.0 (seen_in ss i)) (seen_in ss i) (λ (n : ℕ). n ≤ m) (λ t. let here = h x (or_left _ _ (same_stamp-refl x)) (eqb-true _ _ t) in omega arith) (λ _. ih)

pub end_within : (at : ℕ) (ss : List Stamp) (m : ℕ) → IsLine at ss → IsEnd at ss m → m ≤ end_of at ss
end_within at [] m l e = omega (arith, e)
end_within at (x ∷ ss) m l e = let grows = line_grows at (x ∷ ss) l in ⊎_elim (λ (h : m ≡ at). omega arith) (λ (h : IsEnd x.to ss m). end_within x.to ss m l.2 h) e

-- what is reported up to an end is what is reported of the line that is cut there
pub ack-cut : (R : List Stamp) (at a : ℕ) (ss : List Stamp) → IsLine at ss → IsEnd at ss a → a ≤ end_of at (front_in R ss) → end_of at (front_in R (upto a ss)) ≡ a
ack-cut R at a ss l e le =
    let cut = upto-front R at a ss l le in
    ap (end_of at) (front_in-all R (upto a ss) (λ s h. (front-has R ss s (upto-has a (front_in R ss) s (subst (λ ys. has ys s ≡ true) (sym cut) h)).0).1)) ∙ upto-end at a ss l e

pub nil_from_has : (ss : List Stamp) → ((s : Stamp) → has ss s ≡ true → ⊥) → ss ≡ []
nil_from_has [] h = refl
nil_from_has (x ∷ ss) h = absurd (h x (or_left _ _ (same_stamp-refl x)))

pub seen-mono : (D E : List Stamp) (i : ℕ) → ((s : Stamp) → has D s ≡ true → has E s ≡ true) → seen_in D i ≤ seen_in E i
seen-mono D E i h = seen-le D i (seen_in E i) (λ s d e. seen-ge E i s (h s d) e)

pub upto-le : (at b : ℕ) (xs : List Stamp) → IsLine at xs → end_of at (upto b xs) ≤ end_of at xs
upto-le at b [] l = omega arith
upto-le at b (x ∷ xs) l = cond_both (leb x.to b) (x ∷ upto b xs) [] (λ ys. end_of at ys ≤ end_of at (x ∷ xs)) (λ _. upto-le x.to b xs l.2) (λ _. line_grows at (x ∷ xs) l)

-- what is left past a position
pub upto-past : (g : ℕ) (ss : List Stamp) → upto g ss ++ past g ss ≡ ss
upto-past g [] = refl
upto-past g (s ∷ ss) = go (leb s.to g) (upto-past g ss)
  where
    go : (b : Bool) → upto g ss ++ past g ss ≡ ss → cond b (s ∷ upto g ss) [] ++ cond b (past g ss) (s ∷ ss) ≡ s ∷ ss
    go true ih = ap (λ xs. s ∷ xs) ih
    go false ih = refl

pub upto_past : (a g : ℕ) (ss : List Stamp) → g ≤ a → upto a (past g ss) ≡ past g (upto a ss)
upto_past a g [] le = refl
upto_past a g (s ∷ ss) le = cond_both (leb s.to g) (past g ss) (s ∷ ss) (λ ys. upto a ys ≡ past g (upto a (s ∷ ss)))
    (λ t. let low = leb-true _ _ t in let yes : leb s.to a ≡ true = le-leb _ _ (omega arith) in rw yes (upto_past a g ss le ∙ sym (cond-true (leb s.to g) _ _ t)))
    (λ n. cond_both (leb s.to a) (s ∷ upto a ss) [] (λ ys. ys ≡ past g ys) (λ _. sym (cond-false (leb s.to g) _ _ n)) (λ _. refl))

pub past_past : (f g : ℕ) (ss : List Stamp) → f ≤ g → past g (past f ss) ≡ past g ss
past_past f g [] le = refl
past_past f g (s ∷ ss) le = cond_both (leb s.to f) (past f ss) (s ∷ ss) (λ ys. past g ys ≡ past g (s ∷ ss))
    (λ t. let low = leb-true _ _ t in past_past f g ss le ∙ sym (cond-true (leb s.to g) _ _ (le-leb _ _ (omega arith)))) (λ _. refl)

pub past_end : (at g m : ℕ) (ss : List Stamp) → IsLine at ss → IsEnd at ss g → IsEnd at ss m → g ≤ m → IsEnd g (past g ss) m
past_end at g m [] l e k le = k ∙ sym e
past_end at g m (s ∷ ss) l e k le =
    let some : at < s.to = l.1 in
    ⊎_elim (λ (h : g ≡ at). let no : leb s.to g ≡ false = lt-leb _ _ (omega arith) in rw no (subst (λ (n : ℕ). IsEnd n (s ∷ ss) m) (sym h) k))
    (λ (h : IsEnd s.to ss g).
    let grows = end_grows s.to ss g l.2 h in
    let yes : leb s.to g ≡ true = le-leb _ _ grows in
    rw yes (past_end s.to g m ss l.2 h (⊎_elim (λ (x : m ≡ at). absurd (omega arith)) (λ (x : IsEnd s.to ss m). x) k) le))
    e

-- a line from the position on stays whole
pub past-none : (at g : ℕ) (ss : List Stamp) → IsLine at ss → g ≤ at → past g ss ≡ ss
past-none at g [] l le = refl
past-none at g (s ∷ ss) l le = let some : at < s.to = l.1 in cond-false (leb s.to g) _ _ (lt-leb _ _ (omega arith))

-- what ends past the position is still there
pub past-push : (g : ℕ) (ss : List Stamp) (s : Stamp) → g < s.to → past g (ss ++ s ∷ []) ≡ past g ss ++ s ∷ []
past-push g [] s lt = cond-false (leb s.to g) _ _ (lt-leb _ _ lt)
past-push g (x ∷ ss) s lt = cond_both (leb x.to g) (past g ss) (x ∷ ss) (λ ys. past g (x ∷ ss ++ s ∷ []) ≡ ys ++ s ∷ [])
    (λ t. cond-true (leb x.to g) _ _ t ∙ past-push g ss s lt) (λ n. cond-false (leb x.to g) _ _ n)

pub IsEnd-skip : (at : ℕ) (xs ys : List Stamp) (m : ℕ) → IsEnd (end_of at xs) ys m → IsEnd at (xs ++ ys) m
IsEnd-skip at [] ys m e = e
IsEnd-skip at (x ∷ xs) ys m e = inr (IsEnd-skip x.to xs ys m e)

-- an end past an end of a line is an end of the line
pub end-past : (at g m : ℕ) (ss : List Stamp) → IsLine at ss → IsEnd at ss g → IsEnd g (past g ss) m → IsEnd at ss m
end-past at g m ss l e k = subst (λ xs. IsEnd at xs m) (upto-past g ss) (IsEnd-skip at (upto g ss) (past g ss) m (subst (λ (b : ℕ). IsEnd b (past g ss) m) (sym (upto-end at g ss l e)) k))

pub past-line : (at g : ℕ) (ss : List Stamp) → IsLine at ss → IsEnd at ss g → IsLine g (past g ss)
past-line at g [] l e = tt
past-line at g (s ∷ ss) l e =
    let some : at < s.to = l.1 in
    ⊎_elim (λ (h : g ≡ at). rw (cond-false (leb s.to g) (past g ss) (s ∷ ss) (lt-leb _ _ (omega arith))) (subst (λ (n : ℕ). IsLine n (s ∷ ss)) (sym h) l))
    (λ (h : IsEnd s.to ss g). cond_both (leb s.to g) (past g ss) (s ∷ ss) (IsLine g) (λ _. past-line s.to g ss l.2 h) (λ no. let grows = end_grows s.to ss g l.2 h in let low = leb-false _ _ no in absurd (omega arith)))
    e

-- a line that is cut anywhere: both parts are lines
pub IsLine-front : (at : ℕ) (xs ys : List Stamp) → IsLine at (xs ++ ys) → IsLine at xs
IsLine-front at [] ys l = tt
IsLine-front at (x ∷ xs) ys l = (l.0, l.1, IsLine-front x.to xs ys l.2)

pub IsLine-rest : (at : ℕ) (xs ys : List Stamp) → IsLine at (xs ++ ys) → IsLine (end_of at xs) ys
IsLine-rest at [] ys l = l
IsLine-rest at (x ∷ xs) ys l = IsLine-rest x.to xs ys l.2
