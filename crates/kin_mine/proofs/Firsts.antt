-- The first marked place, column after column.
use Rattle.std.proofs.Common.{◌≡◌, ◌<◌, ◌≤◌, ◌+◌, ◌∙◌, ◌⊎◌, ⊎_elim, ℕ, Bool, true, false, cond, ltb, List, [], Option, Some, None, IfSome, length, get_or, arith, refl, sym, ap, subst}
use Rattle.std.proofs.lemmas.Bool.{cases_lt}
use Rattle.std.proofs.lemmas.Bool.Decides.{nat_tests}
use Rattle.std.proofs.lemmas.List.{get_or_past}
use Rattle.kin_mine.specs.Marks.{IsFirstBefore, IsFirstIn, IsFirstPlace, are_quiet, lesser_of}

-- what one column tells of its first place
abbrev pub IsFirstOf : List Bool → Option ℕ → Type 0
IsFirstOf on None = (k : ℕ) → get_or on k false ≡ false
IsFirstOf on (Some i) = (i < length on) × (get_or on i false ≡ true) × ((k : ℕ) → k < i → get_or on k false ≡ false)

module _ (marks : List (List Bool)) (n : ℕ) where
  split : (P : ℕ → Type 0) → ((k : ℕ) → k < n → P k) → P n → (k : ℕ) → k < n + 1 → P k
  split P before here k lt = ⊎_elim (λ (l : k < n). before k l) (λ (ge : n ≤ k). let same : n ≡ k = omega (arith, ge, lt) in subst P same here) (cases_lt k n)

  pub first-more : (a b : Option ℕ) → IsFirstIn marks n a → IsFirstOf (get_or marks n []) b → IsFirstIn marks (n + 1) (lesser_of a b)
  first-more None None a b = λ k j lt. split (λ k. get_or (get_or marks k []) j false ≡ false) (λ k l. a k j l) (b j) k lt
  first-more None (Some i) a b = record {
    column = n;
    below = omega arith;
    marked = b.1;
    first = λ k j lt less. split (λ k. get_or (get_or marks k []) j false ≡ false) (λ k l. a k j l) (b.2 j less) k lt;
  }
  first-more (Some i) None a b = record {
    column = a.column;
    below = omega (arith, a.below);
    marked = a.marked;
    first = λ k j lt less. split (λ k. get_or (get_or marks k []) j false ≡ false) (λ k l. a.first k j l less) (b j) k lt;
  }
  first-more (Some i) (Some j) a b = here (ltb i j) refl
    where
      here : (t : Bool) → ltb i j ≡ t → IsFirstIn marks (n + 1) (cond t (Some i) (Some j))
      here true e = record {
        column = a.column;
        below = omega (arith, a.below);
        marked = a.marked;
        first = λ k m lt less. split (λ k. get_or (get_or marks k []) m false ≡ false) (λ k l. a.first k m l less) (b.2 m (grind (arith, nat_tests, e, less))) k lt;
      }
      here false e = record {
        column = n;
        below = omega arith;
        marked = b.1;
        first = λ k m lt less. split (λ k. get_or (get_or marks k []) m false ≡ false) (λ k l. a.first k m l (grind (arith, nat_tests, e, less))) (b.2 m less) k lt;
      }

-- what is so of all columns is so of every number
past : (marks : List (List Bool)) (j k : ℕ) → (k < length marks → get_or (get_or marks k []) j false ≡ false) → get_or (get_or marks k []) j false ≡ false
past marks j k within = ⊎_elim within (λ (ge : length marks ≤ k). rw (get_or_past marks k [] ge) refl) (cases_lt k (length marks))

pub first-none : (marks : List (List Bool)) (n : ℕ) (o : Option ℕ) → length marks ≤ n → IsFirstIn marks n o → o ≡ None → are_quiet marks
first-none marks n None le f e = λ k j. past marks j k (λ lt. f k j (omega (arith, lt, le)))
first-none marks n (Some i) le f e = absurd cc

pub first-some : (marks : List (List Bool)) (n : ℕ) (o : Option ℕ) → length marks ≤ n → IsFirstIn marks n o → IfSome o (λ i. IsFirstPlace marks i)
first-some marks n None le f = tt
first-some marks n (Some i) le f = record { column = f.column; marked = f.marked; first = λ k j less. past marks j k (λ lt. f.first k j (omega (arith, lt, le)) less) }

-- what a look for the first mark tells
pub first-of : (on : List Bool) (b : Option ℕ) → IfSome b (λ i. (i < length on) × (get_or on i false ≡ true) × ((k : ℕ) → k < i → get_or on k false ≡ false)) → (b ≡ None → (k : ℕ) → get_or on k false ≡ false) → IsFirstOf on b
first-of on None some none = none refl
first-of on (Some i) some none = some
