-- Marks of whom nobody is marked, and columns with such marks.
use Rattle.std.proofs.Common.{◌≡◌, ◌<◌, ◌≤◌, ◌∙◌, ⊎_elim, ℕ, zero, suc, Bool, false, List, [], length, get_or, replicate, arith, refl, sym, ap}
use Rattle.std.specs.List.Sorted.{IsStrictlySortedBy}
use Rattle.std.proofs.lemmas.Bool.{cases_lt}
use Rattle.std.proofs.lemmas.List.{get_or-replicate, get_or_default, get_or_past, length-replicate}
use Rattle.kin_ids.specs.declared.ids.User.{User}
use Rattle.kin_ids.specs.Users.{user_cmp}
use Rattle.kin_rules.specs.Columns.{AreOf}
use Rattle.kin_rules.specs.Results.{ColumnView, no_column}
use Rattle.kin_mine.specs.Marks.{AreBlank, AreStates}
use Rattle.kin_mine.specs.Walkers.{blank_marks}

blank-off : (n i : ℕ) → get_or (replicate n false) i false ≡ false
blank-off zero i = refl
blank-off (suc n) zero = refl
blank-off (suc n) (suc i) = blank-off n i

pub blank-marks : (columns : ℕ) (users us : List User) (marks : List (List Bool)) → us ≡ users → marks ≡ blank_marks columns (length us) → AreBlank columns users marks
blank-marks columns users us marks same is = record {
  count = ap length is ∙ length-replicate columns (replicate (length us) false);
  long = λ k lt. ap (λ (ms : List (List Bool)). length (get_or ms k [])) is ∙ (ap length (get_or-replicate columns k (replicate (length us) false) [] lt) ∙ (length-replicate (length us) false ∙ ap length same));
  quiet = λ k i. ap (λ (ms : List (List Bool)). get_or (get_or ms k []) i false) is ∙ off k i;
}
  where
    off : (k i : ℕ) → get_or (get_or (blank_marks columns (length us)) k []) i false ≡ false
    off k i = ⊎_elim (λ (lt : k < columns). ap (λ (on : List Bool). get_or on i false) (get_or-replicate columns k (replicate (length us) false) [] lt) ∙ blank-off (length us) i)
        (λ (ge : columns ≤ k). rw (get_or_past (blank_marks columns (length us)) k [] (let n = length-replicate columns (replicate (length us) false) in omega (arith, n, ge))) refl) (cases_lt k columns)

-- columns of so many users with such marks
pub blank-states : (landmarks users : List User) (columns : List ColumnView) (marks : List (List Bool)) → IsStrictlySortedBy user_cmp users → length columns ≡ length landmarks → ((i : ℕ) → (get_or columns i no_column).others ≡ []) → AreOf (length users) columns
    → AreBlank (length landmarks) users marks → AreStates landmarks users columns marks
blank-states landmarks users columns marks ascend count alone fit blank = record {
  columns_are = count;
  marks_are = blank.count;
  alone = alone;
  states = λ i lt. record { ascend = ascend; valued = fit i no_column (omega (arith, lt, count)); marked = blank.long i lt };
}

-- columns with states are as long as the users
pub states-fit : (ls us users : List User) (columns : List ColumnView) (marks : List (List Bool)) → us ≡ users → AreStates ls us columns marks → AreOf (length users) columns
states-fit ls us users columns marks e are k d lt =
    ap (λ (c : ColumnView). length c.values) (get_or_default columns k d no_column lt) ∙ ((are.states k (omega (arith, lt, are.columns_are))).valued ∙ ap (λ (x : List User). length x) e)
