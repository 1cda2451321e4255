-- The least partition that never reported.
use Rattle.std.proofs.Common.{◌≡◌, ◌∙◌, ℕ, suc, ◌+◌, ◌<◌, Bool, true, false, not, cond, List, [], ◌∷◌, Some, length, get_or, refl, ap, arith}
use Rattle.std.specs.List.{position, position_from}
use Rattle.std.proofs.lemmas.Iterator.Adapters.{position_from-zero}
use Rattle.kin_ids.specs.Lines.{first_without}
use Rattle.kin_table.specs.Tables.{RowView, TableView, no_report, row_at, missing_of}

-- the first row without a report, by a test of its place
first-unreported : (rows : List RowView) (from : ℕ) (test : ℕ → Bool) → ((k : ℕ) → k < length rows → test (from + k) ≡ (get_or rows k (no_report 0)).reported) →
    position_from (λ (row : RowView). not row.reported) from rows ≡ first_without from (length rows) test
first-unreported [] from test is = refl
first-unreported (r ∷ rs) from test is =
    let first : from + 0 ≡ from = omega arith in
    let here : test from ≡ r.reported = rw first at (is 0 (omega arith)) in
    let later = first-unreported rs (from + 1) test (λ k lt. let e : from + 1 + k ≡ from + suc k = omega arith in rw e (is (suc k) (omega arith))) in
    rw here (elim r.reported as (λ b. cond (not b) (Some from) (position_from (λ (row : RowView). not row.reported) (from + 1) rs) ≡ cond b (first_without (from + 1) (length rs) test) (Some from)) [ true ↦ later | false ↦ refl ])

pub missing-is : (t : TableView) → position (λ (row : RowView). not row.reported) t.rows ≡ missing_of t
missing-is t =
    position_from-zero (λ (row : RowView). not row.reported) t.rows
    ∙ first-unreported t.rows 0 (λ p. (row_at t.rows p).reported) (λ k lt. let e : 0 + k ≡ k = omega arith in ap (λ p. (row_at t.rows p).reported) e)
