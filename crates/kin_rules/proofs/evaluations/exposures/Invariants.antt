use Rattle.std.proofs.Common.{◌≡◌, ℕ, List, take}
use Rattle.std.specs.List.{count_by, sum_by}
use Rattle.kin_ids.specs.Graph.{Graph}
use Rattle.kin_ids.specs.Wholes.{IsViewOf}
use Rattle.kin_rules.specs.ExposureEntries.{uses_with}
use Rattle.kin_rules.specs.ExposureRule.{is_entry}
use Rattle.kin_rules.proofs.evaluations.exposures.Given as goal

-- the entries of the users so far
abbrev pub invariant-loop-place : goal.invariant-loop-place
invariant-loop-place g l = (h : Graph) → IsViewOf h (g.V.View.seen l.view) → (t : List ℕ) (k : ℕ) → count_by (is_entry t k) l.entries.items ≡ sum_by (uses_with h t k) (take l.place l.index)
