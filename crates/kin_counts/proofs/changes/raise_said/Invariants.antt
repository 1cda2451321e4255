use Rattle.std.proofs.Common.{take, cond}
use Rattle.std.specs.List.{sum_by}
use Rattle.kin_ids.specs.Users.{same_user}
use Rattle.kin_graph.specs.declared.deltas.SaidRow.{SaidRow}
use Rattle.kin_rules.specs.declared.numbers.Num.TheVariants as num
use Rattle.kin_counts.specs.Changes.{Raises, of_rule}
use Rattle.kin_counts.proofs.changes.raise_said.Given as goal

abbrev pub invariant-loop-row : goal.invariant-loop-row
invariant-loop-row l = Raises l.initial.counted (of_rule num.Said
    (λ x. sum_by (λ (r : SaidRow). cond (same_user x r.user) r.number 0) (take l.row-index l.rows))) l.counted
