use Rattle.kin_rules.proofs.Tallies.{AreSome}
use Rattle.kin_rules.proofs.exposure_lists.tally.Given as goal

abbrev pub invariant-loop-row : goal.invariant-loop-row
invariant-loop-row l = AreSome l.entries l.tags l.lists.items l.row-index
