use Rattle.std.proofs.Common.{◌++◌, drop}
use Rattle.kin_ids.specs.Rounds.{row}
use Rattle.kin_ids.proofs.Turns.{enough-none}
use Rattle.kin_table.specs.Lists.{list_at}
use Rattle.kin_table.proofs.rounds.round.Goals as goal

-- nothing is left to take
pub returns-then-left-eq0-clause-ends : goal.returns-then-left-eq0-clause-ends
returns-then-left-eq0-clause-ends c = λ rest i.
    rw (enough-none c.loop-node.left rest c.if-left-eq0.true)
    (rw (enough-none c.loop-node.left (row (list_at c.args.lists.now) c.args.place (drop c.loop-node.node-index c.args.live.now) ++ rest) c.if-left-eq0.true) at (c.loop-node.invariant.ends rest i))
