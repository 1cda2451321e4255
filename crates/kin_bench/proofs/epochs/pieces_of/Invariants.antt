use Rattle.std.specs.Prelude.{All}
use Rattle.kin_bench.specs.Follows.{IsFollows}
use Rattle.kin_bench.proofs.epochs.pieces_of.Given as goal

abbrev pub invariant-loop-batch : goal.invariant-loop-batch
invariant-loop-batch l = All (IsFollows l.parts l.p.0) l.pieces.items
