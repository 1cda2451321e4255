use Rattle.std.specs.Prelude.{All}
use Rattle.kin_bench.specs.Follows.{IsHalf}
use Rattle.kin_bench.proofs.epochs.ops_of.Given as goal

abbrev pub invariant-loop-edge : goal.invariant-loop-edge
invariant-loop-edge l = All (IsHalf l.parts l.p.0) l.ops
