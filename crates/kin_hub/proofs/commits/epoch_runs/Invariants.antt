use Rattle.std.proofs.Common.{◌≡◌}
use Rattle.kin_blocks.specs.Blocks.{pieces_of}
use Rattle.kin_hub.specs.Commits.{epoch_pieces}
use Rattle.kin_hub.proofs.commits.epoch_runs.Given as goal

abbrev pub invariant-loop-i : goal.invariant-loop-i
invariant-loop-i l = pieces_of l.runs.items ≡ epoch_pieces l.held l.ends l.i
