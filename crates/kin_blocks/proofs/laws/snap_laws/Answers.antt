use Rattle.kin_blocks.proofs.Wholes.{join-law, halves-law}
use Rattle.kin_blocks.proofs.laws.snap_laws.Goals as goal

pub returns : goal.returns
returns c = record { whole = join-law; halves = halves-law }
