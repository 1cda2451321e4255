use Rattle.kin_ids.proofs.Halves.{lists-law, halves-law}
use Rattle.kin_ids.proofs.Once.{folded-sound}
use Rattle.kin_ids.proofs.Told.{edge-law, continue-law, ascend-law}
use Rattle.kin_ids.proofs.laws.edge_laws.Goals as goal

pub returns : goal.returns
returns c = record { edges = edge-law; later = continue-law; sound = folded-sound; ascend = ascend-law; lists = lists-law; halves = halves-law }
