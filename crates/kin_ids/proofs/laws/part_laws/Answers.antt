use Rattle.kin_ids.proofs.Shares.{empty-law, record-law, part-law, pieces-law}
use Rattle.kin_ids.proofs.laws.part_laws.Goals as goal

pub returns : goal.returns
returns c = record { empty = empty-law; one_record = record-law; part = part-law; pieces = pieces-law }
