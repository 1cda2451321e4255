use Rattle.kin_ids.proofs.Numerals.{number-law, user-law}
use Rattle.kin_ids.proofs.laws.text_laws.Goals as goal

pub returns : goal.returns
returns c = record { numbers = number-law; users = user-law }
