use Rattle.kin_ids.proofs.InTurn.{in_turn-law, only-law}
use Rattle.kin_ids.proofs.RowOrder.{rows-law}
use Rattle.kin_ids.proofs.Turns.{shortest-law, few-law, even-law}
use Rattle.kin_ids.proofs.laws.fair_laws.Goals as goal

pub returns : goal.returns
returns c = record { in_turn = in_turn-law; only = only-law; rows = rows-law; shortest = shortest-law; few = few-law; even = even-law }
