use Rattle.kin_history.proofs.Answered.{cut-answers, begin-answers, turn-answers, mine-answers}
use Rattle.kin_history.proofs.laws.epoch_answers.Goals as goal

pub returns : goal.returns
returns c = record { cut = cut-answers; begin = begin-answers; turn = turn-answers; mine = mine-answers }
