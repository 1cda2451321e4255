use Rattle.kin_history.proofs.Answered.{stamp-answers, crash-answers, raise-answers, restart-answers}
use Rattle.kin_history.proofs.laws.node_answers.Goals as goal

pub returns : goal.returns
returns c = record { stamp = stamp-answers; raise = raise-answers; crash = crash-answers; restart = restart-answers }
