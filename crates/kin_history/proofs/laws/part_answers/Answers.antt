use Rattle.std.proofs.Common.{refl}
use Rattle.kin_history.proofs.Answered.{deliver-refused, deliver-answers, commit-answers}
use Rattle.kin_history.proofs.laws.part_answers.Goals as goal

pub returns : goal.returns
returns c = record { not_sent = deliver-refused; deliver = λ set h p j c to s some legal k. deliver-answers set h p j c to some legal s k; report = λ set h p. refl; commit = commit-answers }
