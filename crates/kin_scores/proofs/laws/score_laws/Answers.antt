use Rattle.kin_scores.proofs.Begun.{begins}
use Rattle.kin_scores.proofs.Shown.{shown-law}
use Rattle.kin_scores.proofs.laws.score_laws.Goals as goal

pub returns-clause-begins : goal.returns-clause-begins
returns-clause-begins c = begins

pub returns-clause-shown : goal.returns-clause-shown
returns-clause-shown c = shown-law
