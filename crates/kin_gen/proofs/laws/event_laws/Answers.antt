use Rattle.kin_gen.proofs.Progress.{few, ended}
use Rattle.kin_gen.proofs.Ranges.{in-range}
use Rattle.kin_gen.proofs.laws.event_laws.Goals as goal

pub returns-clause-range : goal.returns-clause-range
returns-clause-range c = in-range

pub returns-clause-few : goal.returns-clause-few
returns-clause-few c = few

pub returns-clause-ended : goal.returns-clause-ended
returns-clause-ended c = ended
