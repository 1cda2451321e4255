use Rattle.kin_rules.proofs.Exposure.{exposures-few, exposures-add-up}
use Rattle.kin_rules.proofs.ExposureEntries.{exposures-are-layers}
use Rattle.kin_rules.proofs.laws.exposure_laws.Goals as goal

pub returns-clause-few : goal.returns-clause-few
returns-clause-few c = exposures-few

pub returns-clause-all : goal.returns-clause-all
returns-clause-all c = exposures-add-up

pub returns-clause-layers : goal.returns-clause-layers
returns-clause-layers c = exposures-are-layers
