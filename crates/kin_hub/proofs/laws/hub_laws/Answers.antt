use Rattle.kin_hub.proofs.Committing.{may-commit, few-law}
use Rattle.kin_hub.proofs.laws.hub_laws.Goals as goal

pub returns : goal.returns
returns c = record { commits = may-commit; vertices = few-law }
