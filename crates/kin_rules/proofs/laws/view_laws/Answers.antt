use Rattle.kin_rules.proofs.SmallViews.{small-view}
use Rattle.kin_rules.proofs.laws.view_laws.Goals as goal

pub returns : goal.returns
returns c = small-view
