use Rattle.kin_rules.proofs.Top.{tags-exact}
use Rattle.kin_rules.proofs.tops.top_tags.Goals as goal

pub take_first-requires : goal.take_first-requires
take_first-requires c = tags-exact.exact
