use Rattle.kin_rules.proofs.Counts.{followers-present}
use Rattle.kin_rules.proofs.Ranks.{ranks-capped, followers-follow}
use Rattle.kin_rules.proofs.RankRule.{ranks-are-layers}
use Rattle.kin_rules.proofs.laws.rank_laws.Goals as goal

pub returns-clause-capped : goal.returns-clause-capped
returns-clause-capped c = ranks-capped

pub returns-clause-shared : goal.returns-clause-shared
returns-clause-shared c = followers-follow

pub returns-clause-followers : goal.returns-clause-followers
returns-clause-followers c = followers-present

pub returns-clause-layers : goal.returns-clause-layers
returns-clause-layers c = ranks-are-layers
