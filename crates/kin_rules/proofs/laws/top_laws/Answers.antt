use Rattle.kin_rules.proofs.Top.{users-ordered, tags-ordered}
use Rattle.kin_rules.proofs.Entries.{any-order, tags-any-order}
use Rattle.kin_rules.proofs.laws.top_laws.Goals as goal

pub returns-clause-users : goal.returns-clause-users
returns-clause-users c = users-ordered

pub returns-clause-tags : goal.returns-clause-tags
returns-clause-tags c = tags-ordered

pub returns-clause-any_order : goal.returns-clause-any_order
returns-clause-any_order c = any-order

pub returns-clause-tags_in_any_order : goal.returns-clause-tags_in_any_order
returns-clause-tags_in_any_order c = tags-any-order
