-- Hops and closeness by their distance.
use Rattle.kin_ids.specs.declared.ids.User.{User}
use Rattle.kin_rules.specs.Instances.{hops_rule, close_rule}
use Rattle.kin_rules.specs.RuleLaws.{close-laws, hops-laws}
use Rattle.kin_rules.specs.Walks.{IsRule, Rule}
use Rattle.kin_mine.specs.declared.walk_rules.Distance.{Distance}
use Rattle.kin_mine.specs.declared.walk_rules.Distance.TheVariants as distance

-- the rule of a distance from a landmark
abbrev pub rule_of : Distance → User → Rule
rule_of distance.Hops landmark = hops_rule landmark
rule_of distance.Close landmark = close_rule landmark

pub rule-laws : (d : Distance) (landmark : User) → IsRule (rule_of d landmark).along (rule_of d landmark).most
rule-laws distance.Hops landmark = hops-laws
rule-laws distance.Close landmark = close-laws
