use Rattle.std.proofs.Common.{◌∙◌, ap, List}
use Rattle.kin_ids.specs.declared.ids.User.{User}
use Rattle.kin_rules.specs.Places.{found}
use Rattle.kin_rules.proofs.Places.{found-is}
use Rattle.kin_rules.proofs.indexes.Index.find.Goals as goal

pub returns : goal.returns
returns c = c.get_index_of.ensures.index ∙ (found-is c.self.inside.users.items c.args.user c.self.inside.places.keys c.self.invariant ∙ ap (λ (us : List User). found us c.args.user) c.self.view_is)
