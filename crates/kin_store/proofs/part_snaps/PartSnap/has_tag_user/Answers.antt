use Rattle.std.proofs.Common.{List, sym, ap, ◌∙◌}
use Rattle.kin_ids.specs.declared.ids.User.{User}
use Rattle.kin_store.specs.Lists.{user_place}
use Rattle.kin_store.specs.Pairs.{tag_user}
use Rattle.kin_store.proofs.part_snaps.PartSnap.has_tag_user.Goals as goal

pub is_among-requires : goal.is_among-requires
is_among-requires c = λ i f e. c.users.ensures
    ∙ c.requires.indexed.users (tag_user c.args.tag c.args.user) i f (ap (λ (xs : List User). user_place xs c.args.user)
    (sym c.users_of.ensures) ∙ e)
