use Rattle.std.proofs.Common.{List, sym, ap, ◌∙◌}
use Rattle.kin_ids.specs.declared.ids.User.{User}
use Rattle.kin_store.specs.Lists.{user_place}
use Rattle.kin_store.specs.Rows.{UserRow}
use Rattle.kin_store.proofs.part_snaps.PartSnap.mentions_user.Goals as goal

pub is_among-requires : goal.is_among-requires
is_among-requires c = λ i f e. c.mentions-2.ensures
    ∙ c.requires.indexed.mentions c.args.pair i f (ap (λ (xs : List User). user_place xs c.args.pair.other)
    (sym (c.mentions.ensures ∙ ap (λ (r : UserRow). r.mentions) c.row.ensures)) ∙ e)
