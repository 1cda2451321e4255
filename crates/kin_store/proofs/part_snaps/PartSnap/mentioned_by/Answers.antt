use Rattle.std.proofs.Common.{List, sym, ap, ◌∙◌}
use Rattle.kin_ids.specs.declared.ids.User.{User}
use Rattle.kin_store.specs.Lists.{user_place}
use Rattle.kin_store.specs.Rows.{UserRow}
use Rattle.kin_store.proofs.part_snaps.PartSnap.mentioned_by.Goals as goal

pub is_among-requires : goal.is_among-requires
is_among-requires c = λ i f e. c.mentioners-2.ensures
    ∙ c.requires.indexed.mentioners c.args.pair i f (ap (λ (xs : List User). user_place xs c.args.pair.other)
    (sym (c.mentioners.ensures ∙ ap (λ (r : UserRow). r.mentioners) c.row.ensures)) ∙ e)
