use Rattle.std.proofs.Common.{List, sym, ap, ◌∙◌}
use Rattle.kin_ids.specs.declared.ops.Use.{Use}
use Rattle.kin_store.specs.Lists.{use_place}
use Rattle.kin_store.specs.Pairs.{tag_user}
use Rattle.kin_store.specs.Rows.{UserRow}
use Rattle.kin_store.proofs.part_snaps.PartSnap.first_use.Goals as goal

pub use_in-requires : goal.use_in-requires
use_in-requires c = λ i f e. c.uses-2.ensures
    ∙ c.requires.indexed.uses (tag_user c.args.tag c.args.user) i f
    (ap (λ (xs : List Use). use_place xs c.args.tag) (sym (c.uses.ensures ∙ ap (λ (r : UserRow). r.uses) c.row.ensures)) ∙ e)
