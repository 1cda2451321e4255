use Rattle.std.proofs.Common.{List, sym, ap, ◌∙◌}
use Rattle.kin_ids.specs.declared.ops.Half.{Half}
use Rattle.kin_store.specs.Lists.{half_place}
use Rattle.kin_store.specs.Rows.{UserRow}
use Rattle.kin_store.proofs.part_snaps.PartSnap.out_half.Goals as goal

pub half_of-requires : goal.half_of-requires
half_of-requires c = λ i f e. c.out-2.ensures
    ∙ c.requires.indexed.out c.args.pair i f (ap (λ (xs : List Half). half_place xs c.args.pair.other)
    (sym (c.out.ensures ∙ ap (λ (r : UserRow). r.out) c.row.ensures)) ∙ e)
