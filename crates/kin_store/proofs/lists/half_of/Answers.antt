use Rattle.std.proofs.Common.{Some, sym, ap, ◌∙◌}
use Rattle.kin_ids.specs.declared.ops.Half.{Half}
use Rattle.kin_ids.specs.Users.{same_user}
use Rattle.kin_store.proofs.Finds.{find-placed, find-unplaced}
use Rattle.kin_store.proofs.lists.half_of.Goals as goal

pub returns-in_default : goal.returns-in_default
returns-in_default c = sym (find-unplaced (λ (h : Half). same_user c.args.other h.other) c.args.halves.now (sym c.in_default.ensures))

pub returns : goal.returns
returns c =
    ap (λ (h : Half). Some h) (c.at.ensures c.at.result)
    ∙ sym (find-placed (λ (h : Half). same_user c.args.other h.other) c.args.halves.now c.in-Some.at c.at.result (sym c.in-Some.ensures))
