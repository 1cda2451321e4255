use Rattle.std.proofs.Common.{Some, sym, ap, ◌∙◌}
use Rattle.kin_ids.specs.declared.ops.Use.{Use}
use Rattle.kin_ids.specs.Users.{same_tag}
use Rattle.kin_store.proofs.Finds.{find-placed, find-unplaced}
use Rattle.kin_store.proofs.lists.use_in.Goals as goal

pub returns-in_default : goal.returns-in_default
returns-in_default c = sym (find-unplaced (λ (x : Use). same_tag c.args.tag x.tag) c.args.uses.now (sym c.in_default.ensures))

pub returns : goal.returns
returns c =
    ap (λ (x : Use). Some x) (c.at.ensures c.at.result)
    ∙ sym (find-placed (λ (x : Use). same_tag c.args.tag x.tag) c.args.uses.now c.in-Some.at c.at.result (sym c.in-Some.ensures))
