use Rattle.std.proofs.Common.{ap, ◌∙◌}
use Rattle.kin_ids.specs.declared.ops.Op.{Op}
use Rattle.kin_ids.specs.Parts.{with_member}
use Rattle.kin_store.specs.Rows.{row_applied}
use Rattle.kin_store.specs.State.{row_of, users_of}
use Rattle.kin_store.specs.Changes.{done, kept}
use Rattle.kin_store.proofs.Owners.{done-owner, row-kept, users-kept}
use Rattle.kin_store.proofs.stores.Store.is_done.Goals as goal

pub returns-in-TagUse : goal.returns-in-TagUse
returns-in-TagUse c = λ so place.
    let t = c.in-TagUse.tag in
    let s = c.args.self.now in
    ap (λ (o : Op). done place (kept s) o) c.in-TagUse.is ∙ users-kept (kept s) t (with_member c.in-TagUse.user (users_of s t))
    (c.is_done_by_tag.ensures so)

pub returns-in-AddOut : goal.returns-in-AddOut
returns-in-AddOut c = λ so place.
    let u = c.in-AddOut.user in
    let s = c.args.self.now in
    done-owner place (kept s) u c.args.op.now c.in-AddOut.is ∙ row-kept (kept s) u (row_applied place (row_of s u) c.args.op.now)
    (c.is_done_by_user.ensures so place)
