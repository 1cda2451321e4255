use Rattle.std.proofs.Common.{◌≡◌, ◌<◌, ◌^◌, sym, ap, ◌∙◌, subst}
use Rattle.std.proofs.lemmas.Result.{on_ok_weaker}
use Rattle.kin_store.specs.Rows.{UserRow, row_applied}
use Rattle.kin_store.specs.Changes.{Kept, with_row, kept}
use Rattle.kin_store.proofs.Owners.{done-owner, changed-here, place-owner}
use Rattle.kin_store.specs.State.{row_of}
use Rattle.kin_store.proofs.stores.Store.apply_op.Goals as goal

pub apply_to_user-requires-clause-said : goal.apply_to_user-requires-clause-said
apply_to_user-requires-clause-said c =
    let u = c.in-AddOut.user in
    let k = kept c.args.self.now in
    let r : UserRow = row_applied c.args.place (row_of c.args.self.now u) c.args.op.now in
    let same : ((with_row k u r).row u).said ≡ r.said = ap (λ (x : UserRow). x.said) (changed-here k.row u r) in
    let said = subst (λ (n : Kept). (n.row u).said < 2 ^ 64) (done-owner c.args.place k u c.args.op.now c.in-AddOut.is)
    (c.requires.said u) in
    rw (← same) said

pub returns-in-AddOut-clause-ok : goal.returns-in-AddOut-clause-ok
returns-in-AddOut-clause-ok c =
    let u = c.in-AddOut.user in
    let k = kept c.args.self.now in
    on_ok_weaker c.apply_to_user.result
    (λ (e : kept c.apply_to_user.new.self ≡ with_row k u (row_applied c.args.place (row_of c.args.self.now u) c.args.op.now)).
    e ∙ sym (done-owner c.args.place k u c.args.op.now c.in-AddOut.is))
    c.apply_to_user.ensures.ok

pub apply_to_user-requires-clause-at : goal.apply_to_user-requires-clause-at
apply_to_user-requires-clause-at c = c.requires.at ∙ place-owner (kept c.args.self.now) c.in-AddOut.user c.args.op.now c.in-AddOut.is
