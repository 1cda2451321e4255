use Rattle.std.proofs.Common.{◌<◌, ◌≤◌, ◌∙◌, ap, subst, length, get_or, arith, List}
use Rattle.std.proofs.lemmas.List.{take_all}
use Rattle.kin_ids.specs.declared.ids.User.{User}
use Rattle.kin_ids.specs.Users.{has_user}
use Rattle.kin_store.specs.Rows.{UserRow}
use Rattle.kin_graph.specs.Touches.{NotesRow}
use Rattle.kin_graph.proofs.AllNoting.{rows-more}
use Rattle.kin_graph.proofs.touched.Touched.note_rows.Goals as goal

pub loop-user-preserved : goal.loop-user-preserved
loop-user-preserved c =
    let test = c.loop-user-test.true in
    let lt : c.loop-user.user-index < length c.args.users.now = omega (arith, test) in
    let user = get_or c.args.users.now c.loop-user.user-index (record { 0 = 0 }) in
    let row = subst (λ (r : UserRow). NotesRow user r c.note_row.new.self) c.row.ensures c.in_ok-note_row.ensures.ok in
    rows-more c.args.snap.now c.args.users.now c.loop-user.user-index (record { 0 = 0 }) c.loop-user.self c.note_row.new.self lt
    c.in_ok-note_row.ensures.kept row c.loop-user.invariant

pub returns : goal.returns
returns c = λ u h.
    let test = c.loop-user-test.false in
    let past : length c.args.users.now ≤ c.loop-user.user-index = omega (arith, test) in
    c.loop-user.invariant u (ap (λ (us : List User). has_user us u) (take_all c.loop-user.user-index c.args.users.now past) ∙ h)
