use Rattle.std.proofs.Common.{◌≡◌, ◌∷◌, rules}
use Rattle.kin_graph.specs.Touches.{has_tag_user, tag_user}
use Rattle.kin_ids.specs.Users.{has_user}
use Rattle.kin_graph.proofs.AllNoting.{left-step, past-tag_user}
use Rattle.kin_graph.proofs.notes.put_tag_users.Goals as goal

pub loop-user-preserved : goal.loop-user-preserved
loop-user-preserved c =
    let user = c.in-Some.user.now in
    let rest = c.next.new.self in
    let here : c.loop-user.user-iterator ≡ user ∷ rest = search rules in
    let kept = c.in_ok-put_tag_user.ensures.kept in
    record {
      kept = λ p none. c.loop-user.invariant.kept p (kept p none);
      left = left-step (has_tag_user c.loop-user.pairs.keys) (has_tag_user c.put_tag_user.new.pairs.keys) kept
          (λ k. tag_user c.args.tag k) has_user c.args.users.now c.loop-user.user-iterator rest user here
          (λ k none. past-tag_user c.args.tag k user rest (c.in_ok-put_tag_user.ensures.ok (tag_user c.args.tag k) none))
          c.loop-user.invariant.left;
    }
