use Rattle.std.proofs.Common.{◌≡◌, ◌∷◌, rules}
use Rattle.kin_graph.specs.Deltas.{use_of}
use Rattle.kin_graph.specs.Touches.{has_tag_user, tag_user}
use Rattle.kin_graph.proofs.AllNoting.{left-step, past-use}
use Rattle.kin_graph.proofs.notes.put_uses.Goals as goal

pub loop-used-preserved : goal.loop-used-preserved
loop-used-preserved c =
    let used = c.in-Some.used.now in
    let rest = c.next.new.self in
    let here : c.loop-used.used-iterator ≡ used ∷ rest = search rules in
    let kept = c.in_ok-put_tag_user.ensures.kept in
    record {
      kept = λ p none. c.loop-used.invariant.kept p (kept p none);
      left = left-step (has_tag_user c.loop-used.pairs.keys) (has_tag_user c.put_tag_user.new.pairs.keys) kept
          (λ k. tag_user k c.args.user) use_of c.args.uses.now c.loop-used.used-iterator rest used here
          (λ k none. past-use c.args.user k used rest (c.in_ok-put_tag_user.ensures.ok (tag_user k c.args.user) none))
          c.loop-used.invariant.left;
    }
