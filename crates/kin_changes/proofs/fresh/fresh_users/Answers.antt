use Rattle.std.proofs.Common.{not}
use Rattle.kin_ids.specs.Users.{has_user}
use Rattle.kin_graph.specs.Deltas.{DeltaLists}
use Rattle.kin_changes.specs.Told.{is_told}
use Rattle.kin_changes.proofs.Searched.{told-next, told-last}
use Rattle.kin_changes.proofs.fresh.fresh_users.Goals as goal

pub loop-delta-preserved : goal.loop-delta-preserved
loop-delta-preserved c =
    λ u.
    told-next (λ (d : DeltaLists). is_told d u) c.args.deltas.now c.loop-delta.delta-index c.delta-item.result c.loop-delta-test.true
    c.delta-item.is (not (has_user c.args.known.now u))
    (has_user c.loop-delta.fresh.items u) (has_user c.push_told.new.fresh.items u) (c.loop-delta.invariant u) (c.in_ok-push_told.ensures u)

pub returns : goal.returns
returns c =
    λ u.
    told-last (λ (d : DeltaLists). is_told d u) c.args.deltas.now c.loop-delta.delta-index c.loop-delta-test.false
    (not (has_user c.args.known.now u)) (has_user c.loop-delta.fresh.items u) (c.loop-delta.invariant u)
