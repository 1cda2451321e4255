use Rattle.kin_store.specs.declared.pairs.Pair.{Pair}
use Rattle.kin_ids.specs.Users.{user_cmp}
use Rattle.kin_changes.proofs.Orders.{user-total, user-exact}
use Rattle.kin_changes.proofs.Searched.{fresh-next, fresh-last}
use Rattle.kin_changes.proofs.fresh.push_pairs.Goals as goal

pub loop-pair-preserved : goal.loop-pair-preserved
loop-pair-preserved c =
    fresh-next user_cmp user-total user-exact
    (λ (x : Pair). x.user) c.args.pairs.now c.loop-pair.pair-index c.args.known.now c.args.fresh.now.items c.loop-pair.fresh.items
    c.loop-pair.invariant
    _ c.loop-pair-test.true c.push_fresh.new.fresh.items c.in_ok-push_fresh.ensures

pub returns : goal.returns
returns c =
    fresh-last user_cmp user-total user-exact
    (λ (x : Pair). x.user) c.args.pairs.now c.loop-pair.pair-index c.args.known.now c.args.fresh.now.items c.loop-pair.fresh.items
    c.loop-pair.invariant
    c.loop-pair-test.false
