use Rattle.kin_graph.specs.declared.deltas.UseRow.{UseRow}
use Rattle.kin_ids.specs.Users.{user_cmp}
use Rattle.kin_changes.proofs.Orders.{user-total, user-exact}
use Rattle.kin_changes.proofs.Searched.{fresh-item, fresh-last}
use Rattle.kin_changes.proofs.fresh.push_uses.Goals as goal

pub loop-row-preserved : goal.loop-row-preserved
loop-row-preserved c =
    fresh-item user_cmp user-total user-exact
    (λ (x : UseRow). x.user) c.args.uses.now c.loop-row.row-index c.args.known.now c.args.fresh.now.items c.loop-row.fresh.items
    c.loop-row.invariant
    c.row-item.result c.loop-row-test.true c.row-item.is c.push_fresh.new.fresh.items c.in_ok-push_fresh.ensures

pub returns : goal.returns
returns c =
    fresh-last user_cmp user-total user-exact
    (λ (x : UseRow). x.user) c.args.uses.now c.loop-row.row-index c.args.known.now c.args.fresh.now.items c.loop-row.fresh.items
    c.loop-row.invariant
    c.loop-row-test.false
