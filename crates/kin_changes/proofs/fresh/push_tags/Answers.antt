use Rattle.kin_store.specs.declared.pairs.TagUser.{TagUser}
use Rattle.kin_ids.specs.Users.{tag_cmp}
use Rattle.kin_changes.proofs.Orders.{tag-total, tag-exact}
use Rattle.kin_changes.proofs.Searched.{fresh-item, fresh-last}
use Rattle.kin_changes.proofs.fresh.push_tags.Goals as goal

pub loop-row-preserved : goal.loop-row-preserved
loop-row-preserved c =
    fresh-item tag_cmp tag-total tag-exact
    (λ (x : TagUser). x.tag) c.args.rows.now c.loop-row.row-index c.args.known.now c.args.fresh.now.items c.loop-row.fresh.items
    c.loop-row.invariant
    c.row-item.result c.loop-row-test.true c.row-item.is c.push_fresh.new.fresh.items c.in_ok-push_fresh.ensures

pub returns : goal.returns
returns c =
    fresh-last tag_cmp tag-total tag-exact
    (λ (x : TagUser). x.tag) c.args.rows.now c.loop-row.row-index c.args.known.now c.args.fresh.now.items c.loop-row.fresh.items
    c.loop-row.invariant
    c.loop-row-test.false
