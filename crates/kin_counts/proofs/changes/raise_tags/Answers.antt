use Rattle.kin_store.specs.declared.pairs.TagUser.{TagUser}
use Rattle.kin_counts.proofs.Tagging.{tags-nothing, tags-next, tags-last}
use Rattle.kin_counts.proofs.changes.raise_tags.Goals as goal

pub loop-row-init : goal.loop-row-init
loop-row-init c = tags-nothing c.args.counted.now

pub loop-row-preserved : goal.loop-row-preserved
loop-row-preserved c =
    tags-next (λ (x : TagUser). x.tag) c.args.rows.now c.loop-row.row-index c.args.counted.now c.loop-row.counted c.raise_tag.new.counted
    c.row-item.result c.loop-row-test.true c.row-item.is c.loop-row.invariant c.raise_tag.ensures

pub returns : goal.returns
returns c = tags-last (λ
    (x : TagUser). x.tag) c.args.rows.now c.loop-row.row-index c.args.counted.now c.loop-row.counted c.loop-row-test.false
    c.loop-row.invariant
