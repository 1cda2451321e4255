use Rattle.std.proofs.Common.{List, subst, count_by}
use Rattle.kin_ids.specs.Users.{same_tag}
use Rattle.kin_store.specs.declared.pairs.TagUser.{TagUser}
use Rattle.kin_counts.specs.Changes.{RaisesTags}
use Rattle.kin_counts.proofs.Tagging.{tags-nothing, tag-deltas-next, tag-deltas-last}
use Rattle.kin_counts.proofs.changes.raise_all_tags.Goals as goal

pub loop-delta-init : goal.loop-delta-init
loop-delta-init c = tags-nothing c.args.counted.now

pub loop-delta-preserved : goal.loop-delta-preserved
loop-delta-preserved c =
    tag-deltas-next c.args.deltas.now c.loop-delta.delta-index c.delta-item.result c.loop-delta-test.true c.delta-item.is
    c.args.counted.now c.loop-delta.counted c.raise_tags.new.counted c.loop-delta.invariant
    (subst (λ (rows : List TagUser). RaisesTags c.loop-delta.counted
    (λ t. count_by (λ (x : TagUser). same_tag t x.tag) rows) c.raise_tags.new.counted) c.tag_users.ensures c.raise_tags.ensures)

pub returns : goal.returns
returns c = tag-deltas-last c.args.deltas.now c.loop-delta.delta-index c.args.counted.now c.loop-delta.counted c.loop-delta-test.false
    c.loop-delta.invariant
