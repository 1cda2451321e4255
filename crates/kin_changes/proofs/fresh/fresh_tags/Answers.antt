use Rattle.std.proofs.Common.{not, ◌||◌, ◌&&◌, ◌∙◌, List, ap}
use Rattle.std.specs.List.{list_any}
use Rattle.kin_ids.specs.Users.{same_tag}
use Rattle.kin_store.specs.declared.pairs.TagUser.{TagUser}
use Rattle.kin_graph.specs.Deltas.{DeltaLists}
use Rattle.kin_changes.proofs.Searched.{told-next, told-last}
use Rattle.kin_changes.proofs.fresh.fresh_tags.Goals as goal

pub loop-delta-preserved : goal.loop-delta-preserved
loop-delta-preserved c =
    λ t.
    told-next (λ (d : DeltaLists). list_any
    (λ (x : TagUser). same_tag t x.tag) d.tag_users) c.args.deltas.now c.loop-delta.delta-index c.delta-item.result c.loop-delta-test.true
    c.delta-item.is
    (not (list_any (same_tag t) c.args.known.now)) (list_any (same_tag t) c.loop-delta.fresh.items)
    (list_any (same_tag t) c.push_tags.new.fresh.items) (c.loop-delta.invariant t)
    (c.in_ok-push_tags.ensures t ∙ ap (λ (rows : List TagUser). list_any (same_tag t) c.loop-delta.fresh.items
    || (list_any (λ (x : TagUser). same_tag t x.tag) rows && not (list_any (same_tag t) c.args.known.now))) c.tag_users.ensures)

pub returns : goal.returns
returns c =
    λ t.
    told-last (λ (d : DeltaLists). list_any
    (λ (x : TagUser). same_tag t x.tag) d.tag_users) c.args.deltas.now c.loop-delta.delta-index c.loop-delta-test.false
    (not (list_any (same_tag t) c.args.known.now)) (list_any (same_tag t) c.loop-delta.fresh.items) (c.loop-delta.invariant t)
