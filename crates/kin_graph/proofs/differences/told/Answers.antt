use Rattle.std.proofs.Common.{ap, subst}
use Rattle.kin_store.specs.State.{view_of}
use Rattle.kin_graph.specs.declared.deltas.HalfChanges.{HalfChanges}
use Rattle.kin_graph.specs.Deltas.{DeltaLists}
use Rattle.kin_graph.specs.Gathered.{IsFilled}
use Rattle.kin_graph.specs.Touches.{TouchedLists}
use Rattle.kin_graph.proofs.differences.told.Goals as goal

pub returns-clause-filled : goal.returns-clause-filled
returns-clause-filled c =
    let out = c.in_ok-half_changes.field-0 in
    let inn = c.in_ok-half_changes-2.field-0 in
    let lists : DeltaLists = record {
      new_out = out.added;
      new_in = inn.added;
      now_out = out.present;
      now_in = inn.present;
      gone_out = out.gone;
      gone_in = inn.gone;
      mention_out = c.in_ok-new_mentions.field-0;
      mention_in = c.in_ok-new_mentions-2.field-0;
      said = c.in_ok-said_more.field-0;
      uses = c.in_ok-new_uses.field-0;
      tag_users = c.in_ok-new_tag_users.field-0;
    } in
    subst (λ (x : TouchedLists). IsFilled x (view_of c.args.was.now) (view_of c.args.is.now) lists) c.touched.view_is (record {
      new_out = ap (λ (m : HalfChanges). m.added) c.in_ok-half_changes.ensures.told;
      new_in = ap (λ (m : HalfChanges). m.added) c.in_ok-half_changes-2.ensures.told;
      now_out = ap (λ (m : HalfChanges). m.present) c.in_ok-half_changes.ensures.told;
      now_in = ap (λ (m : HalfChanges). m.present) c.in_ok-half_changes-2.ensures.told;
      gone_out = ap (λ (m : HalfChanges). m.gone) c.in_ok-half_changes.ensures.told;
      gone_in = ap (λ (m : HalfChanges). m.gone) c.in_ok-half_changes-2.ensures.told;
      mention_out = c.in_ok-new_mentions.ensures.told;
      mention_in = c.in_ok-new_mentions-2.ensures.told;
      said = c.in_ok-said_more.ensures.told;
      uses = c.in_ok-new_uses.ensures.told;
      tag_users = c.in_ok-new_tag_users.ensures.told;
    })
