use Rattle.std.proofs.Common.{◌≡◌, ℕ, List, nat_eq, unwrap_or, length, count_by, ap, subst, arith}
use Rattle.std.specs.HashMap.{get, spare}
use Rattle.std.specs.Cmp.Lexicographic.{pointwise}
use Rattle.kin_ids.specs.Users.{same_tag}
use Rattle.kin_store.specs.declared.pairs.TagUser.{TagUser}
use Rattle.kin_graph.specs.Deltas.{DeltaLists}
use Rattle.kin_counts.specs.Changes.{raised}
use Rattle.kin_counts.proofs.Moving.{raised-twice}
use Rattle.kin_counts.proofs.Filling.{all-next, all-last, room-here, room-left}
use Rattle.kin_counts.proofs.tables.raise_all_tags.Goals as goal

pub raise_tags-requires : goal.raise_tags-requires
raise_tags-requires c =
    let all = ap (λ (rows : List TagUser). length rows) c.tag_users.ensures in
    let room = room-here (λ (d : DeltaLists). length
    ((λ (e : DeltaLists). e.tag_users) d)) c.args.deltas.now c.loop-delta.delta-index c.delta-item.result c.loop-delta-test.true
    c.delta-item.is (spare c.args.numbers.now) (spare c.loop-delta.numbers)
    c.requires c.loop-delta.invariant.room in
    omega (arith, all, room)

pub loop-delta-preserved : goal.loop-delta-preserved
loop-delta-preserved c =
    let start = λ (x : List ℕ). unwrap_or (get (pointwise nat_eq) c.args.numbers.now x) 0 in
    let old = λ (x : List ℕ). unwrap_or (get (pointwise nat_eq) c.loop-delta.numbers x) 0 in
    let new = λ (x : List ℕ). unwrap_or (get (pointwise nat_eq) c.raise_tags.new.numbers x) 0 in
    let all = ap (λ (rows : List TagUser). length rows) c.tag_users.ensures in
    record {
      numbers = all-next raised raised-twice (λ (x : List ℕ) (d : DeltaLists). count_by (λ (r : TagUser). same_tag x r.tag)
          ((λ (e : DeltaLists). e.tag_users) d)) c.args.deltas.now c.loop-delta.delta-index start old new c.delta-item.result
          c.loop-delta-test.true c.delta-item.is
          c.loop-delta.invariant.numbers (subst (λ (rows : List TagUser). (x : List ℕ) → new x
          ≡ raised (count_by (λ (r : TagUser). same_tag x r.tag) rows) (old x)) c.tag_users.ensures c.raise_tags.ensures.numbers);
      room = room-left (λ (d : DeltaLists). length
          ((λ (e : DeltaLists). e.tag_users) d)) c.args.deltas.now c.loop-delta.delta-index c.delta-item.result c.loop-delta-test.true
          c.delta-item.is (spare c.args.numbers.now) (spare c.loop-delta.numbers)
          (spare c.raise_tags.new.numbers) c.loop-delta.invariant.room (omega (arith, all, c.raise_tags.ensures.spare));
    }

pub returns : goal.returns
returns c =
    let start = λ (x : List ℕ). unwrap_or (get (pointwise nat_eq) c.args.numbers.now x) 0 in
    let old = λ (x : List ℕ). unwrap_or (get (pointwise nat_eq) c.loop-delta.numbers x) 0 in
    all-last raised raised-twice (λ (x : List ℕ) (d : DeltaLists). count_by (λ (r : TagUser). same_tag x r.tag)
    ((λ (e : DeltaLists). e.tag_users) d)) c.args.deltas.now c.loop-delta.delta-index start old old c.loop-delta-test.false
    c.loop-delta.invariant.numbers
