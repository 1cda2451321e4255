use Rattle.std.proofs.Common.{◌≡◌, List, nat_eq, unwrap_or, length, count_by, ap, subst, arith}
use Rattle.std.specs.HashMap.{get, spare}
use Rattle.kin_ids.specs.declared.ids.User.{User}
use Rattle.kin_store.specs.declared.pairs.Pair.{Pair}
use Rattle.kin_graph.specs.Deltas.{DeltaLists}
use Rattle.kin_changes.specs.Told.{is_of}
use Rattle.kin_counts.specs.Changes.{lowered}
use Rattle.kin_counts.specs.Tallies.{gone_on}
use Rattle.kin_counts.proofs.Moving.{lowered-twice}
use Rattle.kin_counts.proofs.Filling.{all-next, all-last, room-here, room-left, room-last}
use Rattle.kin_counts.proofs.tables.lower_all.Goals as goal

pub lower_pairs-requires : goal.lower_pairs-requires
lower_pairs-requires c =
    let all = ap (λ (rows : List Pair). length rows) c.gone.ensures in
    let room = room-here (λ (d : DeltaLists). length
    (gone_on c.args.side d)) c.args.deltas.now c.loop-delta.delta-index c.delta-item.result c.loop-delta-test.true c.delta-item.is
    (spare c.args.numbers.now) (spare c.loop-delta.numbers)
    c.requires c.loop-delta.invariant.room in
    omega (arith, all, room)

pub loop-delta-preserved : goal.loop-delta-preserved
loop-delta-preserved c =
    let start = λ (x : User). unwrap_or (get nat_eq c.args.numbers.now x.0) 0 in
    let old = λ (x : User). unwrap_or (get nat_eq c.loop-delta.numbers x.0) 0 in
    let new = λ (x : User). unwrap_or (get nat_eq c.lower_pairs.new.numbers x.0) 0 in
    let all = ap (λ (rows : List Pair). length rows) c.gone.ensures in
    record {
      numbers = all-next lowered lowered-twice (λ (x : User) (d : DeltaLists). count_by (is_of x)
          (gone_on c.args.side d)) c.args.deltas.now c.loop-delta.delta-index start old new c.delta-item.result c.loop-delta-test.true
          c.delta-item.is
          c.loop-delta.invariant.numbers (subst (λ (rows : List Pair). (x : User) → new x
          ≡ lowered (count_by (is_of x) rows) (old x)) c.gone.ensures c.lower_pairs.ensures.numbers);
      room = room-left (λ (d : DeltaLists). length
          (gone_on c.args.side d)) c.args.deltas.now c.loop-delta.delta-index c.delta-item.result c.loop-delta-test.true c.delta-item.is
          (spare c.args.numbers.now) (spare c.loop-delta.numbers)
          (spare c.lower_pairs.new.numbers) c.loop-delta.invariant.room (omega (arith, all, c.lower_pairs.ensures.spare));
    }

pub returns-clause-numbers : goal.returns-clause-numbers
returns-clause-numbers c =
    let start = λ (x : User). unwrap_or (get nat_eq c.args.numbers.now x.0) 0 in
    let old = λ (x : User). unwrap_or (get nat_eq c.loop-delta.numbers x.0) 0 in
    all-last lowered lowered-twice (λ (x : User) (d : DeltaLists). count_by (is_of x)
    (gone_on c.args.side d)) c.args.deltas.now c.loop-delta.delta-index start old old c.loop-delta-test.false
    c.loop-delta.invariant.numbers

pub returns-clause-spare : goal.returns-clause-spare
returns-clause-spare c = room-last (λ (d : DeltaLists). length
    (gone_on c.args.side d)) c.args.deltas.now c.loop-delta.delta-index c.loop-delta-test.false (spare c.args.numbers.now)
    (spare c.loop-delta.numbers) c.loop-delta.invariant.room
