use Rattle.std.proofs.Common.{◌≡◌, List, cond, nat_eq, unwrap_or, length, ap, subst, arith}
use Rattle.std.specs.List.{sum_by}
use Rattle.std.specs.HashMap.{get, spare}
use Rattle.kin_ids.specs.declared.ids.User.{User}
use Rattle.kin_ids.specs.Users.{same_user}
use Rattle.kin_graph.specs.declared.deltas.SaidRow.{SaidRow}
use Rattle.kin_graph.specs.Deltas.{DeltaLists}
use Rattle.kin_counts.specs.Changes.{raised}
use Rattle.kin_counts.proofs.Moving.{raised-twice}
use Rattle.kin_counts.proofs.Filling.{all-next, all-last, room-here, room-left}
use Rattle.kin_counts.proofs.tables.raise_all_said.Goals as goal

pub raise_said-requires : goal.raise_said-requires
raise_said-requires c =
    let all = ap (λ (rows : List SaidRow). length rows) c.said.ensures in
    let room = room-here (λ (d : DeltaLists). length
    ((λ (e : DeltaLists). e.said) d)) c.args.deltas.now c.loop-delta.delta-index c.delta-item.result c.loop-delta-test.true
    c.delta-item.is (spare c.args.numbers.now) (spare c.loop-delta.numbers)
    c.requires c.loop-delta.invariant.room in
    omega (arith, all, room)

pub loop-delta-preserved : goal.loop-delta-preserved
loop-delta-preserved c =
    let start = λ (x : User). unwrap_or (get nat_eq c.args.numbers.now x.0) 0 in
    let old = λ (x : User). unwrap_or (get nat_eq c.loop-delta.numbers x.0) 0 in
    let new = λ (x : User). unwrap_or (get nat_eq c.raise_said.new.numbers x.0) 0 in
    let all = ap (λ (rows : List SaidRow). length rows) c.said.ensures in
    record {
      numbers = all-next raised raised-twice (λ (x : User) (d : DeltaLists). sum_by
          (λ (r : SaidRow). cond (same_user x r.user) r.number 0)
          ((λ (e : DeltaLists). e.said) d)) c.args.deltas.now c.loop-delta.delta-index start old new c.delta-item.result
          c.loop-delta-test.true c.delta-item.is
          c.loop-delta.invariant.numbers (subst (λ (rows : List SaidRow). (x : User) → new x
          ≡ raised (sum_by (λ (r : SaidRow). cond (same_user x r.user) r.number 0) rows)
          (old x)) c.said.ensures c.raise_said.ensures.numbers);
      room = room-left (λ (d : DeltaLists). length
          ((λ (e : DeltaLists). e.said) d)) c.args.deltas.now c.loop-delta.delta-index c.delta-item.result c.loop-delta-test.true
          c.delta-item.is (spare c.args.numbers.now) (spare c.loop-delta.numbers)
          (spare c.raise_said.new.numbers) c.loop-delta.invariant.room (omega (arith, all, c.raise_said.ensures.spare));
    }

pub returns : goal.returns
returns c =
    let start = λ (x : User). unwrap_or (get nat_eq c.args.numbers.now x.0) 0 in
    let old = λ (x : User). unwrap_or (get nat_eq c.loop-delta.numbers x.0) 0 in
    all-last raised raised-twice (λ (x : User) (d : DeltaLists). sum_by (λ (r : SaidRow). cond (same_user x r.user) r.number 0)
    ((λ (e : DeltaLists). e.said) d)) c.args.deltas.now c.loop-delta.delta-index start old old c.loop-delta-test.false
    c.loop-delta.invariant.numbers
