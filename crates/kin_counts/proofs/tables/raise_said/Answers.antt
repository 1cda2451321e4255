use Rattle.std.proofs.Common.{nat_eq, unwrap_or, arith}
use Rattle.std.specs.HashMap.{get}
use Rattle.kin_ids.specs.declared.ids.User.{User}
use Rattle.kin_ids.specs.Users.{same_user}
use Rattle.kin_graph.specs.declared.deltas.SaidRow.{SaidRow}
use Rattle.kin_counts.specs.Changes.{raised}
use Rattle.kin_counts.proofs.Moving.{raised-twice}
use Rattle.kin_counts.proofs.Filling.{fill-next, fill-last}
use Rattle.kin_counts.proofs.tables.raise_said.Goals as goal

pub loop-row-preserved : goal.loop-row-preserved
loop-row-preserved c =
    let start = λ (x : User). unwrap_or (get nat_eq c.args.numbers.now x.0) 0 in
    let old = λ (x : User). unwrap_or (get nat_eq c.loop-row.numbers x.0) 0 in
    let new = λ (x : User). unwrap_or (get nat_eq c.raise.new.numbers x.0) 0 in
    record {
      numbers = fill-next raised raised-twice same_user (λ (r : SaidRow). r.user)
          (λ (r : SaidRow). r.number) c.args.rows.now c.loop-row.row-index start old new _ c.loop-row-test.true
          c.loop-row.invariant.numbers c.raise.ensures.numbers;
      room = omega (arith, c.loop-row.invariant.room, c.raise.ensures.spare);
    }

pub returns-clause-numbers : goal.returns-clause-numbers
returns-clause-numbers c =
    let start = λ (x : User). unwrap_or (get nat_eq c.args.numbers.now x.0) 0 in
    let old = λ (x : User). unwrap_or (get nat_eq c.loop-row.numbers x.0) 0 in
    fill-last raised raised-twice same_user (λ (r : SaidRow). r.user)
    (λ (r : SaidRow). r.number) c.args.rows.now c.loop-row.row-index start old old c.loop-row-test.false c.loop-row.invariant.numbers
