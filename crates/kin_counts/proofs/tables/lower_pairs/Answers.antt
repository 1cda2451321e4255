use Rattle.std.proofs.Common.{nat_eq, unwrap_or, arith}
use Rattle.std.specs.HashMap.{get}
use Rattle.kin_ids.specs.declared.ids.User.{User}
use Rattle.kin_ids.specs.Users.{same_user}
use Rattle.kin_store.specs.declared.pairs.Pair.{Pair}
use Rattle.kin_counts.specs.Changes.{lowered}
use Rattle.kin_counts.proofs.Moving.{lowered-twice}
use Rattle.kin_counts.proofs.Filling.{fill-next, fill-last}
use Rattle.kin_counts.proofs.tables.lower_pairs.Goals as goal

pub loop-pair-preserved : goal.loop-pair-preserved
loop-pair-preserved c =
    let start = λ (x : User). unwrap_or (get nat_eq c.args.numbers.now x.0) 0 in
    let old = λ (x : User). unwrap_or (get nat_eq c.loop-pair.numbers x.0) 0 in
    let new = λ (x : User). unwrap_or (get nat_eq c.lower.new.numbers x.0) 0 in
    record {
      numbers = fill-next lowered lowered-twice same_user (λ (r : Pair). r.user)
          (λ (r : Pair). 1) c.args.pairs.now c.loop-pair.pair-index start old new _ c.loop-pair-test.true c.loop-pair.invariant.numbers
          c.lower.ensures.numbers;
      room = omega (arith, c.loop-pair.invariant.room, c.lower.ensures.spare);
    }

pub returns-clause-numbers : goal.returns-clause-numbers
returns-clause-numbers c =
    let start = λ (x : User). unwrap_or (get nat_eq c.args.numbers.now x.0) 0 in
    let old = λ (x : User). unwrap_or (get nat_eq c.loop-pair.numbers x.0) 0 in
    fill-last lowered lowered-twice same_user (λ (r : Pair). r.user)
    (λ (r : Pair). 1) c.args.pairs.now c.loop-pair.pair-index start old old c.loop-pair-test.false c.loop-pair.invariant.numbers
