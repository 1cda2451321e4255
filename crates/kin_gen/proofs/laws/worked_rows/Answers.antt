use Rattle.std.proofs.Common.{refl, arith}
use Rattle.std.proofs.lemmas.Fmt.{decimal_digit}
use Rattle.kin_gen.specs.Draws.{past}
use Rattle.kin_gen.specs.Feeds.{record_text, record_end, dealt}
use Rattle.kin_gen.specs.Rounds.{turn, after_turn, round, after_round}
use Rattle.kin_gen.proofs.laws.worked_rows.Goals as goal

pub returns-clause-records : goal.returns-clause-records
unfolding record_text record_end past
returns-clause-records c =
    let none = decimal_digit 0 (omega arith) in
    let four = decimal_digit 4 (omega arith) in
    let seven = decimal_digit 7 (omega arith) in
    let eight = decimal_digit 8 (omega arith) in
    record {
      follow = λ s. rw (seven, four) refl;
      follow_last = λ s. rw (seven, eight) refl;
      unfollow = λ s. rw (seven, none) refl;
      tweet = λ s. rw seven refl;
      bad = λ s. refl;
      user = rw four refl;
      tag = rw four refl;
      no_draws = λ s. refl;
      two_draws = λ s. refl;
    }

pub returns-clause-dealt : goal.returns-clause-dealt
unfolding dealt
returns-clause-dealt c = record { first = refl; second = refl; third = refl }

pub returns-clause-stamps : goal.returns-clause-stamps
returns-clause-stamps c = record { backwards = refl; to_the_end = refl }

pub returns-clause-rounds : goal.returns-clause-rounds
unfolding turn after_turn round after_round
returns-clause-rounds c = record { seventh = refl; eighth = refl; cut = refl; restart = refl; restarted = refl }
