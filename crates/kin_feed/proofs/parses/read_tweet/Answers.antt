use Rattle.std.proofs.Common.{arith, sym, inl, inr, ◌≤◌, ◌∙◌, length}
use Rattle.csv.specs.Records.{fields_of}
use Rattle.kin_feed.proofs.ItemLists.{no_user, bad_user, bad_size, good_tweet}
use Rattle.kin_feed.proofs.parses.read_tweet.Goals.{then-len-lt3-via-then-len-lt3, then-len-lt3-via-else-len-lt3+then-len}
use Rattle.kin_feed.proofs.parses.read_tweet.Goals as goal

pub returns-in_default : goal.returns-in_default
returns-in_default c = no_user (fields_of c.args.row.now) c.in_default.ensures.value

pub returns-in_default-read : goal.returns-in_default-read
returns-in_default-read c = bad_user (fields_of c.args.row.now) c.in-Some.user.now c.in-Some.ensures.value c.in_default-read.ensures

pub returns-then-len-lt3 : goal.returns-then-len-lt3
returns-then-len-lt3 c = bad_size (fields_of c.args.row.now) c.in-Some.user.now c.in-Some.ensures.value (elim c.then-len-lt3.branch [
  | then-len-lt3-via-then-len-lt3 w ↦ inl (omega (arith, w.if-len-lt3.true, c.len.ensures))
  | then-len-lt3-via-else-len-lt3+then-len w ↦ inr (omega (arith, w.if-len.true, w.len-else-len-lt3.ensures))
])

pub returns-in-Some-2 : goal.returns-in-Some-2
returns-in-Some-2 c =
    let low : 3 ≤ length (fields_of c.args.row.now) = omega (arith, c.if-len-lt3.false, c.len.ensures) in
    let high : length (fields_of c.args.row.now) ≤ 18 = omega (arith, c.if-len.false, c.len-else-len-lt3.ensures) in
    good_tweet (fields_of c.args.row.now) c.in-Some.user.now c.in-Some-read.u c.in-Some-2.items c.in-Some.ensures.value c.in-Some-read.ensures low high (sym c.in-Some-2.is ∙ c.in_ok-items.ensures)
