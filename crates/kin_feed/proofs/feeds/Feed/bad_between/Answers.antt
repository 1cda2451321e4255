use Rattle.std.proofs.Common.{arith}
use Rattle.kin_feed.proofs.BadCounts.{counts_between}
use Rattle.kin_feed.proofs.feeds.Feed.bad_between.Goals as goal

pub overflow_sub-result : goal.overflow_sub-result
overflow_sub-result c = omega (arith, counts_between c.args.from c.args.to c.args.self.now c.requires.from, c.bad_until.ensures, c.bad_until-2.ensures)

pub returns : goal.returns
returns c = omega (arith, counts_between c.args.from c.args.to c.args.self.now c.requires.from, c.bad_until.ensures, c.bad_until-2.ensures)
