use Rattle.kin_rules.specs.declared.numbers.Num.TheVariants as num
use Rattle.kin_rules.proofs.ResultSets.{sets-number}
use Rattle.kin_rules.proofs.results.EpochResult.put_number.Goals as goal

pub returns-in-In : goal.returns-in-In
returns-in-In c =
    sets-number _ _ c.self.view_is c.self.invariant _ c.deref.ensures.value c.args.u c.in-Ok.at c.args.n c.in-Ok.ensures num.In _ c.in-In.is

pub returns-in-Out : goal.returns-in-Out
returns-in-Out c =
    sets-number _ _ c.self.view_is c.self.invariant _ c.deref.ensures.value c.args.u c.in-Ok.at c.args.n c.in-Ok.ensures num.Out _ c.in-Out.is

pub returns-in-Said : goal.returns-in-Said
returns-in-Said c =
    sets-number _ _ c.self.view_is c.self.invariant _ c.deref.ensures.value c.args.u c.in-Ok.at c.args.n c.in-Ok.ensures num.Said _ c.in-Said.is

pub returns-in-Rank : goal.returns-in-Rank
returns-in-Rank c =
    sets-number _ _ c.self.view_is c.self.invariant _ c.deref.ensures.value c.args.u c.in-Ok.at c.args.n c.in-Ok.ensures num.Rank _ c.in-Rank.is
