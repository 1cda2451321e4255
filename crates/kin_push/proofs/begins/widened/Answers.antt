use Rattle.std.proofs.Common.{[], refl}
use Rattle.kin_rules.proofs.Pushes.{mapped-push}
use Rattle.kin_push.specs.States.{state, value_in}
use Rattle.kin_push.proofs.Starting.{wide-length, wide-value}
use Rattle.kin_push.proofs.begins.widened.Goals as goal

pub loop-user-preserved : goal.loop-user-preserved
loop-user-preserved c =
    mapped-push (value_in (state c.args.users.now c.args.values.now [])) c.args.more.now c.args.more.now c.loop-user.user-index _
    (record { 0 = 0 }) c.value_near.result c.loop-user.wide.items c.push.new.self.items refl c.loop-user-test.true refl
    (c.value_near.ensures []) c.loop-user.invariant c.in_ok-push.ensures.items

pub returns-clause-valued : goal.returns-clause-valued
returns-clause-valued c = wide-length (value_in (state c.args.users.now c.args.values.now [])) c.loop-user.wide.items c.args.more.now
    c.loop-user.user-index c.loop-user-test.false c.loop-user.invariant

pub returns-clause-values : goal.returns-clause-values
returns-clause-values c marks u =
    wide-value c.args.users.now c.args.values.now c.args.more.now c.loop-user.wide.items c.loop-user.user-index c.requires.valued
    c.requires.all c.loop-user-test.false c.loop-user.invariant u
