use Rattle.std.proofs.Common.{◌∙◌, sym}
use Rattle.kin_rules.specs.declared.kinds.EdgeKind.TheVariants as kind
use Rattle.kin_push.specs.States.{net_in, state, value_in}
use Rattle.kin_push.proofs.Facts.{rested-later, turning-none}
use Rattle.kin_push.proofs.TurnParts.{rested-both, rested-valueless, turning-on, value-small}
use Rattle.kin_push.proofs.turns.push.Goals as goal

pub returns-in_default-clause-turning : goal.returns-in_default-clause-turning
returns-in_default-clause-turning g c = turning-none (net_in (g.R.PushRule.seen c.args.rule.now) (g.V.View.seen c.args.view.now)
    c.args.users.now) c.args.u _ _ c.requires.on c.requires.active

pub returns-in_default-clause-rested : goal.returns-in_default-clause-rested
returns-in_default-clause-rested g c = rested-valueless (g.R.PushRule.seen c.args.rule.now) (g.V.View.seen c.args.view.now)
    (state c.args.users.now c.args.values.now c.args.active.now) c.args.u (sym (c.in_default.ensures c.args.active.now))

pub push_kind-requires-clause-value : goal.push_kind-requires-clause-value
push_kind-requires-clause-value g c = sym (c.in-Some.ensures c.args.active.now)

pub push_kind-requires-clause-small : goal.push_kind-requires-clause-small
push_kind-requires-clause-small g c = value-small (g.R.PushRule.seen c.args.rule.now) (g.met.R.PushRule.laws c.args.rule.now)
    (g.V.View.seen c.args.view.now) (state c.args.users.now c.args.values.now c.args.active.now) c.args.u c.in-Some.value c.requires.on
    (sym (c.in-Some.ensures c.args.active.now))

pub push_kind-requires-2-clause-on : goal.push_kind-requires-2-clause-on
push_kind-requires-2-clause-on g c = c.push_kind.ensures.turning.on

pub push_kind-requires-2-clause-active : goal.push_kind-requires-2-clause-active
push_kind-requires-2-clause-active g c = c.push_kind.ensures.turning.active

pub push_kind-requires-2-clause-value : goal.push_kind-requires-2-clause-value
push_kind-requires-2-clause-value g c = c.push_kind.ensures.turning.value ∙ sym (c.in-Some.ensures c.args.active.now)

pub push_kind-requires-2-clause-small : goal.push_kind-requires-2-clause-small
push_kind-requires-2-clause-small g c = value-small (g.R.PushRule.seen c.args.rule.now) (g.met.R.PushRule.laws c.args.rule.now)
    (g.V.View.seen c.args.view.now) (state c.args.users.now c.args.values.now c.args.active.now) c.args.u c.in-Some.value c.requires.on
    (sym (c.in-Some.ensures c.args.active.now))

pub returns-clause-turning : goal.returns-clause-turning
returns-clause-turning g c =
    turning-on (g.R.PushRule.seen c.args.rule.now) (g.V.View.seen c.args.view.now) c.args.u c.args.users.now c.args.values.now
    c.push_kind.new.values c.push_kind-2.new.values c.args.active.now c.push_kind.new.active c.push_kind-2.new.active
    c.push_kind.ensures.turning c.push_kind-2.ensures.turning

pub returns-clause-rested : goal.returns-clause-rested
returns-clause-rested g c =
    rested-both (g.R.PushRule.seen c.args.rule.now) (g.V.View.seen c.args.view.now)
    (state c.args.users.now c.push_kind-2.new.values c.push_kind-2.new.active) c.args.u
    (rested-later (net_in (g.R.PushRule.seen c.args.rule.now) (g.V.View.seen c.args.view.now) c.args.users.now) kind.Follow c.args.u
    (value_in (state c.args.users.now c.push_kind.new.values c.push_kind.new.active)) _ _ _ c.push_kind-2.ensures.turning
    c.push_kind.ensures.rested) c.push_kind-2.ensures.rested
