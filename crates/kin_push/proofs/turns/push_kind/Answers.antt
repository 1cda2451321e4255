use Rattle.std.proofs.Common.{◌≡◌, map, sym, refl, ap, arith, length}
use Rattle.std.proofs.lemmas.List.{length-map}
use Rattle.kin_store.specs.Lists.{half_key}
use Rattle.kin_push.specs.States.{ends_in, net_in, state, value_in}
use Rattle.kin_push.proofs.Facts.{rested-none, turning-none}
use Rattle.kin_push.proofs.TurnParts.{ends-there, kind-rests, kind-turns, reads-none, reads-some}
use Rattle.kin_push.proofs.turns.push_kind.Goals as goal

pub returns-in_default-clause-turning : goal.returns-in_default-clause-turning
returns-in_default-clause-turning g c = turning-none (net_in (g.R.PushRule.seen c.args.rule.now) (g.V.View.seen c.args.view.now)
    c.args.users.now) c.args.u _ _ c.requires.on c.requires.active

pub returns-in_default-clause-rested : goal.returns-in_default-clause-rested
returns-in_default-clause-rested g c =
    rested-none (net_in (g.R.PushRule.seen c.args.rule.now) (g.V.View.seen c.args.view.now) c.args.users.now) c.args.kind c.args.u
    c.args.value (value_in (state c.args.users.now c.args.values.now c.args.active.now)) c.requires.value (sym c.in_default.ensures)

pub returns-in_default-clause-reads : goal.returns-in_default-clause-reads
returns-in_default-clause-reads g c = let none = reads-none (g.R.PushRule.seen c.args.rule.now) (g.met.R.PushRule.laws c.args.rule.now)
    (g.V.View.seen c.args.view.now) c.args.kind c.args.u c.args.value (sym c.in_default.ensures) in omega (arith, none)

pub push_follows-requires-clause-there : goal.push_follows-requires-clause-there
push_follows-requires-clause-there g c =
    ends-there (g.R.PushRule.seen c.args.rule.now) (g.V.View.seen c.args.view.now)
    (state c.args.users.now c.args.values.now c.args.active.now) c.args.kind c.args.u c.requires.on (map half_key c.out.result.now)
    (rw c.in-Follow.is (ap (map half_key) c.out.ensures.halves))

pub returns-in-Follow-clause-turning : goal.returns-in-Follow-clause-turning
returns-in-Follow-clause-turning g c =
    kind-turns (g.R.PushRule.seen c.args.rule.now) (g.met.R.PushRule.laws c.args.rule.now) (g.V.View.seen c.args.view.now) c.args.kind
    c.args.u c.args.value c.in-Some.offer c.args.users.now c.args.values.now c.push_follows.new.values c.args.active.now
    c.push_follows.new.active
    c.requires.on c.requires.value c.requires.active (sym c.in-Some.ensures) (map half_key c.out.result.now)
    (rw c.in-Follow.is (ap (map half_key) c.out.ensures.halves)) c.push_follows.ensures.pushed

pub returns-in-Follow-clause-rested : goal.returns-in-Follow-clause-rested
returns-in-Follow-clause-rested g c =
    kind-rests (g.R.PushRule.seen c.args.rule.now) (g.met.R.PushRule.laws c.args.rule.now) (g.V.View.seen c.args.view.now) c.args.kind
    c.args.u c.args.value c.in-Some.offer c.args.users.now c.args.values.now c.push_follows.new.values c.args.active.now
    c.push_follows.new.active
    c.requires.on c.requires.value c.requires.active (sym c.in-Some.ensures) (map half_key c.out.result.now)
    (rw c.in-Follow.is (ap (map half_key) c.out.ensures.halves)) c.push_follows.ensures.pushed c.push_follows.ensures.taken

pub returns-in-Follow-clause-reads : goal.returns-in-Follow-clause-reads
returns-in-Follow-clause-reads g c =
    let all = reads-some (g.R.PushRule.seen c.args.rule.now) (g.met.R.PushRule.laws c.args.rule.now) (g.V.View.seen c.args.view.now)
    c.args.kind c.args.u c.args.value c.in-Some.offer (sym c.in-Some.ensures) in
    let each : length (ends_in (g.V.View.seen c.args.view.now) c.args.kind c.args.u) ≡ length
    ((g.V.View.seen c.args.view.now).out c.args.u) = rw c.in-Follow.is
    (length-map ((g.V.View.seen c.args.view.now).out c.args.u) half_key) in
    omega (arith, all, each, c.out.ensures.ticks)

pub push_mentions-requires-clause-there : goal.push_mentions-requires-clause-there
push_mentions-requires-clause-there g c =
    ends-there (g.R.PushRule.seen c.args.rule.now) (g.V.View.seen c.args.view.now)
    (state c.args.users.now c.args.values.now c.args.active.now) c.args.kind c.args.u c.requires.on (c.mentions.result.now)
    (rw c.in-Mention.is c.mentions.ensures.users)

pub returns-in-Mention-clause-turning : goal.returns-in-Mention-clause-turning
returns-in-Mention-clause-turning g c =
    kind-turns (g.R.PushRule.seen c.args.rule.now) (g.met.R.PushRule.laws c.args.rule.now) (g.V.View.seen c.args.view.now) c.args.kind
    c.args.u c.args.value c.in-Some.offer c.args.users.now c.args.values.now c.push_mentions.new.values c.args.active.now
    c.push_mentions.new.active
    c.requires.on c.requires.value c.requires.active (sym c.in-Some.ensures) (c.mentions.result.now)
    (rw c.in-Mention.is c.mentions.ensures.users) c.push_mentions.ensures.pushed

pub returns-in-Mention-clause-rested : goal.returns-in-Mention-clause-rested
returns-in-Mention-clause-rested g c =
    kind-rests (g.R.PushRule.seen c.args.rule.now) (g.met.R.PushRule.laws c.args.rule.now) (g.V.View.seen c.args.view.now) c.args.kind
    c.args.u c.args.value c.in-Some.offer c.args.users.now c.args.values.now c.push_mentions.new.values c.args.active.now
    c.push_mentions.new.active
    c.requires.on c.requires.value c.requires.active (sym c.in-Some.ensures) (c.mentions.result.now)
    (rw c.in-Mention.is c.mentions.ensures.users) c.push_mentions.ensures.pushed c.push_mentions.ensures.taken

pub returns-in-Mention-clause-reads : goal.returns-in-Mention-clause-reads
returns-in-Mention-clause-reads g c =
    let all = reads-some (g.R.PushRule.seen c.args.rule.now) (g.met.R.PushRule.laws c.args.rule.now) (g.V.View.seen c.args.view.now)
    c.args.kind c.args.u c.args.value c.in-Some.offer (sym c.in-Some.ensures) in
    let each : length (ends_in (g.V.View.seen c.args.view.now) c.args.kind c.args.u) ≡ length
    ((g.V.View.seen c.args.view.now).mentions c.args.u) = rw c.in-Mention.is refl in
    omega (arith, all, each, c.mentions.ensures.ticks)
