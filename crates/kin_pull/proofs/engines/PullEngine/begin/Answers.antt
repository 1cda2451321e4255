use Rattle.std.proofs.Common.{◌∙◌, ap}
use Rattle.kin_ids.specs.Users.{has_user}
use Rattle.kin_rules.proofs.LayerRows.{if-some}
use Rattle.kin_pull.proofs.Leading.{begun-engine, lead-inside, none-inside, rewired-there, told-inside, touched-there}
use Rattle.kin_pull.proofs.engines.PullEngine.begin.Goals as goal

pub plan-requires-clause-touched : goal.plan-requires-clause-touched
plan-requires-clause-touched g c = λ u h.
    ap (λ us. has_user us u) c.as_slice-in-Some-2.ensures.value
    ∙ touched-there c.self.inside.users.items c.in-Some.more.items c.args.deltas.now
    (lead-inside c.args.self.now
    (record { rule = c.self.inside.rule; users = c.self.inside.users.items; kept = c.self.inside.kept }) c.self.view_is c.args.deltas.now
    c.requires)
    (if-some _ _ _ c.in-Some.is c.in_ok-more.ensures.ascend)
    (told-inside c.as_slice.result.now c.self.inside.users.items c.as_slice.ensures.value c.in-Some.more.items c.args.deltas.now
    (if-some _ _ _ c.in-Some.is c.in_ok-more.ensures.all)) u h

pub plan-requires-clause-rewired : goal.plan-requires-clause-rewired
plan-requires-clause-rewired g c = λ u h.
    ap (λ us. has_user us u) c.as_slice-in-Some-2.ensures.value
    ∙ rewired-there c.self.inside.users.items c.in-Some.more.items c.args.deltas.now
    (lead-inside c.args.self.now
    (record { rule = c.self.inside.rule; users = c.self.inside.users.items; kept = c.self.inside.kept }) c.self.view_is c.args.deltas.now
    c.requires)
    (if-some _ _ _ c.in-Some.is c.in_ok-more.ensures.ascend)
    (told-inside c.as_slice.result.now c.self.inside.users.items c.as_slice.ensures.value c.in-Some.more.items c.args.deltas.now
    (if-some _ _ _ c.in-Some.is c.in_ok-more.ensures.all)) _ u h

pub plan-requires-in-None-clause-touched : goal.plan-requires-in-None-clause-touched
plan-requires-in-None-clause-touched g c = λ u h.
    ap (λ us. has_user us u) c.as_slice-users.ensures.value
    ∙ touched-there c.self.inside.users.items c.self.inside.users.items c.args.deltas.now
    (lead-inside c.args.self.now
    (record { rule = c.self.inside.rule; users = c.self.inside.users.items; kept = c.self.inside.kept }) c.self.view_is c.args.deltas.now
    c.requires)
    c.self.invariant.ascend (none-inside c.as_slice.result.now c.self.inside.users.items c.as_slice.ensures.value c.args.deltas.now
    (c.in_ok-more.ensures.none c.in-None.is)) u h

pub plan-requires-in-None-clause-rewired : goal.plan-requires-in-None-clause-rewired
plan-requires-in-None-clause-rewired g c = λ u h.
    ap (λ us. has_user us u) c.as_slice-users.ensures.value
    ∙ rewired-there c.self.inside.users.items c.self.inside.users.items c.args.deltas.now
    (lead-inside c.args.self.now
    (record { rule = c.self.inside.rule; users = c.self.inside.users.items; kept = c.self.inside.kept }) c.self.view_is c.args.deltas.now
    c.requires)
    c.self.invariant.ascend (none-inside c.as_slice.result.now c.self.inside.users.items c.as_slice.ensures.value c.args.deltas.now
    (c.in_ok-more.ensures.none c.in-None.is)) _ u h

pub returns-in_ok-kept-in-Some-clause-on : goal.returns-in_ok-kept-in-Some-clause-on
returns-in_ok-kept-in-Some-clause-on g c =
    begun-engine g.R.PullRule.seen g.met.R.PullRule.laws g.R.PullRule.LAYERS c.args.deltas.now c.args.self.now
    (record { rule = c.self.inside.rule; users = c.self.inside.users.items; kept = c.self.inside.kept }) c.self.view_is
    c.in-Some.more.items c.in_ok-kept-in-Some.kept (if-some _ _ _ c.in-Some.is c.in_ok-more.ensures.ascend)
    (told-inside c.as_slice.result.now c.self.inside.users.items c.as_slice.ensures.value c.in-Some.more.items c.args.deltas.now
    (if-some _ _ _ c.in-Some.is c.in_ok-more.ensures.all))
    c.as_slice-in-Some.result.now c.as_slice-in-Some-2.result.now c.as_slice-in-Some.ensures.value c.as_slice-in-Some-2.ensures.value
    c.in_ok-kept-in-Some.ensures.begun

pub returns-in_ok-kept-in-None-clause-on : goal.returns-in_ok-kept-in-None-clause-on
returns-in_ok-kept-in-None-clause-on g c =
    begun-engine g.R.PullRule.seen g.met.R.PullRule.laws g.R.PullRule.LAYERS c.args.deltas.now c.args.self.now
    (record { rule = c.self.inside.rule; users = c.self.inside.users.items; kept = c.self.inside.kept }) c.self.view_is
    c.self.inside.users.items c.in_ok-kept-in-None.kept c.self.invariant.ascend
    (none-inside c.as_slice.result.now c.self.inside.users.items c.as_slice.ensures.value c.args.deltas.now
    (c.in_ok-more.ensures.none c.in-None.is))
    c.as_slice-users.result.now c.as_slice-users.result.now c.as_slice-users.ensures.value c.as_slice-users.ensures.value
    c.in_ok-kept-in-None.ensures.begun
