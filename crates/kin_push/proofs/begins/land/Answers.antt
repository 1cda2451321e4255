use Rattle.std.proofs.Common.{◌∙◌, ℕ, None, is_some, get_or, refl, sym, ap}
use Rattle.kin_push.specs.States.{is_active, state, value_in}
use Rattle.kin_push.proofs.Starting.{lands-mark, lands-value, not-none, not-there, stays-mark, stays-value}
use Rattle.kin_push.proofs.begins.land.Goals as goal

pub returns-in_default-clause-values : goal.returns-in_default-clause-values
returns-in_default-clause-values c u = stays-value c.args.landmark u c.args.users.now
    (value_in (state c.args.users.now c.args.values.now c.args.active.now))
    (not-there c.args.landmark c.args.users.now (value_in (state c.args.users.now c.args.values.now c.args.active.now))
    (c.in_default.ensures.none refl))

pub returns-in_default-clause-active : goal.returns-in_default-clause-active
returns-in_default-clause-active c u = stays-mark c.args.landmark u c.args.users.now
    (value_in (state c.args.users.now c.args.values.now c.args.active.now))
    (not-there c.args.landmark c.args.users.now (value_in (state c.args.users.now c.args.values.now c.args.active.now))
    (c.in_default.ensures.none refl)) (is_active (state c.args.users.now c.args.values.now c.args.active.now) u)

pub returns-then-is_some-clause-values : goal.returns-then-is_some-clause-values
returns-then-is_some-clause-values c u =
    stays-value c.args.landmark u c.args.users.now (value_in (state c.args.users.now c.args.values.now c.args.active.now))
    (not-none c.args.landmark c.args.users.now (value_in (state c.args.users.now c.args.values.now c.args.active.now))
    c.in-Some.ensures.some.2 (ap (λ (k : ℕ). is_some (get_or c.args.values.now k None)) (sym c.in-Some.ensures.some.0)
    ∙ sym c.if-is_some.ensures))

pub returns-then-is_some-clause-active : goal.returns-then-is_some-clause-active
returns-then-is_some-clause-active c u =
    stays-mark c.args.landmark u c.args.users.now (value_in (state c.args.users.now c.args.values.now c.args.active.now))
    (not-none c.args.landmark c.args.users.now (value_in (state c.args.users.now c.args.values.now c.args.active.now))
    c.in-Some.ensures.some.2 (ap (λ (k : ℕ). is_some (get_or c.args.values.now k None)) (sym c.in-Some.ensures.some.0)
    ∙ sym c.if-is_some.ensures)) (is_active (state c.args.users.now c.args.values.now c.args.active.now) u)

pub returns-clause-values : goal.returns-clause-values
returns-clause-values c u =
    lands-value c.args.landmark u c.args.users.now c.args.values.now c.args.active.now c.in-Some.place c.requires.state
    c.in-Some.ensures.some.2 c.in-Some.ensures.some.0 (sym c.if-is_some.ensures)

pub returns-clause-active : goal.returns-clause-active
returns-clause-active c u =
    lands-mark c.args.landmark u c.args.users.now c.args.values.now c.args.active.now c.in-Some.place c.requires.state
    c.in-Some.ensures.some.2 c.in-Some.ensures.some.0 (sym c.if-is_some.ensures) c.mark.new.self c.mark.ensures
