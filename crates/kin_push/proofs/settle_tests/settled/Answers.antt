use Rattle.std.proofs.Common.{◌≡◌, ◌∙◌, ℕ, false, List, Option, None, length, get_or, replicate, refl, ap, arith, rules}
use Rattle.std.proofs.lemmas.List.{length-replicate, with_items_is}
use Rattle.kin_rules.specs.Places.{place}
use Rattle.kin_rules.proofs.PlacedValues.{get_or-none}
use Rattle.kin_push.specs.States.{state}
use Rattle.kin_push.proofs.ClosedViews.{closed-whole, starts-on}
use Rattle.kin_push.proofs.EngineParts.{replicate-quiet}
use Rattle.kin_push.proofs.settle_tests.settled.Goals as goal

pub enter-requires-clause-state : goal.enter-requires-clause-state
enter-requires-clause-state g c =
    let none : c.in_ok-values.values.items ≡ replicate {A = Option ℕ} (length c.args.users.now) None = search rules in
    record {
      ascend = c.requires.vertices.ascend;
      valued = ap length c.as_mut_slice-slice.ensures.value ∙ ap length none
          ∙ length-replicate {A = Option ℕ} (length c.args.users.now) None;
      marked = ap length c.in_ok-active.ensures ∙ length-replicate (length c.args.users.now) false;
    }

pub enter-requires-clause-quiet : goal.enter-requires-clause-quiet
enter-requires-clause-quiet g c = replicate-quiet c.args.users.now c.as_mut_slice-slice.result.now c.in_ok-active.active
    (length c.args.users.now) c.in_ok-active.ensures

pub enter-requires-clause-within : goal.enter-requires-clause-within
enter-requires-clause-within g c = λ u h. absurd cc

pub settle-requires-clause-on : goal.settle-requires-clause-on
settle-requires-clause-on g c =
    let none : c.in_ok-values.values.items ≡ replicate {A = Option ℕ} (length c.args.users.now) None = search rules in
    starts-on (g.R.PushRule.seen c.args.rule.now) (g.V.View.seen c.args.view.now) c.args.users.now
    (state c.args.users.now c.as_mut_slice-slice.result.now c.in_ok-active.active)
    (state c.args.users.now c.enter.new.values c.enter.new.active)
    (closed-whole (g.R.PushRule.seen c.args.rule.now) (g.V.View.seen c.args.view.now) c.args.users.now c.requires.vertices
    c.if-not-is_closed.ensures)
    (λ x. ap (λ (vs : List (Option ℕ)). get_or vs (place c.args.users.now x) None) (c.as_mut_slice-slice.ensures.value ∙ none)
    ∙ get_or-none (length c.args.users.now) (place c.args.users.now x))
    refl c.enter.ensures.entered refl (omega (arith, c.if-users-gt1000.false))

pub returns : goal.returns
returns g c =
    let none : c.in_ok-values.values.items ≡ replicate {A = Option ℕ} (length c.args.users.now) None = search rules in
    let long : length c.settle.new.values ≡ c.in_ok-values.values.len =
    omega (
      arith,
      c.settle.ensures.state.valued,
      ap length none,
      length-replicate {A = Option ℕ} (length c.args.users.now) None,
      c.in_ok-values.values.ok.0,
    ) in
    ap length (with_items_is c.in_ok-values.values c.settle.new.values long) ∙ c.settle.ensures.state.valued
