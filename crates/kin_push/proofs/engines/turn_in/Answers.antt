use Rattle.std.proofs.Common.{◌≡◌, ◌∙◌, ℕ, Bool, List, Option, if◌then◌else◌, false, sym, subst, ap, ap₂, length, arith}
use Rattle.std.proofs.lemmas.List.{with_items_is}
use Rattle.kin_ids.specs.declared.ids.User.{User}
use Rattle.kin_rules.specs.declared.turns.Turn.TheVariants as turn
use Rattle.kin_push.specs.Engines.{IsTurnOf}
use Rattle.kin_push.specs.Facts.{On}
use Rattle.kin_push.specs.States.{IsPushState, is_active, state}
use Rattle.kin_push.proofs.EngineParts.{over}
use Rattle.kin_push.proofs.engines.turn_in.Goals as goal

pub make_turn-requires-clause-state : goal.make_turn-requires-clause-state
make_turn-requires-clause-state g c = over (λ (us : List User) (vs : List (Option ℕ)). IsPushState (state us vs c.args.columns.now.active))
    c.args.columns.now.users.items c.as_slice.result.now c.args.columns.now.values.items c.as_mut_slice.result.now
    (sym c.as_slice.ensures.value) (sym c.as_mut_slice.ensures.value) c.requires.is_state

pub make_turn-requires-clause-on : goal.make_turn-requires-clause-on
make_turn-requires-clause-on g c = over (λ (us : List User) (vs : List (Option ℕ)). On (g.R.PushRule.seen c.args.rule.now)
    (g.V.View.seen c.args.view.now) (state us vs c.args.columns.now.active)) c.args.columns.now.users.items c.as_slice.result.now
    c.args.columns.now.values.items c.as_mut_slice.result.now (sym c.as_slice.ensures.value) (sym c.as_mut_slice.ensures.value)
    c.requires.on

pub returns-clause-is_state : goal.returns-clause-is_state
returns-clause-is_state g c =
    subst (λ (ws : List (Option ℕ)). IsPushState (state c.args.columns.now.users.items ws c.make_turn.new.active))
    (sym (with_items_is c.args.columns.now.values c.make_turn.new.values
    (omega (arith, c.make_turn.auto.values, ap length c.as_mut_slice.ensures.value, c.args.columns.now.values.ok.0))))
    (over (λ (us : List User) (vs : List (Option ℕ)). IsPushState (state us c.make_turn.new.values c.make_turn.new.active))
    c.as_slice.result.now c.args.columns.now.users.items c.as_mut_slice.result.now c.args.columns.now.values.items
    c.as_slice.ensures.value c.as_mut_slice.ensures.value c.make_turn.ensures.state)

pub returns-clause-which : goal.returns-clause-which
returns-clause-which g c = over (λ (us : List User) (vs : List (Option ℕ)). c.make_turn.result ≡
    (if is_active (state us vs c.args.columns.now.active) c.args.u then turn.Turned else turn.Idle)) c.as_slice.result.now
    c.args.columns.now.users.items c.as_mut_slice.result.now c.args.columns.now.values.items c.as_slice.ensures.value
    c.as_mut_slice.ensures.value c.make_turn.ensures.which

pub returns-clause-idle : goal.returns-clause-idle
returns-clause-idle g c off =
    let same = c.make_turn.ensures.idle (over (λ (us : List User) (vs : List (Option ℕ)). is_active (state us vs c.args.columns.now.active)
    c.args.u ≡ false) c.args.columns.now.users.items c.as_slice.result.now c.args.columns.now.values.items c.as_mut_slice.result.now
    (sym c.as_slice.ensures.value) (sym c.as_mut_slice.ensures.value) off) in (
      ap₂ (λ (vs : List (Option ℕ)) (ms : List Bool). state c.args.columns.now.users.items vs ms)
          (with_items_is c.args.columns.now.values c.make_turn.new.values
          (omega (arith, c.make_turn.auto.values, ap length c.as_mut_slice.ensures.value, c.args.columns.now.values.ok.0)) ∙ same.0
          ∙ c.as_mut_slice.ensures.value) same.1,
      same.2,
    )

pub returns-clause-of : goal.returns-clause-of
returns-clause-of g c =
    subst (λ (ws : List (Option ℕ)). IsTurnOf (g.R.PushRule.seen c.args.rule.now) (g.V.View.seen c.args.view.now) c.args.u c.args.steps.now
    c.make_turn.new.steps (state c.args.columns.now.users.items c.args.columns.now.values.items c.args.columns.now.active)
    (state c.args.columns.now.users.items ws c.make_turn.new.active))
    (sym (with_items_is c.args.columns.now.values c.make_turn.new.values
    (omega (arith, c.make_turn.auto.values, ap length c.as_mut_slice.ensures.value, c.args.columns.now.values.ok.0))))
    (over (λ (us : List User) (vs : List (Option ℕ)). IsTurnOf (g.R.PushRule.seen c.args.rule.now) (g.V.View.seen c.args.view.now) c.args.u
    c.args.steps.now c.make_turn.new.steps (state us vs c.args.columns.now.active)
    (state us c.make_turn.new.values c.make_turn.new.active)) c.as_slice.result.now c.args.columns.now.users.items
    c.as_mut_slice.result.now c.args.columns.now.values.items c.as_slice.ensures.value c.as_mut_slice.ensures.value
    (record {
      on = c.make_turn.ensures.on;
      moved = c.make_turn.ensures.moved;
      rested = c.make_turn.ensures.rested;
      reads =
          c.make_turn.ensures.reads;
      nearer = c.make_turn.ensures.nearer;
    }))
