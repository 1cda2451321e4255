use Rattle.std.proofs.Common.{ℕ, Bool, List, Option, sym, subst, ap, ap₂, length, arith}
use Rattle.std.proofs.lemmas.List.{with_items_is}
use Rattle.kin_ids.specs.declared.ids.User.{User}
use Rattle.kin_push.specs.Engines.{IsSettled}
use Rattle.kin_push.specs.Facts.{On}
use Rattle.kin_push.specs.States.{IsPushState, state}
use Rattle.kin_push.proofs.EngineParts.{over}
use Rattle.kin_push.proofs.engines.settle_in.Goals as goal

pub settle-requires-clause-state : goal.settle-requires-clause-state
settle-requires-clause-state g c = over (λ (us : List User) (vs : List (Option ℕ)). IsPushState (state us vs c.args.columns.now.active))
    c.args.columns.now.users.items c.as_slice.result.now c.args.columns.now.values.items c.as_mut_slice.result.now
    (sym c.as_slice.ensures.value) (sym c.as_mut_slice.ensures.value) c.requires.is_state

pub settle-requires-clause-on : goal.settle-requires-clause-on
settle-requires-clause-on g c = over (λ (us : List User) (vs : List (Option ℕ)). On (g.R.PushRule.seen c.args.rule.now)
    (g.V.View.seen c.args.view.now) (state us vs c.args.columns.now.active)) c.args.columns.now.users.items c.as_slice.result.now
    c.args.columns.now.values.items c.as_mut_slice.result.now (sym c.as_slice.ensures.value) (sym c.as_mut_slice.ensures.value)
    c.requires.on

pub returns-clause-is_state : goal.returns-clause-is_state
returns-clause-is_state g c =
    subst (λ (ws : List (Option ℕ)). IsPushState (state c.args.columns.now.users.items ws c.settle.new.active))
    (sym (with_items_is c.args.columns.now.values c.settle.new.values
    (omega (arith, c.settle.auto.values, ap length c.as_mut_slice.ensures.value, c.args.columns.now.values.ok.0))))
    (over (λ (us : List User) (vs : List (Option ℕ)). IsPushState (state us c.settle.new.values c.settle.new.active)) c.as_slice.result.now
    c.args.columns.now.users.items c.as_mut_slice.result.now c.args.columns.now.values.items c.as_slice.ensures.value
    c.as_mut_slice.ensures.value c.settle.ensures.state)

pub returns-clause-settled : goal.returns-clause-settled
returns-clause-settled g c =
    subst (λ (ws : List (Option ℕ)). IsSettled (g.R.PushRule.seen c.args.rule.now) (g.V.View.seen c.args.view.now) c.args.steps.now
    c.settle.new.steps (state c.args.columns.now.users.items c.args.columns.now.values.items c.args.columns.now.active)
    (state c.args.columns.now.users.items ws c.settle.new.active))
    (sym (with_items_is c.args.columns.now.values c.settle.new.values
    (omega (arith, c.settle.auto.values, ap length c.as_mut_slice.ensures.value, c.args.columns.now.values.ok.0))))
    (over (λ (us : List User) (vs : List (Option ℕ)). IsSettled (g.R.PushRule.seen c.args.rule.now) (g.V.View.seen c.args.view.now)
    c.args.steps.now c.settle.new.steps (state us vs c.args.columns.now.active) (state us c.settle.new.values c.settle.new.active))
    c.as_slice.result.now c.args.columns.now.users.items c.as_mut_slice.result.now c.args.columns.now.values.items
    c.as_slice.ensures.value c.as_mut_slice.ensures.value
    (record {
      on = c.settle.ensures.on;
      quiet = c.settle.ensures.quiet;
      values = c.settle.ensures.values;
      turns = c.settle.ensures.turns;
      idle = λ q. (
        ap₂ (λ (vs : List (Option ℕ)) (ms : List Bool). state c.as_slice.result.now vs ms) (c.settle.ensures.idle q).0
            (c.settle.ensures.idle q).1,
        (c.settle.ensures.idle q).2,
      );
      reads = c.settle.ensures.reads;
    }))
