use Rattle.std.proofs.Common.{◌≡◌, ℕ, true, List, Option, sym, subst, ap, length, arith}
use Rattle.std.proofs.lemmas.List.{with_items_is}
use Rattle.kin_ids.specs.declared.ids.User.{User}
use Rattle.kin_ids.specs.Users.{has_user}
use Rattle.kin_push.specs.Begins.{IsEntered}
use Rattle.kin_push.specs.States.{IsPushState, IsQuiet, state}
use Rattle.kin_push.proofs.EngineParts.{over}
use Rattle.kin_push.proofs.engines.enter_in.Goals as goal

pub enter-requires-clause-state : goal.enter-requires-clause-state
enter-requires-clause-state g c = over (λ (us : List User) (vs : List (Option ℕ)). IsPushState (state us vs c.args.columns.now.active))
    c.args.columns.now.users.items c.as_slice.result.now c.args.columns.now.values.items c.as_mut_slice.result.now
    (sym c.as_slice.ensures.value) (sym c.as_mut_slice.ensures.value) c.requires.is_state

pub enter-requires-clause-quiet : goal.enter-requires-clause-quiet
enter-requires-clause-quiet g c = over (λ (us : List User) (vs : List (Option ℕ)). IsQuiet (state us vs c.args.columns.now.active))
    c.args.columns.now.users.items c.as_slice.result.now c.args.columns.now.values.items c.as_mut_slice.result.now
    (sym c.as_slice.ensures.value) (sym c.as_mut_slice.ensures.value) c.requires.quiet

pub enter-requires-clause-within : goal.enter-requires-clause-within
enter-requires-clause-within g c = over (λ (us : List User) (vs : List (Option ℕ)). (u : User) → has_user c.args.starts.now u ≡ true
    → has_user us u ≡ true) c.args.columns.now.users.items c.as_slice.result.now c.args.columns.now.values.items c.as_mut_slice.result.now
    (sym c.as_slice.ensures.value) (sym c.as_mut_slice.ensures.value) c.requires.within

pub returns-clause-is_state : goal.returns-clause-is_state
returns-clause-is_state g c =
    subst (λ (ws : List (Option ℕ)). IsPushState (state c.args.columns.now.users.items ws c.enter.new.active))
    (sym (with_items_is c.args.columns.now.values c.enter.new.values
    (omega (arith, c.enter.auto.values, ap length c.as_mut_slice.ensures.value, c.args.columns.now.values.ok.0))))
    (over (λ (us : List User) (vs : List (Option ℕ)). IsPushState (state us c.enter.new.values c.enter.new.active)) c.as_slice.result.now
    c.args.columns.now.users.items c.as_mut_slice.result.now c.args.columns.now.values.items c.as_slice.ensures.value
    c.as_mut_slice.ensures.value c.enter.ensures.state)

pub returns-clause-entered : goal.returns-clause-entered
returns-clause-entered g c =
    subst (λ (ws : List (Option ℕ)). IsEntered (g.R.PushRule.seen c.args.rule.now) c.args.starts.now
    (state c.args.columns.now.users.items c.args.columns.now.values.items c.args.columns.now.active)
    (state c.args.columns.now.users.items ws c.enter.new.active))
    (sym (with_items_is c.args.columns.now.values c.enter.new.values
    (omega (arith, c.enter.auto.values, ap length c.as_mut_slice.ensures.value, c.args.columns.now.values.ok.0))))
    (over (λ (us : List User) (vs : List (Option ℕ)). IsEntered (g.R.PushRule.seen c.args.rule.now) c.args.starts.now
    (state us vs c.args.columns.now.active) (state us c.enter.new.values c.enter.new.active)) c.as_slice.result.now
    c.args.columns.now.users.items c.as_mut_slice.result.now c.args.columns.now.values.items c.as_slice.ensures.value
    c.as_mut_slice.ensures.value c.enter.ensures.entered)
