use Rattle.std.proofs.Common.{◌≡◌, ◌∙◌, ℕ, false, [], List, Option, length, ap, subst, arith}
use Rattle.std.proofs.lemmas.List.{length-replicate}
use Rattle.kin_ids.specs.declared.ids.User.{User}
use Rattle.kin_push.specs.States.{state, value_in}
use Rattle.kin_push.proofs.EngineParts.{over, replicate-quiet}
use Rattle.kin_push.proofs.engines.wider.Goals as goal

pub returns-clause-is_state : goal.returns-clause-is_state
returns-clause-is_state c = record {
  ascend = c.requires.ascend;
  valued = c.in_ok-values.ensures.valued ∙ ap length c.as_slice-3.ensures.value;
  marked = omega (arith, ap length c.in_ok-active.ensures, length-replicate c.len.result false, c.len.ensures, c.args.users.ok.0);
}

pub returns-clause-quiet : goal.returns-clause-quiet
returns-clause-quiet c u = replicate-quiet c.args.users.items c.in_ok-values.values.items c.in_ok-active.active c.len.result
    c.in_ok-active.ensures u

pub returns-clause-values : goal.returns-clause-values
returns-clause-values c u =
    subst (λ (us : List User). value_in (state us c.in_ok-values.values.items []) u ≡ value_in
    (state c.args.columns.now.users.items c.args.columns.now.values.items []) u) c.as_slice-3.ensures.value
    (over (λ (us : List User) (vs : List (Option ℕ)). value_in (state c.as_slice-3.result.now c.in_ok-values.values.items []) u ≡ value_in
    (state us vs []) u) c.as_slice.result.now c.args.columns.now.users.items c.as_slice-2.result.now c.args.columns.now.values.items
    c.as_slice.ensures.value c.as_slice-2.ensures.value (c.in_ok-values.ensures.values [] u))
