use Rattle.std.proofs.Common.{◌∙◌, ap, sym, subst, length, map, List, ℕ}
use Rattle.std.specs.List.{insert}
use Rattle.kin_ids.specs.declared.ids.User.{User}
use Rattle.kin_ids.specs.Users.{user_cmp}
use Rattle.kin_rules.specs.Columns.{AreOf, widened}
use Rattle.kin_rules.specs.Results.{ColumnView}
use Rattle.kin_rules.specs.Spots.{WouldStandAt}
use Rattle.kin_rules.proofs.ResultSets.{within-all, adds-user, added-tabular, user-moved}
use Rattle.kin_rules.proofs.results.EpochResult.add_user.Goals as goal

pub widen_in-requires-clause-within : goal.widen_in-requires-clause-within
widen_in-requires-clause-within c =
    let at = subst (λ (us : List User). WouldStandAt user_cmp us c.args.u c.in-Err.at) c.deref.ensures.value c.in-Err.ensures in
    within-all c.reserve_in.new.columns.items (length c.self.inside.users.items) c.in-Err.at
    (subst (λ (cs : List ColumnView). AreOf (length c.self.inside.users.items) cs) (sym c.in_ok-reserve_in.ensures.same) c.self.invariant.hops) at.within

pub widen_in-requires-2-clause-within : goal.widen_in-requires-2-clause-within
widen_in-requires-2-clause-within c =
    let at = subst (λ (us : List User). WouldStandAt user_cmp us c.args.u c.in-Err.at) c.deref.ensures.value c.in-Err.ensures in
    within-all c.reserve_in-2.new.columns.items (length c.self.inside.users.items) c.in-Err.at
    (subst (λ (cs : List ColumnView). AreOf (length c.self.inside.users.items) cs) (sym c.in_ok-reserve_in-2.ensures.same) c.self.invariant.close) at.within

pub invariant_of-self-2 : goal.invariant_of-self-2
invariant_of-self-2 c =
    let at = subst (λ (us : List User). WouldStandAt user_cmp us c.args.u c.in-Err.at) c.deref.ensures.value c.in-Err.ensures in
    let hops = c.widen_in.ensures ∙ ap (map (widened c.in-Err.at c.args.u)) c.in_ok-reserve_in.ensures.same in
    let close = c.widen_in-2.ensures ∙ ap (map (widened c.in-Err.at c.args.u)) c.in_ok-reserve_in-2.ensures.same in
    let users = c.put_at.ensures ∙ ap (λ (l : List User). insert l c.in-Err.at c.args.u) c.in_ok-reserve.ensures.items in
    let ins = c.put_at-2.ensures ∙ ap (λ (l : List ℕ). insert l c.in-Err.at 0) c.in_ok-reserve-2.ensures.items in
    let outs = c.put_at-3.ensures ∙ ap (λ (l : List ℕ). insert l c.in-Err.at 0) c.in_ok-reserve-3.ensures.items in
    let said = c.put_at-4.ensures ∙ ap (λ (l : List ℕ). insert l c.in-Err.at 0) c.in_ok-reserve-4.ensures.items in
    let ranks = c.put_at-5.ensures ∙ ap (λ (l : List ℕ). insert l c.in-Err.at 0) c.in_ok-reserve-5.ensures.items in
    rw (users, ins, outs, said, ranks, hops, close) (added-tabular _ c.self.invariant c.args.u c.in-Err.at at)

pub returns-clause-added : goal.returns-clause-added
returns-clause-added c =
    let at = subst (λ (us : List User). WouldStandAt user_cmp us c.args.u c.in-Err.at) c.deref.ensures.value c.in-Err.ensures in
    let hops = c.widen_in.ensures ∙ ap (map (widened c.in-Err.at c.args.u)) c.in_ok-reserve_in.ensures.same in
    let close = c.widen_in-2.ensures ∙ ap (map (widened c.in-Err.at c.args.u)) c.in_ok-reserve_in-2.ensures.same in
    let users = c.put_at.ensures ∙ ap (λ (l : List User). insert l c.in-Err.at c.args.u) c.in_ok-reserve.ensures.items in
    let ins = c.put_at-2.ensures ∙ ap (λ (l : List ℕ). insert l c.in-Err.at 0) c.in_ok-reserve-2.ensures.items in
    let outs = c.put_at-3.ensures ∙ ap (λ (l : List ℕ). insert l c.in-Err.at 0) c.in_ok-reserve-3.ensures.items in
    let said = c.put_at-4.ensures ∙ ap (λ (l : List ℕ). insert l c.in-Err.at 0) c.in_ok-reserve-4.ensures.items in
    let ranks = c.put_at-5.ensures ∙ ap (λ (l : List ℕ). insert l c.in-Err.at 0) c.in_ok-reserve-5.ensures.items in
    rw (users, ins, outs, said, ranks, hops, close) (user-moved _ _ _ _ c.self.view_is (adds-user _ c.self.invariant c.args.u c.in-Err.at at))
