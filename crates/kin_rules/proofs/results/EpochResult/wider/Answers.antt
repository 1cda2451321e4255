use Rattle.std.proofs.Common.{◌≡◌, ap, sym, subst, true}
use Rattle.kin_ids.specs.declared.ids.User.{User}
use Rattle.kin_ids.specs.Users.{has_user}
use Rattle.kin_rules.specs.Columns.{columns_of}
use Rattle.kin_rules.specs.Results.{ResultView}
use Rattle.kin_rules.proofs.WiderResults.{is-wider, moved-is, over-is, wide-tabular, wider-moved}
use Rattle.kin_rules.proofs.results.EpochResult.wider.Goals as goal

pub invariant_of-result : goal.invariant_of-result
invariant_of-result c =
    let all = subst (λ (r : ResultView). (u : User) → has_user r.users u ≡ true → has_user c.args.users.items u ≡ true) (sym c.self.view_is) c.requires.all in
    let was = c.as_slice-old.ensures.value in
    let now = c.as_slice-new.ensures.value in
    let ins = moved-is c.self.inside.users.items c.args.users.items _ _ c.self.inside.ins.items _ _ _ _ was now c.as_slice.ensures.value c.in_ok-places.ensures c.as_slice-at.ensures.value c.in_ok-numbers_by.ensures in
    let outs = moved-is c.self.inside.users.items c.args.users.items _ _ c.self.inside.outs.items _ _ _ _ was now c.as_slice-2.ensures.value c.in_ok-places.ensures c.as_slice-at.ensures.value c.in_ok-numbers_by-2.ensures in
    let said = moved-is c.self.inside.users.items c.args.users.items _ _ c.self.inside.said.items _ _ _ _ was now c.as_slice-3.ensures.value c.in_ok-places.ensures c.as_slice-at.ensures.value c.in_ok-numbers_by-3.ensures in
    let ranks = moved-is c.self.inside.users.items c.args.users.items _ _ c.self.inside.ranks.items _ _ _ _ was now c.as_slice-4.ensures.value c.in_ok-places.ensures c.as_slice-at.ensures.value c.in_ok-numbers_by-4.ensures in
    let hops = over-is c.self.inside.users.items c.args.users.items _ _ (columns_of c.self.inside.hops.items) _ _ was now (ap columns_of c.as_slice-5.ensures.value) c.in_ok-columns_by.ensures in
    let close = over-is c.self.inside.users.items c.args.users.items _ _ (columns_of c.self.inside.close.items) _ _ was now (ap columns_of c.as_slice-6.ensures.value) c.in_ok-columns_by-2.ensures in
    rw (c.new.ensures.items, c.new-2.ensures.items, c.new-3.ensures.items, ins, outs, said, ranks, hops, close)
    (wide-tabular _ c.self.invariant c.args.users.items c.requires.ascend all)

pub returns : goal.returns
returns c =
    let all = subst (λ (r : ResultView). (u : User) → has_user r.users u ≡ true → has_user c.args.users.items u ≡ true) (sym c.self.view_is) c.requires.all in
    let was = c.as_slice-old.ensures.value in
    let now = c.as_slice-new.ensures.value in
    let ins = moved-is c.self.inside.users.items c.args.users.items _ _ c.self.inside.ins.items _ _ _ _ was now c.as_slice.ensures.value c.in_ok-places.ensures c.as_slice-at.ensures.value c.in_ok-numbers_by.ensures in
    let outs = moved-is c.self.inside.users.items c.args.users.items _ _ c.self.inside.outs.items _ _ _ _ was now c.as_slice-2.ensures.value c.in_ok-places.ensures c.as_slice-at.ensures.value c.in_ok-numbers_by-2.ensures in
    let said = moved-is c.self.inside.users.items c.args.users.items _ _ c.self.inside.said.items _ _ _ _ was now c.as_slice-3.ensures.value c.in_ok-places.ensures c.as_slice-at.ensures.value c.in_ok-numbers_by-3.ensures in
    let ranks = moved-is c.self.inside.users.items c.args.users.items _ _ c.self.inside.ranks.items _ _ _ _ was now c.as_slice-4.ensures.value c.in_ok-places.ensures c.as_slice-at.ensures.value c.in_ok-numbers_by-4.ensures in
    let hops = over-is c.self.inside.users.items c.args.users.items _ _ (columns_of c.self.inside.hops.items) _ _ was now (ap columns_of c.as_slice-5.ensures.value) c.in_ok-columns_by.ensures in
    let close = over-is c.self.inside.users.items c.args.users.items _ _ (columns_of c.self.inside.close.items) _ _ was now (ap columns_of c.as_slice-6.ensures.value) c.in_ok-columns_by-2.ensures in
    rw (c.new.ensures.items, c.new-2.ensures.items, c.new-3.ensures.items, ins, outs, said, ranks, hops, close)
    (wider-moved _ _ _ _ c.self.view_is (is-wider _ c.self.invariant c.args.users.items c.requires.ascend all))
