use Rattle.std.proofs.Common.{◌≡◌, ◌∙◌, [], inl, true, List, map, ap, sym, subst, rules}
use Rattle.kin_ids.specs.declared.ids.User.{User}
use Rattle.kin_ids.specs.Users.{has_user}
use Rattle.kin_store.specs.Lists.{half_key}
use Rattle.kin_push.proofs.ClosedViews.{among-all, among-more, found-there}
use Rattle.kin_push.proofs.settle_tests.have_ends.Goals as goal

pub loop-half-init : goal.loop-half-init
loop-half-init c x h = inl (subst (λ (us : List User). has_user us x ≡ true)
    (sym (ap (map half_key) (c.into_iter-half-iterator.ensures.into_iter_gives ∙ c.iter-half-items.ensures))) h)

pub loop-half-preserved : goal.loop-half-preserved
loop-half-preserved c =
    among-more c.args.users.now (map half_key c.args.halves.now) (map half_key c.loop-half.half-iterator) (map half_key c.next.new.self)
    c.in-Some.half.now.other (ap (map half_key) c.in-Some.ensures.steps) c.loop-half.invariant
    (found-there c.args.users.now c.in-Some.half.now.other c.find.result c.if-is_none.ensures c.find.ensures.some)

pub returns : goal.returns
returns c =
    let none : c.loop-half.half-iterator ≡ [] = search rules in
    among-all c.args.users.now (map half_key c.args.halves.now) (map half_key c.loop-half.half-iterator) (ap (map half_key) none)
    c.loop-half.invariant
