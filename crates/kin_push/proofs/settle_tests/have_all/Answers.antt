use Rattle.std.proofs.Common.{◌≡◌, ◌∙◌, [], inl, true, List, sym, subst, rules}
use Rattle.kin_ids.specs.declared.ids.User.{User}
use Rattle.kin_ids.specs.Users.{has_user}
use Rattle.kin_push.proofs.ClosedViews.{among-all, among-more, found-there}
use Rattle.kin_push.proofs.settle_tests.have_all.Goals as goal

pub loop-end-init : goal.loop-end-init
loop-end-init c x h = inl (subst (λ (us : List User). has_user us x ≡ true)
    (sym (c.into_iter-end-iterator.ensures.into_iter_gives ∙ c.iter-end-items.ensures)) h)

pub loop-end-preserved : goal.loop-end-preserved
loop-end-preserved c =
    among-more c.args.users.now c.args.ends.now c.loop-end.end-iterator c.next.new.self c.in-Some.end.now c.in-Some.ensures.steps
    c.loop-end.invariant
    (found-there c.args.users.now c.in-Some.end.now c.find.result c.if-is_none.ensures c.find.ensures.some)

pub returns : goal.returns
returns c =
    let none : c.loop-end.end-iterator ≡ [] = search rules in
    among-all c.args.users.now c.args.ends.now c.loop-end.end-iterator none c.loop-end.invariant
