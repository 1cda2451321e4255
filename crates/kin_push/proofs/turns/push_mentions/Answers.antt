use Rattle.std.proofs.Common.{◌≡◌, ◌∙◌, [], rules}
use Rattle.kin_push.proofs.Offers.{offering-all, offering-more, offering-none, offering-there}
use Rattle.kin_push.proofs.turns.push_mentions.Goals as goal

pub loop-end-init : goal.loop-end-init
loop-end-init g c = record {
  state_is = c.requires.state;
  offering = offering-none c.args.ends.now c.into_iter-end-iterator.result c.args.value _ _
      (c.into_iter-end-iterator.ensures.into_iter_gives ∙ c.iter-end-items.ensures);
}

pub offer-requires-clause-there : goal.offer-requires-clause-there
offer-requires-clause-there g c =
    c.requires.there c.in-Some.end.now (offering-there c.args.ends.now c.loop-end.end-iterator c.next.new.self c.in-Some.end.now
    c.args.value _ _ _ _ c.in-Some.ensures.steps c.loop-end.invariant.offering)

pub loop-end-preserved : goal.loop-end-preserved
loop-end-preserved g c = record {
  state_is = c.offer.ensures.state;
  offering = offering-more c.args.ends.now c.loop-end.end-iterator c.next.new.self c.in-Some.end.now c.args.value _ _ _ _ _ _
      c.in-Some.ensures.steps c.loop-end.invariant.offering c.offer.ensures.pushed c.offer.ensures.taken;
}

pub returns-clause-taken : goal.returns-clause-taken
returns-clause-taken g c =
    let none : c.loop-end.end-iterator ≡ [] = search rules in
    offering-all c.args.ends.now c.loop-end.end-iterator c.args.value _ _ _ _ none c.loop-end.invariant.offering
