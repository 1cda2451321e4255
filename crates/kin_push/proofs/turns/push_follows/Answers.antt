use Rattle.std.proofs.Common.{◌≡◌, ◌∙◌, [], map, ap, rules}
use Rattle.kin_store.specs.Lists.{half_key}
use Rattle.kin_push.proofs.Offers.{offering-all, offering-more, offering-none, offering-there}
use Rattle.kin_push.proofs.turns.push_follows.Goals as goal

pub loop-half-init : goal.loop-half-init
loop-half-init g c = record {
  state_is = c.requires.state;
  offering = offering-none (map half_key c.args.halves.now) (map half_key c.into_iter-half-iterator.result) c.args.value _ _
      (ap (map half_key) (c.into_iter-half-iterator.ensures.into_iter_gives ∙ c.iter-half-items.ensures));
}

pub offer-requires-clause-there : goal.offer-requires-clause-there
offer-requires-clause-there g c =
    c.requires.there c.in-Some.half.now.other
    (offering-there (map half_key c.args.halves.now) (map half_key c.loop-half.half-iterator) (map half_key c.next.new.self)
    c.in-Some.half.now.other c.args.value _ _ _ _ (ap (map half_key) c.in-Some.ensures.steps) c.loop-half.invariant.offering)

pub loop-half-preserved : goal.loop-half-preserved
loop-half-preserved g c = record {
  state_is = c.offer.ensures.state;
  offering = offering-more (map half_key c.args.halves.now) (map half_key c.loop-half.half-iterator) (map half_key c.next.new.self)
      c.in-Some.half.now.other c.args.value _ _ _ _ _ _ (ap (map half_key) c.in-Some.ensures.steps)
      c.loop-half.invariant.offering c.offer.ensures.pushed c.offer.ensures.taken;
}

pub returns-clause-taken : goal.returns-clause-taken
returns-clause-taken g c =
    let none : c.loop-half.half-iterator ≡ [] = search rules in
    offering-all (map half_key c.args.halves.now) (map half_key c.loop-half.half-iterator) c.args.value _ _ _ _ (ap (map half_key) none)
    c.loop-half.invariant.offering
