use Rattle.std.proofs.Common.{rules, ℕ, zero, suc, ◌≡◌, ◌∙◌, ◌++◌, ◌+◌, ◌-◌, ◌<◌, ◌≤◌, List, [], Bool, true, false, refl, sym, ap, arith, append_assoc}
use Rattle.std.specs.Prelude.{if◌then◌else◌}
use Rattle.std.proofs.lemmas.List.{append-nil}
use Rattle.kin_script.specs.declared.events.Event.{Event}
use Rattle.kin_gen.specs.declared.rounds.Standing.{Standing}
use Rattle.kin_gen.specs.Rounds.{is_going, rounds, round, after_round}
use Rattle.kin_gen.proofs.Young.{young-next, young-opening}
use Rattle.kin_gen.proofs.events.play.Goals as goal

taken : (b : Bool) (x y : List Event) → b ≡ true → (if b then x else y) ≡ x
taken b x y e = rw e refl

left_out : (b : Bool) (x y : List Event) → b ≡ false → (if b then x else y) ≡ y
left_out b x y e = rw e refl

-- while some node has records left, the rounds are this one and those after it
rounds-next : (n most number : ℕ) (at : Standing) → number < most → is_going n at ≡ true → rounds n (most - number) number at ≡ round n number at ++ rounds n (most - (number + 1)) (number + 1) (after_round n number at)
unfolding rounds
rounds-next n most number at h e = let same : most - number ≡ suc (most - (number + 1)) = omega arith in rw same (taken (is_going n at) _ [] e)

rounds-none : (n most number : ℕ) (at : Standing) → is_going n at ≡ false → rounds n most number at ≡ []
unfolding rounds
rounds-none n zero number at e = refl
rounds-none n (suc most) number at e = left_out (is_going n at) _ [] e

rounds-over : (n most number : ℕ) (at : Standing) → most ≤ number → rounds n (most - number) number at ≡ []
unfolding rounds
rounds-over n most number at h = let none : most - number ≡ 0 = omega arith in rw none refl

ended : (events whole rest : List Event) → events ++ rest ≡ whole → rest ≡ [] → events ≡ whole
ended events whole rest e none = sym (append-nil events) ∙ ap (λ (t : List Event). events ++ t) (sym none) ∙ e

pub loop-number-init : goal.loop-number-init
loop-number-init c =
    let same : c.args.n + 1 - 1 ≡ c.args.n = omega arith in
    record {
      events = rw (same, c.opening-standing.ensures) refl;
      young = rw c.opening-standing.ensures (young-opening c.args.seed);
    }

pub loop-number-preserved : goal.loop-number-preserved
loop-number-preserved c =
    let n = c.args.n in
    let number = c.loop-number.number in
    let at = c.loop-number.standing in
    let more : number < n + 1 = omega arith in
    let result : c.is_going.result ≡ true = search rules in
    let step = rounds-next n (n + 1) number at more (sym c.is_going.ensures ∙ result) in
    let after = c.in_ok-round.ensures in
    record {
      events = rw (after.events, after.standing) (
          append_assoc c.loop-number.events.items (round n number at) _ ∙ ap (λ (t : List Event). c.loop-number.events.items ++ t) (sym step) ∙ c.loop-number.invariant.events
          );
      young = rw after.standing (young-next n number at c.loop-number.invariant.young);
    }

pub returns-then-not-is_going : goal.returns-then-not-is_going
returns-then-not-is_going c =
    let n = c.args.n in
    let number = c.loop-number.number in
    let result : c.is_going.result ≡ false = search rules in
    let none = rounds-none n (n + 1 - number) number c.loop-number.standing (sym c.is_going.ensures ∙ result) in
    ended c.loop-number.events.items _ _ c.loop-number.invariant.events none

pub returns : goal.returns
returns c =
    let none = rounds-over c.args.n (c.args.n + 1) c.loop-number.number c.loop-number.standing c.loop-number-test.false in
    ended c.loop-number.events.items _ _ c.loop-number.invariant.events none
