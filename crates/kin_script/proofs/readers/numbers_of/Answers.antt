use Rattle.std.proofs.Common.{rules, arith, ◌≡◌, ◌∙◌, ◌<◌, ◌∷◌, [], ap, sym, subst, refl, lit<, length, true, false}
use Rattle.std.specs.Prelude.{is_none}
use Rattle.std.proofs.lemmas.List.{length-append}
use Rattle.kin_script.proofs.Words.{IsReading, starts, reads, fails, ends, too_many, none≢some, emptied, filled, texts_of, as_left}
use Rattle.kin_script.proofs.readers.numbers_of.Goals as goal

pub loop-count-init : goal.loop-count-init
loop-count-init c = rw c.new-numbers.ensures (starts c.args.text.now, refl)

pub returns-in_default-clause-some : goal.returns-in_default-clause-some
returns-in_default-clause-some c =
    ends c.args.text.now c.loop-count.numbers.items
    (subst (λ o. IsReading c.args.text.now c.loop-count.numbers.items (texts_of o)) c.in_default.is c.loop-count.invariant.0)

pub returns-in_err-read_u64-clause-none : goal.returns-in_err-read_u64-clause-none
returns-in_err-read_u64-clause-none c =
    let text = c.args.text.now in
    let read = subst (λ o. IsReading text c.loop-count.numbers.items (texts_of o)) c.in-Some.is c.loop-count.invariant.0 in
    let words = as_left c.in-Some.text.now c.first_word.result.0.now c.first_word.result.1 c.first_word.ensures in
    let failed = fails text c.loop-count.numbers.items c.in-Some.text.now c.first_word.result.0.now (texts_of c.first_word.result.1) read words (sym c.in_err-read_u64.ensures) in
    rw c.from_residual.ensures (λ ns is. absurd (none≢some ns (sym failed ∙ is)))

pub push-requires : goal.push-requires
push-requires c =
    let short : length c.loop-count.numbers.items < 4 = omega (arith, c.loop-count.invariant.1, c.loop-count-test.true) in
    (lit< tt, short)

pub loop-count-preserved : goal.loop-count-preserved
loop-count-preserved c =
    let text = c.args.text.now in
    let n = c.in_ok-read_u64.field-0 in
    let read = subst (λ o. IsReading text c.loop-count.numbers.items (texts_of o)) c.in-Some.is c.loop-count.invariant.0 in
    let words = as_left c.in-Some.text.now c.first_word.result.0.now c.first_word.result.1 c.first_word.ensures in
    let next = reads text c.loop-count.numbers.items c.in-Some.text.now c.first_word.result.0.now (texts_of c.first_word.result.1) n read words (sym c.in_ok-read_u64.ensures) in
    let grown = ap length c.push.ensures.items in
    let one_more = length-append c.loop-count.numbers.items (n ∷ []) in
    (subst (λ ns. IsReading text ns (texts_of c.first_word.result.1)) (sym c.push.ensures.items) next, omega (arith, grown, one_more, c.loop-count.invariant.1))

pub returns-then-is_none-clause-some : goal.returns-then-is_none-clause-some
returns-then-is_none-clause-some c =
    let gone : is_none c.loop-count.rest ≡ true = search rules in
    ends c.args.text.now c.loop-count.numbers.items
    (subst (λ o. IsReading c.args.text.now c.loop-count.numbers.items (texts_of o)) (emptied c.loop-count.rest gone) c.loop-count.invariant.0)

pub returns-else-is_none-clause-none : goal.returns-else-is_none-clause-none
returns-else-is_none-clause-none c ns is =
    let more : is_none c.loop-count.rest ≡ false = search rules in
    let rest = filled c.loop-count.rest more in
    let read = subst (λ o. IsReading c.args.text.now c.loop-count.numbers.items (texts_of o)) rest.1 c.loop-count.invariant.0 in
    let long = too_many c.args.text.now c.loop-count.numbers.items rest.0.now read ns is in
    omega (arith, long, c.loop-count.invariant.1, c.loop-count-test.false)
