use Rattle.std.proofs.Common.{rules, ◌≡◌, ◌∙◌, ◌==◌, ◌∷◌, sym, ap, false, take, ◌+◌}
use Rattle.std.specs.Prelude.{slice_index}
use Rattle.std.proofs.lemmas.List.{take_rest}
use Rattle.std.proofs.lemmas.List.Elements.{All-more}
use Rattle.kin_script.specs.Readings.{spaced}
use Rattle.kin_script.proofs.Words.{word_before, one_word}
use Rattle.kin_script.proofs.readers.first_word.Goals as goal

pub returns-then-text-at-eq32 : goal.returns-then-text-at-eq32
returns-then-text-at-eq32 c =
    let text = c.args.text.now in
    let here : slice_index text c.loop-at.at ≡ 32 = search rules in
    word_before text c.loop-at.at c.loop-at-test.true c.loop-at.invariant here
    ∙ ap (λ t. take c.loop-at.at text ∷ spaced t) (sym (take_rest text (c.loop-at.at + 1)))

pub loop-at-preserved : goal.loop-at-preserved
loop-at-preserved c =
    let text = c.args.text.now in
    let other : (slice_index text c.loop-at.at == 32) ≡ false = search rules in
    All-more (λ b. (b == 32) ≡ false) text c.loop-at.at 0 c.loop-at-test.true c.loop-at.invariant other

pub returns : goal.returns
returns c = one_word c.args.text.now c.loop-at.at c.loop-at-test.false c.loop-at.invariant
