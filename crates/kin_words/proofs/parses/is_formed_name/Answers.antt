use Rattle.std.proofs.Common.{rules, arith, ◌≡◌, ◌∙◌, ◌==◌, ◌+◌, sym, ap, true, false}
use Rattle.std.specs.Prelude.{slice_index}
use Rattle.std.proofs.lemmas.List.{take_rest}
use Rattle.kin_words.specs.Formed.{is_value_if_any}
use Rattle.kin_words.specs.Items.{is_value}
use Rattle.kin_words.proofs.Equals.{formed_some, other_byte, equals_byte, no_byte, formed_alone}
use Rattle.kin_words.proofs.parses.is_formed_name.Goals as goal

pub returns-then-name-at-eq61 : goal.returns-then-name-at-eq61
returns-then-name-at-eq61 c =
    let name = c.args.name.now in
    let here : (slice_index name c.loop-at.at == 61) ≡ true = search rules in
    c.is_value.ensures ∙ ap is_value (take_rest name (c.loop-at.at + 1))
    ∙ sym (formed_some name (omega (arith, c.loop-at-test.true)) ∙ ap is_value_if_any (c.loop-at.invariant ∙ equals_byte name c.loop-at.at c.loop-at-test.true here))

pub loop-at-preserved : goal.loop-at-preserved
loop-at-preserved c =
    let name = c.args.name.now in
    let other : (slice_index name c.loop-at.at == 61) ≡ false = search rules in
    c.loop-at.invariant ∙ other_byte name c.loop-at.at c.loop-at-test.true other

pub returns : goal.returns
returns c = formed_alone c.args.name.now (c.loop-at.invariant ∙ no_byte c.args.name.now c.loop-at.at c.loop-at-test.false) _ c.is_empty.ensures
