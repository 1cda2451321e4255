use Rattle.std.proofs.Common.{rules, ◌≡◌, ◌∙◌, sym, false}
use Rattle.kin_words.specs.Items.{has}
use Rattle.kin_words.specs.Values.{rule_names}
use Rattle.kin_words.proofs.Parts.{refused}
use Rattle.kin_words.proofs.values.are_rules.Goals as goal

pub returns-then-not-is_rule : goal.returns-then-not-is_rule
returns-then-not-is_rule c =
    let other : c.is_rule.result ≡ false = search rules in
    sym (refused (λ name. has name rule_names) c.args.parts.now c.loop-part.part-index _ c.loop-part-test.true (sym c.is_rule.ensures ∙ other))
