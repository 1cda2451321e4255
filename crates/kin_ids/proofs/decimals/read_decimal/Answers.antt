use Rattle.std.proofs.Common.{sym, ◌∙◌, rules}
use Rattle.kin_ids.proofs.Numerals.{number_of-needless, number_of-no_text, parsed}
use Rattle.kin_ids.proofs.decimals.read_decimal.Goals as goal

pub returns-then-has_needless_front : goal.returns-then-has_needless_front
returns-then-has_needless_front c = sym (number_of-needless c.args.bytes.now (search rules))

pub returns-in_err-text : goal.returns-in_err-text
returns-in_err-text c = c.from_residual.ensures ∙ sym (number_of-no_text c.args.bytes.now (search rules))

pub returns : goal.returns
returns c = c.ok-2.ensures.value ∙ parsed c.args.bytes.now c.parse.result (search rules) (search rules)
