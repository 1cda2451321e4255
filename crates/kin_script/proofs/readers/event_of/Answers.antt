use Rattle.std.proofs.Common.{rules, ◌≡◌, ◌∙◌, ◌∷◌, sym, None, List, ℕ, length, ◌<◌, Some}
use Rattle.kin_script.specs.Readings.{spaced, read_all}
use Rattle.kin_script.proofs.Texts.{no_event}
use Rattle.kin_script.proofs.readers.event_of.Goals as goal

pub returns-in_err-numbers-in-Some : goal.returns-in_err-numbers-in-Some
returns-in_err-numbers-in-Some c =
    let none : c.from_residual.result ≡ None = search rules in
    let words : spaced c.args.line.now ≡ c.first_word.result.0.now ∷ spaced c.in-Some.text.now = search rules in
    let many : (ns : List ℕ) → read_all (spaced c.in-Some.text.now) ≡ Some ns → 4 < length ns = c.in_err-numbers-in-Some.ensures.none in
    none ∙ sym (no_event c.args.nodes c.args.parts c.args.line.now c.first_word.result.0.now (spaced c.in-Some.text.now) words many)
