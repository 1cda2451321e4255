use Rattle.std.proofs.Common.{rules, ◌≡◌, ◌∙◌, sym, string_bytes, true, false}
use Rattle.std.specs.List.{list_all}
use Rattle.std.proofs.lemmas.Bool.{true≢false, and_parts}
use Rattle.std.proofs.lemmas.List.Folds.{list_all-map}
use Rattle.kin_words.specs.Formed.{is_formed}
use Rattle.kin_words.proofs.parses.parsed.Goals as goal

pub returns-then-not-are_formed : goal.returns-then-not-are_formed
returns-then-not-are_formed c =
    let words = c.args.words.now in
    let none : list_all (λ w. is_formed (string_bytes w)) words ≡ false = search rules in
    λ formed faultless. true≢false (sym formed ∙ list_all-map is_formed string_bytes words ∙ none)

pub returns-in-Ok : goal.returns-in-Ok
returns-in-Ok c =
    let words = c.args.words.now in
    let all : list_all (λ w. is_formed (string_bytes w)) words ≡ true = search rules in
    (list_all-map is_formed string_bytes words ∙ all, c.in-Ok.ensures.kinds c.requires.simple, (c.in-Ok.ensures.matches (and_parts _ _ c.requires.simple).0).0)
