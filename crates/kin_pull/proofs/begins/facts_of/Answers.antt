use Rattle.std.proofs.Common.{◌∙◌, ap, sym, get_or, arith}
use Rattle.std.proofs.lemmas.List.{get_or_default}
use Rattle.kin_rules.specs.Layers.{blank}
use Rattle.kin_rules.specs.Places.{place}
use Rattle.kin_rules.proofs.Places.{place-lt}
use Rattle.kin_pull.proofs.Marks.{past-last}
use Rattle.kin_rules.proofs.EdgeRows.{found-some, found-none}
use Rattle.kin_pull.proofs.Rows.{ok-more}
use Rattle.kin_pull.proofs.begins.facts_of.Goals as goal

pub returns-in-Some : goal.returns-in-Some
returns-in-Some g c =
    let us = c.args.users.now in
    let at = found-some us c.args.u c.in-Some.i (sym c.find_next.ensures.found ∙ c.in-Some.is) in
    let l = place-lt us c.args.u at.0 in
    ok-more _ _ c.copy.result
    (λ f e. e ∙ (c.index-facts-i.is ∙ (ap (λ fs. get_or fs c.in-Some.i c.index-facts-i.result) c.facts.ensures
    ∙ (ap (λ n. get_or c.args.kept.now.facts n c.index-facts-i.result) at.1
    ∙ get_or_default c.args.kept.now.facts (place us c.args.u) c.index-facts-i.result (blank c.args.u) (omega
    (arith, l, c.requires.long)))))) c.copy.ensures

pub returns-in-None : goal.returns-in-None
returns-in-None g c = c.blank.ensures ∙ sym (past-last c.args.users.now c.args.kept.now.facts c.args.u (blank c.args.u) c.requires.long
    (found-none c.args.users.now c.args.u (sym c.find_next.ensures.found ∙ c.in-None.is)))
