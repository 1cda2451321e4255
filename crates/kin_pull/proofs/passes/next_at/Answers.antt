use Rattle.std.proofs.Common.{◌∙◌, ap, map, get_or, List, ℕ, subst, sym}
use Rattle.std.proofs.lemmas.List.{get_or_default}
use Rattle.kin_rules.specs.Layers.{AreShares}
use Rattle.kin_rules.proofs.LayerRows.{if-some}
use Rattle.kin_pull.specs.Passes.{lent_at}
use Rattle.kin_pull.proofs.Shares.{shares-lent}
use Rattle.kin_pull.proofs.passes.next_at.Goals as goal

pub returns-in-Some-2 : goal.returns-in-Some-2
returns-in-Some-2 g c = λ df.
    let inputs = map (lent_at df c.args.first.now c.args.kept.now c.args.layer c.args.drawn.now) c.args.row.now in
    let own = c.index-facts-i.is ∙ (ap (λ fs. get_or fs c.args.i c.index-facts-i.result) c.facts.ensures
    ∙ get_or_default c.args.kept.now.facts c.args.i c.index-facts-i.result df c.requires.within) in
    if-some _ _ _ c.in-Some-2.is c.in_ok-value.ensures inputs
    (subst (λ (vs : List ℕ). AreShares (g.R.PullRule.share c.args.rule.now) inputs vs c.args.row.now) (sym c.as_slice.ensures.value)
    (shares-lent (g.R.PullRule.share c.args.rule.now) df c.args.first.now c.args.kept.now c.args.layer c.args.drawn.now
    c.in-Some.shares.items
    c.args.row.now c.requires.ends (if-some _ _ _ c.in-Some.is c.requires.shares)))
    ∙ ap (λ o. (g.R.PullRule.seen c.args.rule.now).next o inputs) own
