use Rattle.std.proofs.Common.{map, List, ℕ, subst, sym}
use Rattle.kin_rules.specs.Layers.{AreShares}
use Rattle.kin_rules.specs.LayerTables.{input_at}
use Rattle.kin_rules.proofs.LayerRows.{if-some, shares-at}
use Rattle.kin_rules.proofs.layers.next_of.Goals as goal

pub returns-in-Some-2 : goal.returns-in-Some-2
returns-in-Some-2 g c = λ df d.
    if-some _ _ _ c.in-Some-2.is c.in_ok-value.ensures (map (input_at df d c.args.facts.now c.args.row.now) c.args.ends.now)
    (subst (λ (vs : List ℕ). AreShares (g.R.PullRule.share c.args.rule.now) (map (input_at df d c.args.facts.now c.args.row.now) c.args.ends.now) vs c.args.ends.now) (sym c.as_slice.ensures.value)
    (shares-at (g.R.PullRule.share c.args.rule.now) df d c.args.facts.now c.args.row.now c.in-Some.shares.items c.args.ends.now c.requires.facts (if-some _ _ _ c.in-Some.is c.requires.shares)))
