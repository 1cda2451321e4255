use Rattle.std.proofs.Common.{◌++◌, ◌∷◌, [], ◌∙◌, sym, ap}
use Rattle.kin_ids.proofs.Rounds.{first_more}
use Rattle.kin_table.proofs.rounds.nodes.Goals as goal

pub loop-node-preserved : goal.loop-node-preserved
loop-node-preserved c = c.in_ok-push.ensures.items ∙ (ap (λ xs. xs ++ c.loop-node.node ∷ []) c.loop-node.invariant ∙ sym (first_more c.loop-node.node))
