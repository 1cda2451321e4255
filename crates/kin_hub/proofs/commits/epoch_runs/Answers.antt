use Rattle.std.proofs.Common.{◌≡◌, ℕ, suc, ◌+◌, List, [], ◌∷◌, ◌++◌, ap, ap₂, ◌∙◌, arith, rules}
use Rattle.kin_ids.specs.declared.ops.Piece.{Piece}
use Rattle.kin_held.specs.Chains.{chain_at, pieces_upto}
use Rattle.kin_table.specs.Vectors.{end_at}
use Rattle.kin_blocks.specs.Blocks.{pieces_of}
use Rattle.kin_blocks.proofs.Going.{pieces_of-push}
use Rattle.kin_hub.specs.Commits.{epoch_pieces}
use Rattle.kin_hub.proofs.commits.epoch_runs.Goals as goal

pub loop-i-preserved : goal.loop-i-preserved
loop-i-preserved c =
    let i : ℕ = c.loop-i.i in
    let more : List Piece = pieces_upto (end_at c.args.ends.now i).to (chain_at c.args.held.now i).held in
    let items : c.push.new.self.items ≡ c.loop-i.runs.items ++ c.of.result ∷ [] = search rules in
    let run : c.of.result ≡ more = search rules in
    let next : suc i ≡ i + 1 = omega arith in
    ap pieces_of items ∙ (pieces_of-push c.loop-i.runs.items c.of.result ∙ (ap₂ (λ (xs ys : List Piece). xs ++ ys) c.loop-i.invariant run
    ∙ ap (epoch_pieces c.args.held.now c.args.ends.now) next))
