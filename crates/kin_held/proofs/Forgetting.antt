-- A chain that lets go of pieces up to a position stands for the same, from there on.
use Rattle.std.proofs.Common.{ℕ, ◌≤◌, List, ◌++◌, ◌∙◌, ap, refl}
use Rattle.kin_ids.specs.declared.stamps.Stamp.{Stamp}
use Rattle.kin_ids.specs.Lines.{past, front_in}
use Rattle.kin_ids.proofs.Lines.{past_past}
use Rattle.kin_held.specs.Chains.{ChainView}
use Rattle.kin_held.specs.Takes.{chain_past}
use Rattle.kin_held.specs.ChainOf.{IsChainOf}
use Rattle.kin_held.proofs.Pieces.{stamps_of-pieces_past}

pub forget-chain : (i c from f g : ℕ) (arrived before made : List Stamp) (chain : ChainView) → f ≤ g → IsChainOf i c from f arrived before made chain →
    IsChainOf i c from g arrived before made (chain_past chain g)
forget-chain i c from f g arrived before made chain le stands = record {
  floor = refl;
  inc = stands.inc;
  held = stamps_of-pieces_past g chain.held ∙ (ap (past g) stands.held ∙ past_past f g (before ++ front_in arrived made) le);
  top = stands.top;
  early = stands.early;
}
