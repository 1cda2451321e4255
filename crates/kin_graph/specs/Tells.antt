-- What a delta of a partition tells between two graphs.
use Rattle.std.specs.Prelude.{ℕ}
use Rattle.kin_ids.specs.Graph.{Graph}
use Rattle.kin_ids.specs.Follows.{IsSound}
use Rattle.kin_ids.specs.Parts.{PartView, IsPart}
use Rattle.kin_graph.specs.Deltas.{DeltaLists, IsDelta, no_change}

-- The delta of partition p tells exactly what differs between the graphs' parts, whatever parts of them are looked at.
pub record Tells (parts p : ℕ) (was is : Graph) (d : DeltaLists) : Type 0 where
  pub exact : (v w : PartView) → IsPart parts p was v → IsPart parts p is w → IsDelta v w d

-- what is exact between two parts is so between all parts of their graphs
abbrev pub TellsLaw : Type 0
TellsLaw = (parts p : ℕ) (was is : Graph) (v w : PartView) (d : DeltaLists) → IsSound was → IsSound is
    → IsPart parts p was v → IsPart parts p is w → IsDelta v w d → Tells parts p was is d

-- between a graph and itself nothing changed
abbrev pub NoChangeLaw : Type 0
NoChangeLaw = (parts p : ℕ) (g : Graph) → IsSound g → Tells parts p g g no_change
