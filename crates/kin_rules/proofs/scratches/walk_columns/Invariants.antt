use Rattle.std.proofs.Common.{◌≡◌, length, take, map}
use Rattle.kin_ids.specs.Graph.{Graph}
use Rattle.kin_rules.specs.Columns.{AreOf, columns_of}
use Rattle.kin_rules.specs.Edges.{AreEdgesOf}
use Rattle.kin_rules.specs.Instances.{distance_rule}
use Rattle.kin_rules.specs.Nets.{least_of}
use Rattle.kin_rules.specs.Scratches.{column_by}
use Rattle.kin_rules.proofs.scratches.walk_columns.Given as goal

abbrev pub invariant-loop-landmark : goal.invariant-loop-landmark
invariant-loop-landmark l = (length l.columns.items ≡ l.landmark-index) × AreOf (length l.index) (columns_of l.columns.items)
    × ((g : Graph) → AreEdgesOf g l.index l.follows l.mentions
    → columns_of l.columns.items ≡ map (λ m. column_by (least_of (distance_rule l.distance m) g) l.index) (take l.landmark-index l.landmarks))
