-- The stamps that were made, with their bases.
use Rattle.std.specs.Prelude.{ℕ, ◌==◌, ◌&&◌, if◌then◌else◌, List, [], ◌∷◌, Option, Some, None}
use Rattle.kin_world.specs.declared.sent_logs.Sent.{Sent}

-- the one that was made by this node and incarnation and ends there
abbrev pub find_sent : List Sent → ℕ → ℕ → ℕ → Option Sent
find_sent [] i c to = None
find_sent (s ∷ ss) i c to = if (s.stamp.ingest.0 == i && s.stamp.inc.0 == c) && s.stamp.to == to then Some s else find_sent ss i c to
