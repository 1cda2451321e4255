-- Where an ingest node stands in its feed.
use Rattle.std.specs.Prelude.{◌≤◌}
pub use Rattle.kin_ingest.specs.declared.ingests.Ingest.{Ingest}

-- its position is at or past its base, and within its feed
pub record IsStanding (n : Ingest) : Type 0 where
  pub after_base : n.base ≤ n.next
  pub within : n.next ≤ n.len
