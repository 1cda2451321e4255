-- A world before anything happened.
use Rattle.std.specs.Prelude.{ℕ, ◌≡◌, ◌<◌, true, List, length, slice_index_or}
use Rattle.kin_ids.specs.declared.ops.Record.{Record}
use Rattle.kin_ids.specs.Order.{feed_at}
use Rattle.kin_ingest.specs.declared.ingests.Ingest.{Ingest}
use Rattle.kin_world.specs.Worlds.{no_node}

-- node i at the start of its feed
abbrev pub first_node : List (List Record) → ℕ → Ingest
first_node feeds i = record { id = record { 0 = i }; len = length (feed_at feeds i); inc = record { 0 = 0 }; base = 0; next = 0; up = true }

-- a node of each feed, at its start
pub record AreFirst (feeds : List (List Record)) (ingests : List Ingest) : Type 0 where
  pub count : length ingests ≡ length feeds
  pub each : (i : ℕ) → i < length feeds → slice_index_or ingests i no_node ≡ first_node feeds i
