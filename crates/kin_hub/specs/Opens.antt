-- A hub before anything came.
use Rattle.std.specs.Prelude.{ℕ, List, [], ◌∷◌, replicate}
use Rattle.kin_ids.specs.declared.ops.Record.{Record}
use Rattle.kin_ids.specs.declared.stamps.Stamp.{Stamp}
use Rattle.kin_held.specs.Chains.{no_chain}
use Rattle.kin_table.specs.Tables.{first_table}
use Rattle.kin_blocks.specs.Versions.{first_versions}
use Rattle.kin_hub.specs.Cores.{CoreView}
use Rattle.kin_hub.specs.Hubs.{HubView}
use Rattle.kin_hub.specs.Stands.{Story}

abbrev pub first_core : ℕ → ℕ → CoreView
first_core nodes parts = record { helds = replicate parts (replicate nodes no_chain); table = first_table nodes parts }

abbrev pub first_hub : ℕ → ℕ → HubView
first_hub nodes parts = record { core = first_core nodes parts; versions = first_versions parts }

-- no lines, one incarnation of each node, and vector 0 at zeros
abbrev pub no_lines : ℕ → List Stamp
no_lines i = []

abbrev pub first_bases : ℕ → List ℕ
first_bases i = 0 ∷ []

abbrev pub no_vectors : ℕ → ℕ → ℕ
no_vectors k i = 0

-- what it stands for, over feeds
abbrev pub first_story : List (List Record) → ℕ → Story
first_story feeds parts = record { parts = parts; feeds = feeds; lines = no_lines; bases = first_bases; vectors = no_vectors }
