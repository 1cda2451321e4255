-- What stands after each call, for all that stood before.
use Rattle.std.specs.Prelude.{ℕ, ◌≡◌, ◌≤◌, ◌+◌, ◌==◌, if◌then◌else◌, Option, length, List, [], ◌∷◌, ◌++◌}
use Rattle.kin_ids.specs.declared.stamps.Stamp.{Stamp}
use Rattle.kin_ids.specs.declared.ops.Record.{Record}
use Rattle.kin_ids.specs.declared.ops.Piece.{Piece}
use Rattle.kin_ids.specs.Lines.{past}
use Rattle.kin_ids.specs.Operations.{Fits}
use Rattle.kin_hub.specs.Hubs.{HubView, inc_in, agreed_in, cuts_in}
use Rattle.kin_hub.specs.Cores.{ready_run}
use Rattle.kin_hub.specs.Lines.{base_of}
use Rattle.kin_hub.specs.Cuts.{next_at, with_next}
use Rattle.kin_hub.specs.Stands.{Story, HubStands}

-- a piece that was stamped: it fits the feeds, its incarnation exists, and its base is that incarnation's
pub record IsKnown (story : Story) (h : HubView) (x : Piece) : Type 0 where
  pub fits : Fits story.parts story.feeds x
  pub inc : x.stamp.inc.0 ≤ inc_in h x.stamp.ingest.0
  pub base : x.base ≡ base_of (story.bases x.stamp.ingest.0) x.stamp.inc.0

-- the hub stands for something by which the piece is known
abbrev pub Knows : HubView → Piece → Type 0
Knows h x = (story : Story) × HubStands story h × IsKnown story h x

-- what stood stands after a piece that is known
abbrev pub HubPlaces : HubView → Piece → HubView → Type 0
HubPlaces old x new = (story : Story) → IsKnown story old x → HubStands story old → HubStands story new

-- what stood stands
abbrev pub HubKeeps : HubView → HubView → Type 0
HubKeeps old new = (story : Story) → HubStands story old → HubStands story new

-- node j's line with more stamps
abbrev pub grown : (ℕ → List Stamp) → ℕ → List Stamp → ℕ → List Stamp
grown lines j more i = if j == i then lines i ++ more else lines i

-- a story with more stamps on node j's line
abbrev pub raised_story : Story → ℕ → List Stamp → Story
raised_story story j more = record story { lines = grown story.lines j more }

-- what stood stands with the stamps on node j's line that the chains of all partitions share
abbrev pub HubRaises : HubView → ℕ → HubView → Type 0
HubRaises old j new = (story : Story) → HubStands story old → HubStands (raised_story story j (ready_run old.core j)) new

-- node j's bases with one more
abbrev pub based : (ℕ → List ℕ) → ℕ → ℕ → ℕ → List ℕ
based bases j at i = if j == i then bases i ++ at ∷ [] else bases i

-- a story with one more base of node j
abbrev pub sealed_story : Story → ℕ → ℕ → Story
sealed_story story j at = record story { bases = based story.bases j at }

-- what stood stands with the agreed position as the next base of node j
abbrev pub HubSeals : HubView → ℕ → HubView → Type 0
HubSeals old j new = (story : Story) → HubStands story old → HubStands (sealed_story story j (agreed_in old j)) new

-- a story with one more vector, whose number this is
abbrev pub cut_story : Story → ℕ → (ℕ → ℕ) → Story
cut_story story number next = record story { vectors = with_next story.vectors number next }

-- where a hub's next cut ends a node
abbrev pub next_of : Story → HubView → Option ℕ → ℕ → ℕ
next_of story h n = next_at (length story.feeds) (story.vectors (cuts_in h)) story.lines (agreed_in h) n

-- what stood stands with the cut as the next vector
abbrev pub HubCuts : HubView → Option ℕ → HubView → Type 0
HubCuts old n new = (story : Story) → HubStands story old →
    HubStands (cut_story story (cuts_in old + 1) (next_of story old n)) new

-- these are node i's agreed stamps past a position
abbrev pub AreSince : HubView → ℕ → ℕ → List Stamp → Type 0
AreSince h i from stamps = (story : Story) → HubStands story h → stamps ≡ past from (story.lines i)
