-- What each event does to a world, answer by answer.
use Rattle.std.specs.Prelude.{ℕ, ◌≡◌, ◌≢◌, ◌<◌, ◌≤◌, ◌+◌, IsTrue, true, false, List, [], ◌∷◌, ◌++◌, Option, Some, None, length, slice_set}
use Rattle.kin_ids.specs.declared.ids.Inc.{Inc}
use Rattle.kin_ids.specs.declared.ops.Piece.{Piece}
use Rattle.kin_ids.specs.declared.ids.Epoch.{Epoch}
use Rattle.kin_ids.specs.declared.stamps.Stamp.{Stamp}
use Rattle.kin_ids.specs.declared.stamps.End.{End}
use Rattle.kin_ids.specs.Lines.{next_stamp}
use Rattle.kin_ids.specs.Operations.{Fits}
use Rattle.kin_ids.specs.Order.{feed_at}
use Rattle.kin_ingest.specs.declared.ingests.Ingest.{Ingest}
use Rattle.kin_script.specs.declared.outcomes.Outcome.{Outcome}
use Rattle.kin_script.specs.declared.outcomes.Outcome.TheVariants as outcome
use Rattle.kin_script.specs.declared.outcomes.Refusal.TheVariants as refusal
use Rattle.kin_held.specs.declared.answers.Taken.{Taken}
use Rattle.kin_held.specs.declared.answers.Taken.TheVariants as taken
use Rattle.kin_table.specs.declared.answers.Raised.{Raised}
use Rattle.kin_table.specs.declared.answers.Raised.TheVariants as raised
use Rattle.kin_hub.specs.Cores.{CoreTakes, with_seal, with_cut}
use Rattle.kin_hub.specs.Hubs.{HubView, agreed_in, inc_in, missing_in, cuts_in, committed_in}
use Rattle.kin_hub.specs.Commits.{Commits}
use Rattle.kin_hub.specs.Goes.{HubKeeps, HubPlaces, HubSeals, HubCuts}
use Rattle.kin_world.specs.declared.sent_logs.Sent.{Sent}
use Rattle.kin_world.specs.Worlds.{WorldView, node_at}

-- node j's next stamp of n records, and the world after it
abbrev pub stamped : WorldView → ℕ → ℕ → Stamp
stamped w j n = let node = node_at w j in next_stamp node.len node.id.0 node.inc.0 node.next n

abbrev pub after_stamp : WorldView → ℕ → Stamp → WorldView
after_stamp w j s =
    record w {
      ingests = slice_set w.ingests j (record (node_at w j) { next = s.to });
      sent = w.sent ++ record { stamp = s; base = (node_at w j).base } ∷ [];
    }

abbrev pub Stamps : WorldView → ℕ → ℕ → Outcome → WorldView → Type 0
Stamps old j n (outcome.Refused refusal.Down) new = ((node_at old j).up ≡ false) × (new ≡ old)
Stamps old j n (outcome.Refused refusal.Exhausted) new =
    IsTrue (node_at old j).up × ((node_at old j).next ≡ (node_at old j).len) × (new ≡ old)
Stamps old j n (outcome.Stamped s) new =
    IsTrue (node_at old j).up × ((node_at old j).next ≢ (node_at old j).len) × (s ≡ stamped old j n) × (new ≡ after_stamp old j s)
Stamps old j n _ new = ⊥

-- node j goes down
abbrev pub after_crash : WorldView → ℕ → WorldView
after_crash w j = record w { ingests = slice_set w.ingests j (record (node_at w j) { up = false }) }

abbrev pub Crashes : WorldView → ℕ → Outcome → WorldView → Type 0
Crashes old j (outcome.Refused refusal.Down) new = ((node_at old j).up ≡ false) × (new ≡ old)
Crashes old j outcome.Crashed new = IsTrue (node_at old j).up × (new ≡ after_crash old j)
Crashes old j _ new = ⊥

-- node j comes back under an incarnation at a base, and the hub has ended the one before
abbrev pub after_restart : WorldView → ℕ → Inc → ℕ → WorldView
after_restart w j c base =
    record w {
      ingests = slice_set w.ingests j (record (node_at w j) { inc = c; base = base; next = base; up = true });
      hub = record w.hub { core = with_seal w.hub.core j };
    }

-- the incarnation is the next one, and the base the agreed position
pub record ComesBack (old : WorldView) (j : ℕ) (c : Inc) (base : ℕ) (new : WorldView) : Type 0 where
  pub down : (node_at old j).up ≡ false
  pub left : (node_at old j).inc.0 ≢ 65535
  pub inc : c.0 ≡ (node_at old j).inc.0 + 1
  pub at : base ≡ agreed_in old.hub j
  pub seals : HubSeals old.hub j new.hub
  pub world : new ≡ after_restart old j c base

abbrev pub Restarts : WorldView → ℕ → Outcome → WorldView → Type 0
Restarts old j (outcome.Refused refusal.Up) new = IsTrue (node_at old j).up × (new ≡ old)
Restarts old j (outcome.Refused refusal.IncarnationsSpent) new =
    ((node_at old j).up ≡ false) × ((node_at old j).inc.0 ≡ 65535) × (new ≡ old)
Restarts old j (outcome.Restarted c base) new = ComesBack old j c base new
Restarts old j _ new = ⊥

-- what holds of a node before it may come back: the hub has its incarnation, and its agreed position lies in its feed
pub record MayRestart (w : WorldView) (j : ℕ) : Type 0 where
  pub inc : inc_in w.hub j ≡ (node_at w j).inc.0
  pub within : agreed_in w.hub j ≤ (node_at w j).len

-- a stamp of a feed at or past its base
pub record IsStamped (w : WorldView) (s : Sent) : Type 0 where
  pub node : s.stamp.ingest.0 < length w.feeds
  pub after_base : s.base ≤ s.stamp.from
  pub some : s.stamp.from < s.stamp.to
  pub few : s.stamp.to ≤ s.stamp.from + 16
  pub inside : s.stamp.to ≤ length (feed_at w.feeds s.stamp.ingest.0)

-- the piece of a stamp for partition p
pub record IsPieceFor (w : WorldView) (s : Sent) (p : ℕ) (x : Piece) : Type 0 where
  pub stamp : x.stamp ≡ s.stamp
  pub base_is : x.base ≡ s.base
  pub part : x.part.0 ≡ p
  pub fits : Fits w.parts w.feeds x

-- what a partition's answer to a piece tells of a delivery
abbrev pub told : Taken → Outcome
told (taken.Held top) = outcome.Held top
told (taken.Early top) = outcome.Early top
told taken.Repeat = outcome.Repeat
told (taken.Stale c) = outcome.Stale c
told (taken.Adrift b f t) = outcome.Repeat

-- an answer that a world may get
abbrev pub IsNotAdrift : Taken → Type 0
IsNotAdrift (taken.Held top) = Unit {0}
IsNotAdrift (taken.Early top) = Unit {0}
IsNotAdrift taken.Repeat = Unit {0}
IsNotAdrift (taken.Stale c) = Unit {0}
IsNotAdrift (taken.Adrift b f t) = ⊥

-- partition p takes the piece of a stamp, and all else stays
pub record TakesPiece (old : WorldView) (s : Sent) (p : ℕ) (o : Outcome) (new : WorldView) : Type 0 where
  pub piece : Piece
  pub of : IsPieceFor old s p piece
  pub taken : Taken
  pub answer : o ≡ told taken
  pub takes : CoreTakes old.hub.core piece taken new.hub.core
  pub versions : new.hub.versions ≡ old.hub.versions
  pub places : HubPlaces old.hub piece new.hub
  pub world : new ≡ record old { hub = new.hub }

-- a delivery to partition p of the stamp that was found
abbrev pub Delivers : WorldView → ℕ → Option Sent → Outcome → WorldView → Type 0
Delivers old p None o new = (o ≡ outcome.Refused refusal.NotSent) × (new ≡ old)
Delivers old p (Some s) o new = TakesPiece old s p o new

-- what a raise tells
abbrev pub told_raise : Raised → Outcome
told_raise (raised.Raised to) = outcome.Raised to
told_raise (raised.Level to) = outcome.Level to

-- every partition has reported, the epoch is the next one, and the hub has one more vector
pub record MakesCut (old : WorldView) (n : Option ℕ) (k : Epoch) (new : WorldView) : Type 0 where
  pub all : missing_in old.hub ≡ None
  pub epoch : k.0 ≡ cuts_in old.hub + 1
  pub ends : List End
  pub hub : new.hub ≡ record old.hub { core = with_cut old.hub.core ends }
  pub cuts : HubCuts old.hub n new.hub
  pub world : new ≡ record old { hub = new.hub }

abbrev pub Cuts : WorldView → Option ℕ → Outcome → WorldView → Type 0
Cuts old n (outcome.Refused (refusal.NotReported p)) new = (missing_in old.hub ≡ Some p.0) × (new ≡ old)
Cuts old n (outcome.CutMade k) new = MakesCut old n k new
Cuts old n _ new = ⊥

-- partition p commits its next epoch, and all else stays
pub record MakesCommit (old : WorldView) (p : ℕ) (k : Epoch) (new : WorldView) : Type 0 where
  pub left : committed_in old.hub p ≢ cuts_in old.hub
  pub epoch : k.0 ≡ committed_in old.hub p + 1
  pub commits : Commits old.hub p new.hub
  pub keeps : HubKeeps old.hub new.hub
  pub world : new ≡ record old { hub = new.hub }

abbrev pub CommitsPart : WorldView → ℕ → Outcome → WorldView → Type 0
CommitsPart old p (outcome.Refused refusal.NothingCut) new = (committed_in old.hub p ≡ cuts_in old.hub) × (new ≡ old)
CommitsPart old p (outcome.Committed k) new = MakesCommit old p k new
CommitsPart old p _ new = ⊥
