-- Laws of worlds that stand for a history.
use Rattle.std.specs.Prelude.{ℕ, ◌≡◌, ◌<◌, ◌≤◌, ◌+◌, ◌↔◌, true, List}
use Rattle.kin_ids.specs.declared.ids.User.{User}
use Rattle.kin_ids.specs.declared.ops.Piece.{Piece}
use Rattle.kin_ids.specs.Lines.{has}
use Rattle.kin_ids.specs.Order.{snapshot}
use Rattle.kin_ids.specs.Parts.{PartView}
use Rattle.kin_script.specs.declared.events.Event.{Event}
use Rattle.kin_history.specs.Setting.{Setting, nodes}
use Rattle.kin_history.specs.Lines.{inc, sent, base, least_ack, agreed}
use Rattle.kin_history.specs.Vectors.{vector, committed}
use Rattle.kin_history.specs.Mining.{mined}
use Rattle.kin_held.specs.declared.answers.Taken.{Taken}
use Rattle.kin_hub.specs.Cores.{CoreView, CoreTakes, ready}
use Rattle.kin_blocks.specs.Snaps.{joined}
use Rattle.kin_ids.specs.Wholes.{IsViewOf}
use Rattle.kin_blocks.specs.Wholes.{told_out, told_in}
use Rattle.kin_graph.specs.Views.{IsSmall}
use Rattle.kin_changes.specs.Views.{AreLed}
use Rattle.kin_hub.specs.Hubs.{KeepsEpoch, agreed_in, deltas_in, inc_in, snap_in}
use Rattle.kin_world.specs.Worlds.{WorldView}
use Rattle.kin_world.specs.Steps.{IsNotAdrift}
use Rattle.kin_world.specs.Stands.{Stands}

-- The hub's agreed position and incarnation of a node are the history's, and the ready position is the least that the partitions have
-- acknowledged of the node's line.
pub record IsAgreedOn (set : Setting) (w : WorldView) (h : List Event) (i : ℕ) : Type 0 where
  pub agreed_is : agreed_in w.hub i ≡ agreed set h i
  pub inc_is : inc_in w.hub i ≡ inc set h i
  pub ready_is : ready w.hub.core i ≡ least_ack set h i

abbrev pub AgreementLaw : Type 0
AgreementLaw = (set : Setting) (w : WorldView) (h : List Event) (i : ℕ) → Stands set w h → i < nodes set → IsAgreedOn set w h i

-- Whatever a partition answers to a piece of a stamp that was made, it isn't that the piece is adrift.
abbrev pub AdriftLaw : Type 0
AdriftLaw = (set : Setting) (w : WorldView) (h : List Event) (x : Piece) (taken : Taken) (new : CoreView) → Stands set w h →
    x.part.0 < set.parts → x.stamp.ingest.0 < nodes set → has (sent set h) x.stamp ≡ true →
    x.base ≡ base set h x.stamp.ingest.0 x.stamp.inc.0 → CoreTakes w.hub.core x taken new → IsNotAdrift taken

-- What a kept epoch's stores are: the graph of all records within the history's vector, whole. No edge has one half only, and both halves
-- tell the same of it.
pub record IsOneMoment (set : Setting) (w : WorldView) (h : List Event) (k : ℕ) : Type 0 where
  pub whole : IsViewOf (snapshot set.feeds (vector set h) k) (joined (snap_in w.hub k))
  pub halves : (u v : User) → told_out (joined (snap_in w.hub k)) u v ≡ told_in (joined (snap_in w.hub k)) u v

-- An epoch is kept exactly where every partition has committed it and it isn't before the last mined one; and then it is one moment.
pub record KeepsMoments (set : Setting) (w : WorldView) (h : List Event) (k : ℕ) : Type 0 where
  pub kept : KeepsEpoch w.hub k ↔ ((mined set h ≤ k) × ((p : ℕ) → p < set.parts → k ≤ committed set h p))
  pub moment : KeepsEpoch w.hub k → IsOneMoment set w h k

abbrev pub MomentLaw : Type 0
MomentLaw = (set : Setting) (w : WorldView) (h : List Event) (k : ℕ) → Stands set w h → KeepsMoments set w h k

-- The deltas of an epoch lead to its stores from a view of the epoch before, and few users stand in these stores.
pub record LeadsOn (w : WorldView) (k : ℕ) (was : PartView) : Type 0 where
  pub led : AreLed was (joined (snap_in w.hub (k + 1))) (deltas_in w.hub (k + 1))
  pub small : IsSmall (joined (snap_in w.hub (k + 1)))

-- So it is where the epoch's stores are kept, from each view of the graph of the epoch before.
abbrev pub LeadLaw : Type 0
LeadLaw = (set : Setting) (w : WorldView) (h : List Event) (k : ℕ) (was : PartView) → Stands set w h → KeepsEpoch w.hub (k + 1)
    → IsViewOf (snapshot set.feeds (vector set h) k) was → LeadsOn w k was
