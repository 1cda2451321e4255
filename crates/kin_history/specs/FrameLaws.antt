-- What an event leaves as it was, after every history.
use Rattle.std.specs.Prelude.{ℕ, ◌≡◌, ◌≢◌, ◌<◌, ◌≤◌, true, false, List, ◌∷◌, Option, Some, None}
use Rattle.kin_ids.specs.declared.ids.IngestId.{IngestId}
use Rattle.kin_ids.specs.declared.stamps.Stamp.{Stamp}
use Rattle.kin_ids.specs.Lines.{IsEnd, has, made_by}
use Rattle.kin_script.specs.declared.events.Event.{Event}
use Rattle.kin_script.specs.declared.events.Event.TheVariants as event
use Rattle.kin_history.specs.Setting.{Setting, IsHistory}
use Rattle.kin_history.specs.Lines.{up, inc, line, bases, base, agreed, least_ack, sent, delivered, reported, has_reported, seen, top}
use Rattle.kin_history.specs.Vectors.{committed}

-- the node that an event is of, and the partition
abbrev pub node_of : Event → Option ℕ
node_of (event.Stamp j n) = Some j.0
node_of (event.Raise j) = Some j.0
node_of (event.Crash j) = Some j.0
node_of (event.Restart j) = Some j.0
node_of _ = None

abbrev pub part_of : Event → Option ℕ
part_of (event.Deliver p j c to) = Some p.0
part_of (event.Report p) = Some p.0
part_of (event.Commit p) = Some p.0
part_of _ = None

-- all that a node has
pub record KeepsNode (set : Setting) (was now : List Event) (i : ℕ) : Type 0 where
  pub up : up set now i ≡ up set was i
  pub inc : inc set now i ≡ inc set was i
  pub line : line set now i ≡ line set was i
  pub bases : bases set now i ≡ bases set was i
  pub agreed : agreed set now i ≡ agreed set was i
  pub made : (c : ℕ) → made_by i c (sent set now) ≡ made_by i c (sent set was)

-- an event leaves what nodes have that it isn't of
abbrev pub OtherNodesLaw : Type 0
OtherNodesLaw = (set : Setting) (h : List Event) (e : Event) (i : ℕ) → node_of e ≢ Some i → KeepsNode set h (e ∷ h) i

-- all that a partition has
pub record KeepsPart (set : Setting) (was now : List Event) (p : ℕ) : Type 0 where
  pub delivered : delivered set now p ≡ delivered set was p
  pub reported : reported set now p ≡ reported set was p
  pub has_reported : has_reported set now p ≡ has_reported set was p
  pub committed : committed set now p ≡ committed set was p

-- an event leaves what partitions have that it isn't of
abbrev pub OtherPartsLaw : Type 0
OtherPartsLaw = (set : Setting) (h : List Event) (e : Event) (p : ℕ) → part_of e ≢ Some p → KeepsPart set h (e ∷ h) p

-- A raise sets its node's agreed position to the least that the partitions reported of its line, and leaves all else of the node.
pub record IsRaise (set : Setting) (h : List Event) (j : IngestId) : Type 0 where
  pub agreed : agreed set (event.Raise j ∷ h) j.0 ≡ least_ack set h j.0
  pub up : up set (event.Raise j ∷ h) j.0 ≡ up set h j.0
  pub inc : inc set (event.Raise j ∷ h) j.0 ≡ inc set h j.0
  pub line : line set (event.Raise j ∷ h) j.0 ≡ line set h j.0
  pub bases : bases set (event.Raise j ∷ h) j.0 ≡ bases set h j.0

abbrev pub RaisesOneLaw : Type 0
RaisesOneLaw = (set : Setting) (h : List Event) (j : IngestId) → IsRaise set h j

-- The top of a node in a partition is the base of the incarnation that it keeps, or the end of one of that incarnation's stamps. All of
-- these up to it came to the partition, and the one that begins there didn't.
pub record IsTop (set : Setting) (h : List Event) (p i : ℕ) : Type 0 where
  pub from : base set h i (seen set h p i) ≤ top set h p i
  pub ends : IsEnd (base set h i (seen set h p i)) (made_by i (seen set h p i) (sent set h)) (top set h p i)
  pub came : (s : Stamp) → has (made_by i (seen set h p i) (sent set h)) s ≡ true → s.to ≤ top set h p i → has (delivered set h p) s ≡ true
  pub last : (s : Stamp) → has (made_by i (seen set h p i) (sent set h)) s ≡ true → s.from ≡ top set h p i → has (delivered set h p) s ≡ false

abbrev pub TopLaw : Type 0
TopLaw = (set : Setting) (h : List Event) (p i : ℕ) → 0 < set.parts → IsHistory set h → IsTop set h p i
