-- Nodes and partitions over a history: incarnations, lines, deliveries, reports and agreement. A refused event changes nothing.
use Rattle.std.specs.Prelude.{ℕ, ◌+◌, ◌==◌, nat_lt, not, Bool, true, false, ◌&&◌, if◌then◌else◌, List, [], ◌∷◌, ◌++◌, slice_index}
use Rattle.kin_ids.specs.declared.stamps.Stamp.{Stamp}
use Rattle.kin_ids.specs.Lines.{end_of, front_in, upto, find_stamp, next_stamp, with_next, with_found, ack_of, least_from, seen_in, made_by}
use Rattle.kin_script.specs.declared.events.Event.{Event}
use Rattle.kin_script.specs.declared.events.Event.TheVariants as event
use Rattle.kin_history.specs.Setting.{Setting, feed_len}

-- a node that is down comes back while incarnations are left
abbrev pub comes_back : Bool → ℕ → Bool
comes_back up inc = not up && nat_lt inc 65535

module _ (set : Setting) where
  abbrev mutual
    -- whether a node is up
    pub up : List Event → ℕ → Bool
    up [] i = true
    up (event.Crash j ∷ h) i = if j.0 == i then false else up h i
    up (event.Restart j ∷ h) i = if j.0 == i && comes_back (up h i) (inc h i) then true else up h i
    up (_ ∷ h) i = up h i

    -- its incarnation: how often it came back
    pub inc : List Event → ℕ → ℕ
    inc [] i = 0
    inc (event.Restart j ∷ h) i = if j.0 == i && comes_back (up h i) (inc h i) then inc h i + 1 else inc h i
    inc (_ ∷ h) i = inc h i

  abbrev mutual
    -- the surviving transactions of a node, oldest first: a restart keeps those up to the agreed position
    pub line : List Event → ℕ → List Stamp
    line [] i = []
    line (event.Stamp j n ∷ h) i = if j.0 == i && up h i then with_next (feed_len set i) i (inc h i) n (line h i) else line h i
    line (event.Restart j ∷ h) i = if j.0 == i && comes_back (up h i) (inc h i) then upto (agreed h i) (line h i) else line h i
    line (_ ∷ h) i = line h i

    -- every stamp that was made, in the order made
    pub sent : List Event → List Stamp
    sent [] = []
    sent (event.Stamp j n ∷ h) =
        if up h j.0 && not (end_of 0 (line h j.0) == feed_len set j.0)
        then sent h ++ next_stamp (feed_len set j.0) j.0 (inc h j.0) (end_of 0 (line h j.0)) n ∷ []
        else sent h
    sent (_ ∷ h) = sent h

    -- the stamps of all accepted deliveries to a partition
    pub delivered : List Event → ℕ → List Stamp
    delivered [] p = []
    delivered (event.Deliver q j c to ∷ h) p = if q.0 == p then with_found (find_stamp (sent h) j.0 c.0 to) (delivered h p) else delivered h p
    delivered (_ ∷ h) p = delivered h p

    -- the same at the partition's last report, and nothing where it never reported
    pub reported : List Event → ℕ → List Stamp
    reported [] p = []
    reported (event.Report q ∷ h) p = if q.0 == p then delivered h p else reported h p
    reported (_ ∷ h) p = reported h p

    -- the agreed position of a node: at each raise the least that the partitions reported of its line
    pub agreed : List Event → ℕ → ℕ
    agreed [] i = 0
    agreed (event.Raise j ∷ h) i =
        if j.0 == i then least_from (ack_of (reported h 0) (line h i)) set.parts (λ p. ack_of (reported h p) (line h i)) else agreed h i
    agreed (_ ∷ h) i = agreed h i

  -- where each incarnation of a node began
  abbrev pub bases : List Event → ℕ → List ℕ
  bases [] i = 0 ∷ []
  bases (event.Restart j ∷ h) i = if j.0 == i && comes_back (up h i) (inc h i) then bases h i ++ agreed h i ∷ [] else bases h i
  bases (_ ∷ h) i = bases h i

  abbrev pub base : List Event → ℕ → ℕ → ℕ
  base h i c = slice_index (bases h i) c

  -- the node's next position
  abbrev pub next : List Event → ℕ → ℕ
  next h i = end_of 0 (line h i)

  -- up to where a partition has reported the node's line, and the least of all partitions
  abbrev pub ack : List Event → ℕ → ℕ → ℕ
  ack h p i = ack_of (reported h p) (line h i)

  abbrev pub least_ack : List Event → ℕ → ℕ
  least_ack h i = least_from (ack h 0 i) set.parts (λ p. ack h p i)

  -- the greatest incarnation of a node that came to a partition
  abbrev pub seen : List Event → ℕ → ℕ → ℕ
  seen h p i = seen_in (delivered h p) i

  -- the end of the longest run of a node's stamps of an incarnation that all arrived
  abbrev pub top_in : List Stamp → List Event → ℕ → ℕ → ℕ
  top_in arrived h i c = end_of (base h i c) (front_in arrived (made_by i c (sent h)))

  abbrev pub top : List Event → ℕ → ℕ → ℕ
  top h p i = top_in (delivered h p) h i (seen h p i)

  -- whether a partition ever reported
  abbrev pub has_reported : List Event → ℕ → Bool
  has_reported [] p = false
  has_reported (event.Report q ∷ h) p = if q.0 == p then true else has_reported h p
  has_reported (_ ∷ h) p = has_reported h p
