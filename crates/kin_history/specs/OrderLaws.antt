-- The agreed order of records against the lines, after every history.
use Rattle.std.specs.Prelude.{ℕ, zero, suc, ◌≡◌, ◌<◌, ◌≤◌, List, [], ◌∷◌, ◌++◌, length, take}
use Rattle.kin_ids.specs.declared.ops.Record.{Record}
use Rattle.kin_ids.specs.declared.stamps.Stamp.{Stamp}
use Rattle.kin_ids.specs.Lines.{upto, past}
use Rattle.kin_ids.specs.Order.{Entry, feed_at, order, snapshot, within}
use Rattle.kin_ids.specs.Records.{IsAgreedOrder, line_records, line_entries}
use Rattle.kin_script.specs.declared.events.Event.{Event}
use Rattle.kin_history.specs.Setting.{Setting, nodes, IsHistory, after}
use Rattle.kin_history.specs.Lines.{line}
use Rattle.kin_history.specs.Vectors.{cuts, vector}

-- the records of the transactions of the first n nodes' lines that epoch e adds, from one vector to the next
abbrev pub epoch_of_lines : List (List Record) → (ℕ → List Stamp) → ℕ → (ℕ → ℕ) → (ℕ → ℕ) → ℕ → List Entry
epoch_of_lines feeds lines e was now zero = []
epoch_of_lines feeds lines e was now (suc i) = epoch_of_lines feeds lines e was now i ++ line_entries e i (feed_at feeds i) (past (was i) (upto (now i) (lines i)))

-- the records of the lines' transactions within vector k in agreed order: by epoch, then by node, then along the line
abbrev pub order_of_lines : List (List Record) → (ℕ → List Stamp) → (ℕ → ℕ → ℕ) → ℕ → List Entry
order_of_lines feeds lines vectors zero = []
order_of_lines feeds lines vectors (suc k) = order_of_lines feeds lines vectors k ++ epoch_of_lines feeds lines (suc k) (vectors k) (vectors (suc k)) (length feeds)

-- The agreed order of the first k epochs is that of the records of the surviving transactions within vector k. Of each node it has
-- each record up to the vector's position once, places ascend, and these are the records of the node's transactions within the vector.
pub record IsOfLines (set : Setting) (h : List Event) (k : ℕ) : Type 0 where
  pub all : order set.feeds (vector set h) k ≡ order_of_lines set.feeds (line set h) (vector set h) k
  pub once : IsAgreedOrder set.feeds (vector set h) k
  pub each : (i : ℕ) → i < nodes set → line_records (feed_at set.feeds i) (within (line set h) (vector set h) k i) ≡ take (vector set h k i) (feed_at set.feeds i)

abbrev pub OfLinesLaw : Type 0
OfLinesLaw = (set : Setting) (h : List Event) (k : ℕ) → 0 < set.parts → IsHistory set h → k ≤ cuts set h → IsOfLines set h k

-- Whatever comes later, the agreed order of the epochs that are cut stays as it is, and so do their snapshots.
pub record IsSettled (set : Setting) (was now : List Event) (k : ℕ) : Type 0 where
  pub records : order set.feeds (vector set now) k ≡ order set.feeds (vector set was) k
  pub graph : snapshot set.feeds (vector set now) k ≡ snapshot set.feeds (vector set was) k

abbrev pub SettledLaw : Type 0
SettledLaw = (set : Setting) (h es : List Event) (k : ℕ) → 0 < set.parts → IsHistory set (after h es) → k ≤ cuts set h → IsSettled set h (after h es) k
