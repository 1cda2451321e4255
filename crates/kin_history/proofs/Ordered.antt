-- The agreed order is that of the lines' transactions, and later events leave it.
use Rattle.std.proofs.Common.{◌≡◌, ℕ, zero, suc, ◌<◌, ◌≤◌, List, [], ◌∷◌, ◌++◌, take, refl, sym, ◌∙◌, ap, arith, add-one}
use Rattle.kin_ids.specs.declared.ops.Record.{Record}
use Rattle.kin_ids.specs.declared.stamps.Stamp.{Stamp}
use Rattle.kin_ids.specs.Lines.{IsLine, IsEnd, end_of, upto, past}
use Rattle.kin_ids.specs.Graph.{empty_graph}
use Rattle.kin_ids.specs.Order.{feed_at, entries, between, of_epoch, order, folded, within}
use Rattle.kin_ids.specs.Records.{DoNotFall, line_records, line_entries}
use Rattle.kin_ids.proofs.Lines.{line_grows, upto-line, upto-ends, upto-end, past-line}
use Rattle.kin_ids.proofs.Alike.{order-alike}
use Rattle.kin_ids.proofs.Joins.{between-front, line_records-are, line_entries-are, past-end_of, within-law}
use Rattle.kin_ids.proofs.Orders.{order-law}
use Rattle.kin_script.specs.declared.events.Event.{Event}
use Rattle.kin_history.specs.Setting.{Setting, nodes, IsHistory, after}
use Rattle.kin_history.specs.Lines.{line}
use Rattle.kin_history.specs.Vectors.{cuts, vector}
use Rattle.kin_history.specs.CutLaws.{IsCutSound}
use Rattle.kin_history.specs.OrderLaws.{epoch_of_lines, order_of_lines, IsOfLines, IsSettled}
use Rattle.kin_history.proofs.Sound.{IsSound, sound}
use Rattle.kin_history.proofs.Cuts.{sound-cuts, keeps-later}

-- the records of the transactions between two ends of a line
between-entries : (e i : ℕ) (feed : List Record) (ss : List Stamp) (was now : ℕ) → IsLine 0 ss → IsEnd 0 ss was → IsEnd 0 ss now → was ≤ now → line_entries e i feed (past was (upto now ss)) ≡ entries e i was (between feed was now)
between-entries e i feed ss was now l from to le =
    let front = upto-line 0 now ss l in
    let inside = upto-ends 0 now was ss l from le in
    line_entries-are e i feed was (past was (upto now ss)) (past-line 0 was (upto now ss) front inside)
    ∙ ap (λ (n : ℕ). entries e i was (between feed was n)) (past-end_of 0 was (upto now ss) front inside ∙ upto-end 0 now ss l to)

module _ (set : Setting) (h : List Event) (some : 0 < set.parts) (legal : IsHistory set h) where
  not-falling : (k : ℕ) → k ≤ cuts set h → DoNotFall set.feeds (vector set h) k
  not-falling k le = record {
    start = λ i lt. (sound-cuts set h i some legal lt).first;
    grow = λ j i less lt. (sound-cuts set h i some legal lt).step j (omega arith);
  }

  epoch-of-lines : (k n : ℕ) → k < cuts set h → n ≤ nodes set →
      of_epoch set.feeds (suc k) (vector set h k) (vector set h (suc k)) n ≡ epoch_of_lines set.feeds (line set h) (suc k) (vector set h k) (vector set h (suc k)) n
  epoch-of-lines k zero lt le = refl
  epoch-of-lines k (suc i) lt le =
      let s : IsCutSound set h i = sound-cuts set h i some legal (omega arith) in
      let g : IsSound set h i = sound set h i some legal in
      let grows : vector set h k i ≤ vector set h (suc k) i = rw (add-one k) at (s.step k lt) in
      rw (epoch-of-lines k i lt (omega arith), between-entries (suc k) i (feed_at set.feeds i) (line set h i) (vector set h k i) (vector set h (suc k) i) g.run (s.ends k) (s.ends (suc k)) grows) refl

  order-of-lines : (k : ℕ) → k ≤ cuts set h → order set.feeds (vector set h) k ≡ order_of_lines set.feeds (line set h) (vector set h) k
  order-of-lines zero le = refl
  order-of-lines (suc k) le = rw (order-of-lines k (omega arith), epoch-of-lines k (nodes set) (omega arith) (omega arith)) refl

  records-within : (k i : ℕ) → i < nodes set → line_records (feed_at set.feeds i) (within (line set h) (vector set h) k i) ≡ take (vector set h k i) (feed_at set.feeds i)
  records-within k i lt =
      let s = sound-cuts set h i some legal lt in
      let g = sound set h i some legal in
      let v = vector set h k i in
      ap (line_records (feed_at set.feeds i)) (within-law (line set h) (vector set h) k i 0 g.run)
      ∙ (line_records-are (feed_at set.feeds i) 0 (upto v (line set h i)) (upto-line 0 v (line set h i) g.run)
      ∙ (ap (between (feed_at set.feeds i) 0) (upto-end 0 v (line set h i) g.run (s.ends k)) ∙ between-front (feed_at set.feeds i) v))

  pub of-lines : (k : ℕ) → k ≤ cuts set h → IsOfLines set h k
  of-lines k le = record { all = order-of-lines k le; once = order-law set.feeds (vector set h) k (not-falling k le); each = records-within k }

pub settled : (set : Setting) (h es : List Event) (k : ℕ) → 0 < set.parts → IsHistory set (after h es) → k ≤ cuts set h → IsSettled set h (after h es) k
settled set h es k some legal le =
    let same : order set.feeds (vector set (after h es)) k ≡ order set.feeds (vector set h) k = order-alike set.feeds (vector set (after h es)) (vector set h) k (λ j i j_le lt. (keeps-later set h es i some legal lt).kept j (omega arith)) in
    record { records = same; graph = ap (folded empty_graph) same }
