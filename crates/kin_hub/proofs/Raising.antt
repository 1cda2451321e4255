-- A core that raises a node's agreed position stands for the same with the run on the node's line.
use Rattle.std.proofs.Common.{◌≡◌, ℕ, ◌+◌, ◌<◌, ◌≤◌, Bool, true, false, cond, eqb, ◌⊎◌, ⊎_elim, List, [], ◌∷◌, ◌++◌, refl, sym, ◌∙◌, ap}
use Rattle.std.proofs.Common.{subst, arith, length}
use Rattle.std.proofs.lemmas.Bool.{eqb-true, false≢true}
use Rattle.std.proofs.lemmas.List.{length-set}
use Rattle.kin_ids.specs.declared.stamps.Stamp.{Stamp}
use Rattle.kin_ids.specs.declared.ops.Record.{Record}
use Rattle.kin_ids.specs.declared.ops.Piece.{Piece}
use Rattle.kin_ids.specs.Lines.{has, end_of, stamps_of, upto, past, IsLine, IsEnd}
use Rattle.kin_ids.specs.Order.{feed_at}
use Rattle.kin_ids.proofs.Lines.{end_of-append, IsLine-append, IsEnd-append, line_grows, end_within, upto-end, upto-past}
use Rattle.kin_ids.proofs.Turns.{front-end_of}
use Rattle.kin_table.specs.Vectors.{end_at, vector_at}
use Rattle.kin_table.specs.Tables.{row_at, agreed_of, inc_of}
use Rattle.kin_hub.specs.Cores.{CoreView, IsCore, chain_of, ready_run, ready, with_raise}
use Rattle.kin_hub.specs.Lines.{IsHubStamp, IsHubLine, IsHubPiece, IsHubChain, IsHubRow, IsHubEnd}
use Rattle.kin_hub.specs.Stands.{Story, CoreStands}
use Rattle.kin_hub.specs.Goes.{grown, raised_story}
use Rattle.kin_ids.proofs.Rounds.{get_or-set}
use Rattle.kin_hub.proofs.Begins.{has-either}
use Rattle.kin_hub.proofs.Running.{run-upto, past-append, inc_at-append, piece-of, run-begins, run-line, run-has, rises, Reaches, reaches}

-- a line without length has no stamps
none-from : (at : ℕ) (ss : List Stamp) (s : Stamp) → IsLine at ss → end_of at ss ≡ at → has ss s ≡ true → ⊥
none-from at [] s l e h = false≢true h
none-from at (x ∷ ss) s l e h = let some : at < x.to = l.1 in let grows = line_grows x.to ss l.2 in absurd (omega arith)

module _ (story : Story) (old : CoreView) (s : CoreStands story old)
    (j : ℕ) (j_lt : j < length story.feeds) (some : 0 < story.parts) where
  abbrev At : ℕ
  At = agreed_of old.table j

  abbrev Run : List Stamp
  Run = ready_run old j

  line-run : IsLine At Run
  line-run = run-line story old s j j_lt some

  up : At ≤ ready old j
  up = rises story old s j j_lt some

  moved : (p : ℕ) → p < story.parts → (ready old j ≡ At) ⊎ Reaches story old s j j_lt p
  moved p p_lt = reaches story old s j j_lt p p_lt

  -- a stamp of the run is one of the present incarnation, by a piece of partition 0
  run-stamp : (x : Stamp) → has Run x ≡ true → IsHubStamp (length (feed_at story.feeds j)) j (story.bases j) x
  run-stamp x h =
      let ch = s.chains 0 j some j_lt in
      let line = s.each_line j j_lt in
      let found = piece-of (λ (y : Piece). IsHubPiece story.parts story.feeds 0 j (story.bases j) (chain_of old 0 j).inc y)
      (chain_of old 0 j).held x ch.held (run-has story old s j j_lt 0 some x h) in
      ⊎_elim (λ (e : ready old j ≡ At). absurd (none-from At Run x line-run e h))
      (λ (r : Reaches story old s j j_lt 0).
      let low = (s.rows 0 j some j_lt r.reported).kept in
      let same = r.inc in
      let present : inc_of old.table j ≤ (chain_of old 0 j).inc = omega arith in
      subst (IsHubStamp (length (feed_at story.feeds j)) j (story.bases j)) found.stamp
      (held-stamp found.piece found.holds present ch.kept line.count))
      (moved 0 some)
    where
      held-stamp : (y : Piece) → IsHubPiece story.parts story.feeds 0 j (story.bases j) (chain_of old 0 j).inc y
          → inc_of old.table j ≤ (chain_of old 0 j).inc → (chain_of old 0 j).inc ≤ inc_of old.table j
          → length (story.bases j) ≡ inc_of old.table j + 1 →
          IsHubStamp (length (feed_at story.feeds j)) j (story.bases j) y.stamp
      held-stamp y of present kept count =
          let inc = of.inc in
          let base = of.base in
          let after = of.fits.formed.after_base in
          record {
            node = of.node;
            transaction = record {
              some = of.fits.formed.some;
              few = of.fits.formed.few;
              inside = subst (λ (k : ℕ). y.stamp.to ≤ length (feed_at story.feeds k)) of.node of.fits.inside;
            };
            began = omega arith;
            begins = omega arith;
            ends = λ lt. of.ended (omega arith);
          }

  line-raise : IsHubLine (length (feed_at story.feeds j)) j (story.lines j ++ Run) (story.bases j) (inc_of old.table j) (ready old j)
  line-raise =
      let g = s.each_line j j_lt in
      record {
        run = IsLine-append 0 (story.lines j) Run g.run (subst (λ (n : ℕ). IsLine n Run) (sym g.ends) line-run);
        ends = end_of-append 0 (story.lines j) Run ∙ ap (λ (n : ℕ). end_of n Run) g.ends;
        stamps = λ x h. ⊎_elim (λ (k : has (story.lines j) x ≡ true). g.stamps x k) (λ (k : has Run x ≡ true). run-stamp x k)
            (has-either (story.lines j) Run x h);
        count = g.count;
        first = g.first;
        ordered = g.ordered;
        older = λ c le. let o = g.older c le in let more = up in omega arith;
      }

  chain-raise : (p : ℕ) → p < story.parts → IsHubChain story.parts story.feeds p j (story.lines j ++ Run) (story.bases j)
      (inc_of old.table j) (ready old j) (chain_of old p j)
  chain-raise p p_lt =
      let ch = chain_of old p j in
      let c = s.chains p j p_lt j_lt in
      let ss = stamps_of ch.held in
      let more = up in
      let low = c.floor in
      let split : upto (ready old j) ss ≡ upto At ss ++ Run = run-upto ch.floor At ss Run c.run.0 c.ends
      (run-begins story old s j j_lt p p_lt) in
      let to : end_of ch.floor (upto (ready old j) ss) ≡ ready old j =
      ap (end_of ch.floor) split ∙ (end_of-append ch.floor (upto At ss) Run
      ∙ ap (λ (n : ℕ). end_of n Run) (upto-end ch.floor At ss c.run.0 c.ends)) in
      let ends : IsEnd ch.floor ss (ready old j) =
      subst (IsEnd ch.floor ss) to (subst (λ ys. IsEnd ch.floor ys (end_of ch.floor (upto (ready old j) ss)))
      (upto-past (ready old j) ss)
      (front-end_of ch.floor (upto (ready old j) ss) (past (ready old j) ss))) in
      let within = end_within ch.floor ss (ready old j) c.run.0 ends in
      let top = c.run.1 in
      record {
        kept = c.kept;
        floor = omega arith;
        run = c.run;
        reached = omega arith;
        whole = split ∙ (ap (λ ys. ys ++ Run) c.whole ∙ sym (past-append ch.floor At (story.lines j) Run line-run low));
        ends = ends;
        held = c.held;
        early = c.early;
        early_inc = c.early_inc;
        seen = λ k k_le less. ⊎_elim (λ (same : ready old j ≡ At). c.seen k k_le (omega arith))
            (λ (r : Reaches story old s j j_lt p). let i = r.inc in let row = (s.rows p j p_lt j_lt r.reported).kept in
            omega arith) (moved p p_lt);
      }

  row-raise : (p : ℕ) → p < story.parts → (row_at old.table.rows p).reported ≡ true → IsHubRow j (inc_of old.table j) (ready old j)
      (chain_of old p j) (row_at old.table.rows p)
  row-raise p p_lt rep =
      let r = s.rows p j p_lt j_lt rep in
      record {
        kept = r.kept;
        top = λ e. ⊎_elim (λ (same : ready old j ≡ At). let t = r.top e in omega arith) (λ (x : Reaches story old s j j_lt p). x.top)
            (moved p p_lt);
        place = r.place;
      }

  end-raise : (k : ℕ) → k < length old.table.vectors → IsHubEnd (story.lines j ++ Run) (ready old j) (story.vectors k j)
      (end_at (vector_at old.table.vectors k) j)
  end-raise k k_lt =
      let v = s.ends k j k_lt j_lt in
      let low = v.within in
      let more = up in
      record {
        to = v.to;
        inc = v.inc ∙ sym (inc_at-append At (story.vectors k j) (story.lines j) Run line-run low);
        place = IsEnd-append 0 (story.lines j) Run (story.vectors k j) v.place;
        within = omega arith;
      }

  agreed-at : (i : ℕ) → agreed_of (with_raise old j).table i ≡ cond (eqb j i) (ready old j) (agreed_of old.table i)
  agreed-at i = get_or-set old.table.agreed j i (ready old j) 0 (let nodes = s.nodes_are in omega arith)

  line_at : (i : ℕ) → i < length story.feeds → (b : Bool) → eqb j i ≡ b → IsHubLine (length (feed_at story.feeds i)) i
      (cond b (story.lines i ++ Run) (story.lines i)) (story.bases i) (inc_of old.table i) (cond b (ready old j) (agreed_of old.table i))
  line_at i i_lt true e = subst (λ (k : ℕ). IsHubLine (length (feed_at story.feeds k)) k (story.lines k ++ Run) (story.bases k)
      (inc_of old.table k) (ready old j)) (eqb-true j i e) line-raise
  line_at i i_lt false e = s.each_line i i_lt

  chain_at_node : (p i : ℕ) → p < story.parts → i < length story.feeds → (b : Bool) → eqb j i ≡ b
      → IsHubChain story.parts story.feeds p i (cond b (story.lines i ++ Run) (story.lines i)) (story.bases i) (inc_of old.table i)
      (cond b (ready old j) (agreed_of old.table i)) (chain_of old p i)
  chain_at_node p i p_lt i_lt true e = subst (λ (k : ℕ). IsHubChain story.parts story.feeds p k (story.lines k ++ Run) (story.bases k)
      (inc_of old.table k) (ready old j) (chain_of old p k)) (eqb-true j i e) (chain-raise p p_lt)
  chain_at_node p i p_lt i_lt false e = s.chains p i p_lt i_lt

  row_at_node : (p i : ℕ) → p < story.parts → i < length story.feeds → (row_at old.table.rows p).reported ≡ true → (b : Bool) → eqb j i ≡ b
      → IsHubRow i (inc_of old.table i) (cond b (ready old j) (agreed_of old.table i)) (chain_of old p i) (row_at old.table.rows p)
  row_at_node p i p_lt i_lt r true e = subst (λ (k : ℕ). IsHubRow k (inc_of old.table k) (ready old j) (chain_of old p k)
      (row_at old.table.rows p)) (eqb-true j i e) (row-raise p p_lt r)
  row_at_node p i p_lt i_lt r false e = s.rows p i p_lt i_lt r

  end_at_node : (k i : ℕ) → k < length old.table.vectors → i < length story.feeds → (b : Bool) → eqb j i ≡ b
      → IsHubEnd (cond b (story.lines i ++ Run) (story.lines i)) (cond b (ready old j) (agreed_of old.table i)) (story.vectors k i)
      (end_at (vector_at old.table.vectors k) i)
  end_at_node k i k_lt i_lt true e = subst (λ (n : ℕ). IsHubEnd (story.lines n ++ Run) (ready old j) (story.vectors k n)
      (end_at (vector_at old.table.vectors k) n)) (eqb-true j i e) (end-raise k k_lt)
  end_at_node k i k_lt i_lt false e = s.ends k i k_lt i_lt

  pub raise-stands : IsCore (with_raise old j) → CoreStands (raised_story story j Run) (with_raise old j)
  raise-stands core = record {
    core = core;
    parts_are = s.parts_are;
    nodes_are = length-set old.table.agreed j (ready old j) ∙ s.nodes_are;
    each_line = λ i i_lt. subst (λ (n : ℕ). IsHubLine (length (feed_at story.feeds i)) i (grown story.lines j Run i) (story.bases i)
        (inc_of old.table i) n) (sym (agreed-at i)) (line_at i i_lt (eqb j i) refl);
    chains = λ p i p_lt i_lt. subst (λ (n : ℕ). IsHubChain story.parts story.feeds p i (grown story.lines j Run i) (story.bases i)
        (inc_of old.table i) n (chain_of old p i)) (sym (agreed-at i)) (chain_at_node p i p_lt i_lt (eqb j i) refl);
    rows = λ p i p_lt i_lt r. subst (λ (n : ℕ). IsHubRow i (inc_of old.table i) n (chain_of old p i) (row_at old.table.rows p))
        (sym (agreed-at i)) (row_at_node p i p_lt i_lt r (eqb j i) refl);
    floors = s.floors;
    start = s.start;
    grow = s.grow;
    ends = λ k i k_lt i_lt. subst (λ (n : ℕ). IsHubEnd (grown story.lines j Run i) n (story.vectors k i)
        (end_at (vector_at old.table.vectors k) i)) (sym (agreed-at i)) (end_at_node k i k_lt i_lt (eqb j i) refl);
  }
