-- A core that cuts an epoch stands for the same with one more vector.
use Rattle.std.proofs.Common.{◌≡◌, ◌≢◌, ℕ, ◌+◌, ◌-◌, ◌<◌, ◌≤◌, Bool, true, false, cond, eqb, leb, ⊎_elim, List, [], ◌∷◌, ◌++◌, Option}
use Rattle.std.proofs.Common.{Some, None, refl, sym, ◌∙◌, ap, subst, arith, length}
use Rattle.std.proofs.lemmas.Bool.{cond_both, cond-true, cond-false, eqb-true, eqb-false, eq-eqb, ne_eqb, cases_lt, leb-true}
use Rattle.std.proofs.lemmas.List.{get_or_append_left, get_or_push, length_push}
use Rattle.std.proofs.lemmas.List.FromFn.{get_or-map-range_with_len}
use Rattle.kin_ids.specs.declared.stamps.Stamp.{Stamp}
use Rattle.kin_ids.specs.declared.ops.Record.{Record}
use Rattle.kin_ids.specs.Lines.{stamps_of, past, IsEnd}
use Rattle.kin_ids.specs.Fair.{fair}
use Rattle.kin_ids.proofs.Lines.{end_grows, end_within, upto_past, past_past, past-line, end-past}
use Rattle.kin_ids.proofs.Turns.{fair-end, fair-alike}
use Rattle.kin_table.specs.Vectors.{end_at, vector_at}
use Rattle.kin_table.specs.Lists.{list_at}
use Rattle.kin_table.specs.Ends.{inc_at, end_of_cut}
use Rattle.kin_table.specs.Cuts.{IsNextCut, next_position}
use Rattle.kin_table.specs.declared.cuts.Cut.{Cut}
use Rattle.kin_table.specs.Tables.{agreed_of, cuts_of, last_of}
use Rattle.kin_hub.specs.Cores.{CoreView, IsCore, chain_of, stamps_between, since_cut, with_cut}
use Rattle.kin_hub.specs.Lines.{IsHubEnd}
use Rattle.kin_hub.specs.Cuts.{next_at, with_next}
use Rattle.kin_hub.specs.Stands.{Story, CoreStands}
use Rattle.kin_hub.proofs.Reporting.{line-end}

-- no stamp up to a position ends past it
inc_at-past : (a v : ℕ) (ss : List Stamp) → a < v → inc_at (past a ss) v ≡ inc_at ss v
inc_at-past a v [] lt = refl
inc_at-past a v (s ∷ ss) lt = cond_both (leb s.to a) (past a ss) (s ∷ ss) (λ ys. inc_at ys v ≡ inc_at (s ∷ ss) v)
    (λ t. let low = leb-true _ _ t in inc_at-past a v ss lt
    ∙ sym (cond-false (eqb s.to v) s.inc.0 (inc_at ss v) (ne_eqb _ _ (λ e. absurd (omega arith))))) (λ _. refl)

module _ (story : Story) (old : CoreView) (s : CoreStands story old) (some : 0 < story.parts) where
  abbrev Last : ℕ
  Last = cuts_of old.table

  last-in : Last < length old.table.vectors
  last-in = let one = s.core.table.some in omega arith

  -- the last vector, as the table has it
  pub last-is : (i : ℕ) → i < length story.feeds → (last_of old.table i).to ≡ story.vectors Last i
  last-is i i_lt = (s.ends Last i last-in i_lt).to

  pub last-low : (i : ℕ) → i < length story.feeds → (last_of old.table i).to ≤ agreed_of old.table i
  last-low i i_lt = let e = last-is i i_lt in let w = (s.ends Last i last-in i_lt).within in omega arith

  -- what partition 0 holds past a position at or past the last vector is the line there
  pub since-is : (i from : ℕ) → i < length story.feeds → story.vectors Last i ≤ from → from ≤ agreed_of old.table i
      → stamps_between (chain_of old 0 i) from (agreed_of old.table i) ≡ past from (story.lines i)
  since-is i from i_lt after ahead =
      let ch = chain_of old 0 i in
      let low = s.floors 0 i some i_lt in
      upto_past (agreed_of old.table i) from (stamps_of ch.held) ahead
      ∙ (ap (past from) (s.chains 0 i some i_lt).whole ∙ past_past ch.floor from (story.lines i) (omega arith))

  pub list-is : (i : ℕ) → i < length story.feeds → list_at (since_cut old) i ≡ past (story.vectors Last i) (story.lines i)
  list-is i i_lt =
      let at : ℕ → List Stamp = λ j. stamps_between (chain_of old 0 j) (last_of old.table j).to (agreed_of old.table j) in
      let nodes = s.nodes_are in
      let e : (last_of old.table i).to ≡ story.vectors Last i = last-is i i_lt in
      let w = (s.ends Last i last-in i_lt).within in
      get_or-map-range_with_len at 0 (length old.table.agreed) i i [] (omega arith) (omega arith)
      ∙ (ap (λ (m : ℕ). stamps_between (chain_of old 0 i) m (agreed_of old.table i)) e
      ∙ since-is i (story.vectors Last i) i_lt (omega arith) w)

  abbrev Next : Option ℕ → ℕ → ℕ
  Next n i = next_at (length story.feeds) (story.vectors Last) story.lines (agreed_of old.table) n i

  -- where the next vector is at a node: an end of its line, at or past the last one
  record IsNext (i at : ℕ) : Type 0 where
    pub place : IsEnd 0 (story.lines i) at
    pub from : story.vectors Last i ≤ at
    pub to : at ≤ agreed_of old.table i

  next-in : (i at : ℕ) → i < length story.feeds → IsEnd 0 (story.lines i) at → story.vectors Last i ≤ at → IsNext i at
  next-in i at i_lt place from =
      let line = s.each_line i i_lt in
      let within = end_within 0 (story.lines i) at line.run place in
      let end = line.ends in
      record { place = place; from = from; to = omega arith }

  next-is : (n : Option ℕ) (i : ℕ) → i < length story.feeds → IsNext i (Next n i)
  next-is None i i_lt =
      let line = s.each_line i i_lt in
      next-in i (agreed_of old.table i) i_lt (subst (IsEnd 0 (story.lines i)) line.ends (line-end 0 (story.lines i)))
      (s.ends Last i last-in i_lt).within
  next-is (Some m) i i_lt =
      let line = s.each_line i i_lt in
      let place = (s.ends Last i last-in i_lt).place in
      let rest = past (story.vectors Last i) (story.lines i) in
      let end : IsEnd (story.vectors Last i) rest (Next (Some m) i) =
      fair-end (story.vectors Last) (λ j. past (story.vectors Last j) (story.lines j)) (length story.feeds) m i i_lt in
      next-in i (Next (Some m) i) i_lt (end-past 0 (story.vectors Last i) (Next (Some m) i) (story.lines i) line.run place end)
      (end_grows (story.vectors Last i) rest (Next (Some m) i) (past-line 0 (story.vectors Last i) (story.lines i) line.run place) end)

  -- the table's next position is that
  position-is : (n : Option ℕ) (i : ℕ) → i < length story.feeds → next_position old.table n (since_cut old) i ≡ Next n i
  position-is None i i_lt = refl
  position-is (Some m) i i_lt =
      ap (λ nodes. fair (λ j. (last_of old.table j).to) (list_at (since_cut old)) nodes m i) s.nodes_are
      ∙ fair-alike (λ j. (last_of old.table j).to) (story.vectors Last) (list_at (since_cut old))
      (λ j. past (story.vectors Last j) (story.lines j)) (length story.feeds) m i (last-is i i_lt) list-is

  end-at : (i at : ℕ) → i < length story.feeds → IsNext i at → (b : Bool) → eqb at (last_of old.table i).to ≡ b →
      IsHubEnd (story.lines i) (agreed_of old.table i) at
      (cond b (last_of old.table i) (record { inc = record { 0 = inc_at (past (story.vectors Last i) (story.lines i)) at }; to = at }))
  end-at i at i_lt next true e = subst (λ (m : ℕ). IsHubEnd (story.lines i) (agreed_of old.table i) m (last_of old.table i))
      (sym (eqb-true _ _ e ∙ last-is i i_lt)) (s.ends Last i last-in i_lt)
  end-at i at i_lt next false e =
      let from = next.from in
      let last = last-is i i_lt in
      let ne : at ≢ (last_of old.table i).to = eqb-false at (last_of old.table i).to e in
      record { to = refl; inc = inc_at-past (story.vectors Last i) at (story.lines i) (omega arith); place = next.place; within = next.to }

  module _ (n : Option ℕ) (cut : Cut) (is : IsNextCut old.table n (since_cut old) cut) where
    abbrev Vectors : ℕ → ℕ → ℕ
    Vectors = with_next story.vectors (Last + 1) (Next n)

    end-new : (i : ℕ) → i < length story.feeds → IsHubEnd (story.lines i) (agreed_of old.table i) (Next n i) (end_at cut.ends i)
    end-new i i_lt =
        let nodes = s.nodes_are in
        subst (IsHubEnd (story.lines i) (agreed_of old.table i) (Next n i))
        (sym (is.ends i (omega arith) ∙ (ap (λ at. end_of_cut (last_of old.table i) (list_at (since_cut old) i) at) (position-is n i i_lt)
        ∙ ap (λ ss. end_of_cut (last_of old.table i) ss (Next n i)) (list-is i i_lt))))
        (end-at i (Next n i) i_lt (next-is n i i_lt) (eqb (Next n i) (last_of old.table i).to) refl)

    at-old : (k i : ℕ) → k ≤ Last → Vectors k i ≡ story.vectors k i
    at-old k i le = cond-false (eqb k (Last + 1)) _ _ (ne_eqb _ _ (λ e. absurd (omega arith)))

    at-new : (i : ℕ) → Vectors (Last + 1) i ≡ Next n i
    at-new i = cond-true (eqb (Last + 1) (Last + 1)) _ _ (eq-eqb (Last + 1) (Last + 1) refl)

    count : length old.table.vectors ≡ Last + 1
    count = let one = s.core.table.some in omega arith

    longer : length (old.table.vectors ++ cut.ends ∷ []) ≡ Last + 2
    longer = let c = count in omega (arith, length_push old.table.vectors cut.ends)

    grows : (k i : ℕ) → k + 1 < length (old.table.vectors ++ cut.ends ∷ []) → i < length story.feeds → Vectors k i ≤ Vectors (k + 1) i
    grows k i k_lt i_lt =
        let l = longer in
        let c = count in
        ⊎_elim (λ (lo : k < Last). let a = at-old k i (omega arith) in let b = at-old (k + 1) i (omega arith) in
        let g = s.grow k i (omega arith) i_lt in omega arith)
        (λ (hi : Last ≤ k).
        let same : k ≡ Last = omega arith in
        let a = at-old Last i (omega arith) in
        let b = at-new i in
        let from = (next-is n i i_lt).from in
        subst (λ (m : ℕ). Vectors m i ≤ Vectors (m + 1) i) (sym same) (omega arith))
        (cases_lt k Last)

    end-all : (k i : ℕ) → k < length (old.table.vectors ++ cut.ends ∷ []) → i < length story.feeds
        → IsHubEnd (story.lines i) (agreed_of old.table i) (Vectors k i) (end_at (vector_at (old.table.vectors ++ cut.ends ∷ []) k) i)
    end-all k i k_lt i_lt =
        let l = longer in
        let c = count in
        ⊎_elim (λ (lo : k < Last + 1).
        rw (at-old k i (omega arith), get_or_append_left old.table.vectors (cut.ends ∷ []) [] k (omega arith))
        (s.ends k i (omega arith) i_lt))
        (λ (hi : Last + 1 ≤ k).
        let same : k ≡ Last + 1 = omega arith in
        subst (λ (m : ℕ). IsHubEnd (story.lines i) (agreed_of old.table i) (Vectors m i)
        (end_at (vector_at (old.table.vectors ++ cut.ends ∷ []) m) i)) (sym same)
        (rw (at-new i, get_or_push old.table.vectors cut.ends [] (Last + 1) count) (end-new i i_lt)))
        (cases_lt k (Last + 1))

    floor : (p i : ℕ) → p < story.parts → i < length story.feeds
        → (chain_of old p i).floor ≤ Vectors (length (old.table.vectors ++ cut.ends ∷ []) - 1) i
    floor p i p_lt i_lt =
        let l = longer in
        let same : length (old.table.vectors ++ cut.ends ∷ []) - 1 ≡ Last + 1 = omega arith in
        let low = s.floors p i p_lt i_lt in
        let from = (next-is n i i_lt).from in
        let b = at-new i in
        subst (λ (m : ℕ). (chain_of old p i).floor ≤ Vectors m i) (sym same) (omega arith)

    pub cut-stands : IsCore (with_cut old cut.ends) → CoreStands (record story { vectors = Vectors }) (with_cut old cut.ends)
    cut-stands core = record {
      core = core;
      parts_are = s.parts_are;
      nodes_are = s.nodes_are;
      each_line = s.each_line;
      chains = s.chains;
      rows = s.rows;
      floors = floor;
      start = λ i i_lt. at-old 0 i (omega arith) ∙ s.start i i_lt;
      grow = grows;
      ends = end-all;
    }
