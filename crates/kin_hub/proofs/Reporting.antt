-- A core whose partition reports stands for the same as before.
use Rattle.std.proofs.Common.{◌≡◌, ℕ, ◌<◌, Bool, true, false, cond, eqb, List, [], refl, sym, ap, subst, arith, length, get_or, set}
use Rattle.std.specs.Prelude.{map}
use Rattle.std.proofs.lemmas.Bool.{eqb-true}
use Rattle.std.proofs.lemmas.List.{get_or-map, append-nil}
use Rattle.kin_ids.specs.declared.ids.Inc.{Inc}
use Rattle.kin_ids.specs.declared.stamps.Stamp.{Stamp}
use Rattle.kin_ids.specs.declared.ops.Record.{Record}
use Rattle.kin_ids.specs.Lines.{end_of, stamps_of, IsEnd}
use Rattle.kin_ids.proofs.Turns.{front-end_of}
use Rattle.kin_held.specs.Chains.{ChainView, no_chain}
use Rattle.kin_table.specs.Tables.{RowView, row_at, no_report, agreed_of, inc_of, inc_in}
use Rattle.kin_hub.specs.Cores.{CoreView, IsCore, held_at, chain_of, kept_inc, row_of, with_report}
use Rattle.kin_hub.specs.Lines.{IsHubRow}
use Rattle.kin_hub.specs.Stands.{Story, CoreStands}
use Rattle.kin_ids.proofs.Rounds.{get_or-set}
use Rattle.kin_hub.proofs.Holding.{node-in}

-- where a line ends is an end of it
pub line-end : (at : ℕ) (ss : List Stamp) → IsEnd at ss (end_of at ss)
line-end at ss = subst (λ ys. IsEnd at ys (end_of at ss)) (append-nil ss) (front-end_of at ss [])

module _ (story : Story) (old : CoreView) (s : CoreStands story old) (p : ℕ) (p_lt : p < story.parts) where
  abbrev Row : ℕ → ℕ → RowView → Type 0
  Row q i row = IsHubRow i (inc_of old.table i) (agreed_of old.table i) (chain_of old q i) row

  at_row : (q : ℕ) → row_at (set old.table.rows p (row_of (held_at old.helds p))) q ≡ cond (eqb p q) (row_of (held_at old.helds p))
      (row_at old.table.rows q)
  at_row q = get_or-set old.table.rows p q (row_of (held_at old.helds p)) (no_report 0) (let rows = s.core.parts in
      let count = s.parts_are in omega arith)

  own : (i : ℕ) → i < length story.feeds → Row p i (row_of (held_at old.helds p))
  own i i_lt =
      let held = held_at old.helds p in
      let ch = s.chains p i p_lt i_lt in
      let node = node-in story old s p i p_lt i_lt in
      let inc_is : inc_in (map kept_inc held) i ≡ (chain_of old p i).inc =
      ap (λ (c : Inc). c.0) (get_or-map kept_inc held i no_chain (record { 0 = 0 }) node) in
      let top : ChainView → ℕ = λ chain. chain.top in
      let top_is : get_or (map top held) i 0 ≡ (chain_of old p i).top = get_or-map top held i no_chain 0 node in
      record {
        kept = omega arith;
        top = λ _. let reached = ch.reached in omega arith;
        place = λ _. rw top_is (subst (IsEnd (chain_of old p i).floor (stamps_of (chain_of old p i).held)) ch.run.1
            (line-end (chain_of old p i).floor (stamps_of (chain_of old p i).held)));
      }

  here : (q i : ℕ) → q < story.parts → i < length story.feeds → (b : Bool) → eqb p q ≡ b
      → (cond b (row_of (held_at old.helds p)) (row_at old.table.rows q)).reported ≡ true
      → Row q i (cond b (row_of (held_at old.helds p)) (row_at old.table.rows q))
  here q i q_lt i_lt true e r = subst (λ (k : ℕ). Row k i (row_of (held_at old.helds p))) (eqb-true p q e) (own i i_lt)
  here q i q_lt i_lt false e r = s.rows q i q_lt i_lt r

  pub report-stands : IsCore (with_report old p) → CoreStands story (with_report old p)
  report-stands core = record {
    core = core;
    parts_are = s.parts_are;
    nodes_are = s.nodes_are;
    each_line = s.each_line;
    chains = s.chains;
    rows = λ q i q_lt i_lt r. subst (Row q i) (sym (at_row q))
        (here q i q_lt i_lt (eqb p q) refl (subst (λ (row : RowView). row.reported ≡ true) (at_row q) r));
    floors = s.floors;
    start = s.start;
    grow = s.grow;
    ends = s.ends;
  }
