-- A core that takes a piece that is known stands for the same as before.
use Rattle.std.proofs.Common.{◌≡◌, ℕ, ◌<◌, ◌≤◌, Bool, true, false, cond, eqb, List, refl, sym, ◌∙◌, ap, subst, arith, length}
use Rattle.std.proofs.lemmas.Bool.{eqb-true}
use Rattle.kin_ids.specs.declared.stamps.Stamp.{Stamp}
use Rattle.kin_ids.specs.declared.ops.Record.{Record}
use Rattle.kin_ids.specs.declared.ops.Piece.{Piece}
use Rattle.kin_ids.specs.Order.{feed_at}
use Rattle.kin_ids.specs.Operations.{Fits}
use Rattle.kin_held.specs.Chains.{ChainView, chain_at, no_chain}
use Rattle.kin_held.specs.declared.answers.Taken.{Taken}
use Rattle.kin_table.specs.Tables.{row_at, inc_of, cuts_of}
use Rattle.kin_hub.specs.Cores.{CoreView, IsCore, CoreTakes, held_at, chain_of}
use Rattle.kin_hub.specs.Lines.{base_of}
use Rattle.kin_hub.specs.Stands.{Story, CoreStands}
use Rattle.kin_held.proofs.Kept.{takes-all}
use Rattle.kin_ids.proofs.Rounds.{get_or-set}
use Rattle.kin_hub.proofs.Placing.{takes-chain, takes-row}
use Rattle.kin_hub.proofs.Holding.{ChainFor, RowFor, node-in, held-stands}

module _ (story : Story) (old : CoreView) (s : CoreStands story old)
    (x : Piece) (n_lt : x.stamp.ingest.0 < length story.feeds) (q_lt : x.part.0 < story.parts) (fits : Fits story.parts story.feeds x)
    (le : x.stamp.inc.0 ≤ inc_of old.table x.stamp.ingest.0)
    (base : x.base ≡ base_of (story.bases x.stamp.ingest.0) x.stamp.inc.0) (t : Taken) (new : CoreView)
    (takes : CoreTakes old x t new) where
  abbrev Chain : ℕ → ChainView → Type 0
  Chain i ch = ChainFor story old s x.part.0 i ch

  abbrev Row : ℕ → ChainView → Type 0
  Row i ch = RowFor story old s x.part.0 i ch

  chain-is : (i : ℕ) → chain_at takes.0 i ≡ cond (eqb x.stamp.ingest.0 i) takes.1.0 (chain_of old x.part.0 i)
  chain-is i = ap (λ cs. chain_at cs i) takes.1.2
      ∙ get_or-set (held_at old.helds x.part.0) x.stamp.ingest.0 i takes.1.0 no_chain
      (node-in story old s x.part.0 x.stamp.ingest.0 q_lt n_lt)

  chain_node : (i : ℕ) → i < length story.feeds → (b : Bool) → eqb x.stamp.ingest.0 i ≡ b
      → Chain i (cond b takes.1.0 (chain_of old x.part.0 i))
  chain_node i i_lt true e = subst (λ (k : ℕ). Chain k takes.1.0) (eqb-true _ _ e)
      (takes-chain story.parts story.feeds x.part.0 x.stamp.ingest.0 (length (feed_at story.feeds x.stamp.ingest.0))
      (story.lines x.stamp.ingest.0) (story.bases x.stamp.ingest.0) _ _ (s.each_line x.stamp.ingest.0 n_lt)
      (chain_of old x.part.0 x.stamp.ingest.0) x (s.chains x.part.0 x.stamp.ingest.0 q_lt n_lt) fits refl refl le base t takes.1.0
      takes.1.1)
  chain_node i i_lt false e = s.chains x.part.0 i q_lt i_lt

  row_node : (i : ℕ) → i < length story.feeds → (row_at old.table.rows x.part.0).reported ≡ true → (b : Bool) → eqb x.stamp.ingest.0 i ≡ b
      → Row i (cond b takes.1.0 (chain_of old x.part.0 i))
  row_node i i_lt r true e = subst (λ (k : ℕ). Row k takes.1.0) (eqb-true _ _ e)
      (takes-row x.stamp.ingest.0 _ _ (row_at old.table.rows x.part.0) (chain_of old x.part.0 x.stamp.ingest.0) x t takes.1.0
      (s.rows x.part.0 x.stamp.ingest.0 q_lt n_lt r) le takes.1.1)
  row_node i i_lt r false e = s.rows x.part.0 i q_lt i_lt r

  -- the floor stays
  floor_node : (i : ℕ) → i < length story.feeds → (b : Bool) → eqb x.stamp.ingest.0 i ≡ b
      → (cond b takes.1.0 (chain_of old x.part.0 i)).floor ≤ story.vectors (cuts_of old.table) i
  floor_node i i_lt true e =
      let n = x.stamp.ingest.0 in
      let kept = takes-all (λ (y : Piece). Unit {0}) (chain_of old x.part.0 n) x t takes.1.0 (λ k d lt. tt) (λ k d lt. tt) tt takes.1.1 in
      let low = s.floors x.part.0 n q_lt n_lt in
      let same : takes.1.0.floor ≡ (chain_of old x.part.0 n).floor = kept.floor in
      subst (λ (k : ℕ). takes.1.0.floor ≤ story.vectors (cuts_of old.table) k) (eqb-true _ _ e) (omega arith)
  floor_node i i_lt false e = s.floors x.part.0 i q_lt i_lt

  pub take-stands : IsCore new → CoreStands story new
  take-stands core = subst (CoreStands story) (sym takes.2)
      (held-stands story old s x.part.0 q_lt takes.0
      (λ i i_lt. subst (Chain i) (sym (chain-is i)) (chain_node i i_lt (eqb x.stamp.ingest.0 i) refl))
      (λ i i_lt r. subst (Row i) (sym (chain-is i)) (row_node i i_lt r (eqb x.stamp.ingest.0 i) refl))
      (λ i i_lt. subst (λ (ch : ChainView). ch.floor ≤ story.vectors (cuts_of old.table) i) (sym (chain-is i))
      (floor_node i i_lt (eqb x.stamp.ingest.0 i) refl))
      (subst IsCore takes.2 core))
