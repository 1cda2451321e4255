-- A core before anything came stands for no lines.
use Rattle.std.proofs.Common.{◌≡◌, ℕ, zero, suc, ◌<◌, false, List, [], ◌∷◌, refl, sym, ◌∙◌, ap, arith, length, get_or, replicate}
use Rattle.std.proofs.lemmas.Bool.{false≢true}
use Rattle.std.proofs.lemmas.List.{length-replicate, get_or-replicate}
use Rattle.std.proofs.lemmas.List.Elements.{All-nil}
use Rattle.kin_ids.specs.declared.ids.Inc.{Inc}
use Rattle.kin_ids.specs.declared.ops.Record.{Record}
use Rattle.kin_ids.specs.declared.ops.Piece.{Piece}
use Rattle.kin_ids.specs.Order.{feed_at}
use Rattle.kin_held.specs.Chains.{ChainView, no_chain, chain_at}
use Rattle.kin_table.specs.Vectors.{no_end, end_at, vector_at}
use Rattle.kin_table.specs.Tables.{RowView, no_report, row_at, first_table, agreed_of, inc_of}
use Rattle.kin_hub.specs.Cores.{IsCore, chain_of}
use Rattle.kin_hub.specs.Lines.{base_of, IsHubLine, IsHubPiece, IsHubChain, IsHubEnd}
use Rattle.kin_hub.specs.Stands.{CoreStands}
use Rattle.kin_hub.specs.Opens.{first_core, first_story}

same : {X : Type 0} (n i : ℕ) (x : X) → get_or (replicate n x) i x ≡ x
same zero i x = refl
same (suc n) zero x = refl
same (suc n) (suc i) x = same n i x

zero_base : (c : ℕ) → ◌≡◌ {A = ℕ} (base_of (0 ∷ []) c) 0
zero_base zero = refl
zero_base (suc c) = refl

no_line : (len i : ℕ) → IsHubLine len i [] (0 ∷ []) 0 0
no_line len i = record {
  run = tt;
  ends = refl;
  stamps = λ s h. absurd (false≢true h);
  count = refl;
  first = refl;
  ordered = λ c d _ _. let a = zero_base c in let b = zero_base d in omega arith;
  older = λ c _. let a = zero_base c in omega arith;
}

empty_chain : (parts : ℕ) (feeds : List (List Record)) (p i : ℕ) → IsHubChain parts feeds p i [] (0 ∷ []) 0 0 no_chain
empty_chain parts feeds p i = record {
  kept = omega arith;
  floor = omega arith;
  run = (tt, refl);
  reached = omega arith;
  whole = refl;
  ends = refl;
  held = All-nil (λ (x : Piece). IsHubPiece parts feeds p i (0 ∷ []) 0 x);
  early = All-nil (λ (x : Piece). IsHubPiece parts feeds p i (0 ∷ []) 0 x);
  early_inc = All-nil (λ (x : Piece). x.stamp.inc.0 ≡ 0);
  seen = λ c le less. let a = zero_base c in absurd (omega arith);
}

first_end : IsHubEnd [] 0 0 no_end
first_end = record { to = refl; inc = refl; place = refl; within = omega arith }

module _ (nodes parts : ℕ) (feeds : List (List Record)) (same_count : length feeds ≡ nodes) where
  inc-is : (i : ℕ) → inc_of (first_table nodes parts) i ≡ 0
  inc-is i = ap (λ (c : Inc). c.0) (same nodes i (record { 0 = 0 }))

  agreed-is : (i : ℕ) → agreed_of (first_table nodes parts) i ≡ 0
  agreed-is i = same nodes i 0

  chain-is : (p i : ℕ) → p < parts → chain_of (first_core nodes parts) p i ≡ no_chain
  chain-is p i lt = ap (λ cs. chain_at cs i) (get_or-replicate parts p (replicate nodes no_chain) [] lt) ∙ same nodes i no_chain

  pub first-floor : (p i : ℕ) → p < parts → (chain_of (first_core nodes parts) p i).floor ≡ 0
  first-floor p i lt = ap (λ (c : ChainView). c.floor) (chain-is p i lt)

  row-is : (p : ℕ) → p < parts → (row_at (first_table nodes parts).rows p).reported ≡ false
  row-is p lt = ap (λ (r : RowView). r.reported) (get_or-replicate parts p (no_report nodes) (no_report 0) lt)

  end-is : (k i : ℕ) → k < 1 → end_at (vector_at (first_table nodes parts).vectors k) i ≡ no_end
  end-is zero i lt = same nodes i no_end
  end-is (suc k) i lt = absurd (omega arith)

  pub opens-stands : IsCore (first_core nodes parts) → CoreStands (first_story feeds parts) (first_core nodes parts)
  opens-stands core = record {
    core = core;
    parts_are = length-replicate parts (replicate nodes no_chain);
    nodes_are = length-replicate nodes 0 ∙ sym same_count;
    each_line = λ i i_lt. rw (inc-is i, agreed-is i) (no_line (length (feed_at feeds i)) i);
    chains = λ p i p_lt i_lt. rw (inc-is i, agreed-is i, chain-is p i p_lt) (empty_chain parts feeds p i);
    rows = λ p i p_lt i_lt r. absurd (false≢true (sym (row-is p p_lt) ∙ r));
    floors = λ p i p_lt i_lt. rw (chain-is p i p_lt) (omega arith);
    start = λ i i_lt. refl;
    grow = λ k i k_lt i_lt. omega arith;
    ends = λ k i k_lt i_lt. rw (agreed-is i, end-is k i k_lt) first_end;
  }
