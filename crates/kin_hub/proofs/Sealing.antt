-- A core that ends a node's incarnation stands for the same with one more base.
use Rattle.std.proofs.Common.{◌≡◌, ℕ, ◌+◌, ◌<◌, ◌≤◌, Bool, true, false, cond, eqb, ⊎_elim, List, [], ◌∷◌, ◌++◌, refl, sym, ◌∙◌, ap}
use Rattle.std.proofs.Common.{subst, arith, length, get_or}
use Rattle.std.proofs.lemmas.Bool.{eqb-true, cases_lt}
use Rattle.std.proofs.lemmas.List.{get_or_append_left, get_or_push, length_push}
use Rattle.std.proofs.lemmas.List.Elements.{All-weaker}
use Rattle.kin_ids.specs.declared.ids.Inc.{Inc}
use Rattle.kin_ids.specs.declared.stamps.Stamp.{Stamp}
use Rattle.kin_ids.specs.declared.ops.Record.{Record}
use Rattle.kin_ids.specs.declared.ops.Piece.{Piece}
use Rattle.kin_ids.specs.Lines.{has}
use Rattle.kin_ids.specs.Order.{feed_at}
use Rattle.kin_ids.proofs.Lines.{lies}
use Rattle.kin_held.specs.Chains.{ChainView}
use Rattle.kin_table.specs.Tables.{RowView, row_at, agreed_of, inc_of}
use Rattle.kin_hub.specs.Cores.{CoreView, IsCore, chain_of, with_seal}
use Rattle.kin_hub.specs.Lines.{base_of, IsHubStamp, IsHubLine, IsHubPiece, IsHubChain, IsHubRow}
use Rattle.kin_hub.specs.Stands.{Story, CoreStands}
use Rattle.kin_hub.specs.Goes.{based, sealed_story}
use Rattle.kin_ids.proofs.Rounds.{get_or-set}

of_choice : (b : Bool) (x y : Inc) → (cond b x y).0 ≡ cond b x.0 y.0
of_choice true x y = refl
of_choice false x y = refl

-- bases of a node with one more
module _ (len i : ℕ) (line : List Stamp) (bases : List ℕ) (inc agreed : ℕ) (lined : IsHubLine len i line bases inc agreed) where
  abbrev More : List ℕ
  More = bases ++ agreed ∷ []

  old_base : (c : ℕ) → c ≤ inc → base_of More c ≡ base_of bases c
  old_base c le = get_or_append_left bases (agreed ∷ []) 0 c (let n = lined.count in omega arith)

  new_base : base_of More (inc + 1) ≡ agreed
  new_base = get_or_push bases agreed 0 (inc + 1) lined.count

  older : (c : ℕ) → c ≤ inc + 1 → base_of More c ≤ agreed
  older c le = ⊎_elim (λ (lo : c < inc + 1). let x = old_base c (omega arith) in let o = lined.older c (omega arith) in omega arith)
      (λ (hi : inc + 1 ≤ c). let same : inc + 1 ≡ c = omega arith in let top = ap (base_of More) (sym same) ∙ new_base in omega arith)
      (cases_lt c (inc + 1))

  stamps : (s : Stamp) → has line s ≡ true → IsHubStamp len i More s
  stamps s h =
      let g = lined.stamps s h in
      let began = g.began in
      let count = lined.count in
      let more : length More ≡ length bases + 1 = length_push bases agreed in
      let begins : base_of More s.inc.0 ≡ base_of bases s.inc.0 = old_base s.inc.0 (omega arith) in
      let first = g.begins in
      record {
        node = g.node;
        transaction = g.transaction;
        began = omega arith;
        begins = omega arith;
        ends = λ lt. ⊎_elim (λ (lo : s.inc.0 + 1 < length bases). let x = old_base (s.inc.0 + 1) (omega arith) in let y = g.ends lo in
            omega arith)
            (λ (hi : length bases ≤ s.inc.0 + 1).
            let same : inc + 1 ≡ s.inc.0 + 1 = omega arith in
            let top : base_of More (s.inc.0 + 1) ≡ agreed = ap (base_of More) (sym same) ∙ new_base in
            let to = (lies 0 line s lined.run h).to in
            let end = lined.ends in
            omega arith)
            (cases_lt (s.inc.0 + 1) (length bases));
      }

  pub line-seal : IsHubLine len i line More (inc + 1) agreed
  line-seal = record {
    run = lined.run;
    ends = lined.ends;
    stamps = stamps;
    count = length_push bases agreed ∙ ap (λ (n : ℕ). n + 1) lined.count;
    first = old_base 0 (omega arith) ∙ lined.first;
    ordered = λ c d cd le. ⊎_elim (λ (lo : d < inc + 1). let x = old_base c (omega arith) in let y = old_base d (omega arith) in
        let o = lined.ordered c d cd (omega arith) in omega arith)
        (λ (hi : inc + 1 ≤ d). let same : inc + 1 ≡ d = omega arith in let top = ap (base_of More) (sym same) ∙ new_base in
        let o = older c (omega arith) in omega arith)
        (cases_lt d (inc + 1));
    older = older;
  }

  module _ (parts : ℕ) (feeds : List (List Record)) (p : ℕ) (chain : ChainView)
      (ch : IsHubChain parts feeds p i line bases inc agreed chain) where
    still : (x : Piece) → IsHubPiece parts feeds p i bases chain.inc x → IsHubPiece parts feeds p i More chain.inc x
    still x of =
        let kept = ch.kept in
        let low = of.inc in
        record {
          fits = of.fits;
          part = of.part;
          node = of.node;
          inc = of.inc;
          base = of.base ∙ sym (old_base x.stamp.inc.0 (omega arith));
          ended = λ less. let e = old_base (x.stamp.inc.0 + 1) (omega arith) in let y = of.ended less in omega arith;
        }

    pub chain-seal : IsHubChain parts feeds p i line More (inc + 1) agreed chain
    chain-seal = record {
      kept = (let kept = ch.kept in omega arith);
      floor = ch.floor;
      run = ch.run;
      reached = ch.reached;
      whole = ch.whole;
      ends = ch.ends;
      held = All-weaker (λ (x : Piece). IsHubPiece parts feeds p i bases chain.inc x)
          (λ (x : Piece). IsHubPiece parts feeds p i More chain.inc x) still chain.held ch.held;
      early = All-weaker (λ (x : Piece). IsHubPiece parts feeds p i bases chain.inc x)
          (λ (x : Piece). IsHubPiece parts feeds p i More chain.inc x) still chain.early ch.early;
      early_inc = ch.early_inc;
      seen = λ c le less. ⊎_elim (λ (lo : c < inc + 1). let x = old_base c (omega arith) in ch.seen c (omega arith) (omega arith))
          (λ (hi : inc + 1 ≤ c). let same : inc + 1 ≡ c = omega arith in let top = ap (base_of More) (sym same) ∙ new_base in
          absurd (omega arith))
          (cases_lt c (inc + 1));
    }

    pub row-seal : (row : RowView) → IsHubRow i inc agreed chain row → IsHubRow i (inc + 1) agreed chain row
    row-seal row r =
        let kept = ch.kept in
        let low = r.kept in
        record { kept = r.kept; top = λ e. absurd (omega arith); place = λ e. absurd (omega arith) }

module _ (story : Story) (old : CoreView) (s : CoreStands story old) (j : ℕ) (j_lt : j < length story.feeds) where
  inc_at : (i : ℕ) → inc_of (with_seal old j).table i ≡ cond (eqb j i) (inc_of old.table j + 1) (inc_of old.table i)
  inc_at i = ap (λ (c : Inc). c.0) (get_or-set old.table.incs j i (record { 0 = inc_of old.table j + 1 }) (record { 0 = 0 })
      (let incs = s.core.table.incs in let nodes = s.nodes_are in omega arith))
      ∙ of_choice (eqb j i) (record { 0 = inc_of old.table j + 1 }) (get_or old.table.incs i (record { 0 = 0 }))

  line_at : (i : ℕ) → i < length story.feeds → (b : Bool) → eqb j i ≡ b →
      IsHubLine (length (feed_at story.feeds i)) i (story.lines i) (cond b (story.bases i ++ agreed_of old.table j ∷ []) (story.bases i))
      (cond b (inc_of old.table j + 1) (inc_of old.table i)) (agreed_of old.table i)
  line_at i i_lt true e = subst (λ (k : ℕ). IsHubLine (length (feed_at story.feeds i)) i (story.lines i)
      (story.bases i ++ agreed_of old.table k ∷ []) (inc_of old.table k + 1) (agreed_of old.table i)) (sym (eqb-true j i e))
      (line-seal (length (feed_at story.feeds i)) i (story.lines i) (story.bases i) (inc_of old.table i) (agreed_of old.table i)
      (s.each_line i i_lt))
  line_at i i_lt false e = s.each_line i i_lt

  chain_at_node : (p i : ℕ) → p < story.parts → i < length story.feeds → (b : Bool) → eqb j i ≡ b →
      IsHubChain story.parts story.feeds p i (story.lines i) (cond b (story.bases i ++ agreed_of old.table j ∷ []) (story.bases i))
      (cond b (inc_of old.table j + 1) (inc_of old.table i)) (agreed_of old.table i) (chain_of old p i)
  chain_at_node p i p_lt i_lt true e = subst (λ (k : ℕ). IsHubChain story.parts story.feeds p i (story.lines i)
      (story.bases i ++ agreed_of old.table k ∷ []) (inc_of old.table k + 1) (agreed_of old.table i) (chain_of old p i))
      (sym (eqb-true j i e))
      (chain-seal (length (feed_at story.feeds i)) i (story.lines i) (story.bases i) (inc_of old.table i) (agreed_of old.table i)
      (s.each_line i i_lt) story.parts story.feeds p (chain_of old p i) (s.chains p i p_lt i_lt))
  chain_at_node p i p_lt i_lt false e = s.chains p i p_lt i_lt

  row_at_node : (p i : ℕ) → p < story.parts → i < length story.feeds → (row_at old.table.rows p).reported ≡ true → (b : Bool) → eqb j i ≡ b
      →
      IsHubRow i (cond b (inc_of old.table j + 1) (inc_of old.table i)) (agreed_of old.table i) (chain_of old p i) (row_at old.table.rows p)
  row_at_node p i p_lt i_lt r true e = subst (λ (k : ℕ). IsHubRow i (inc_of old.table k + 1) (agreed_of old.table i) (chain_of old p i)
      (row_at old.table.rows p)) (sym (eqb-true j i e))
      (row-seal (length (feed_at story.feeds i)) i (story.lines i) (story.bases i) (inc_of old.table i) (agreed_of old.table i)
      (s.each_line i i_lt) story.parts story.feeds p (chain_of old p i) (s.chains p i p_lt i_lt) (row_at old.table.rows p)
      (s.rows p i p_lt i_lt r))
  row_at_node p i p_lt i_lt r false e = s.rows p i p_lt i_lt r

  pub seal-stands : IsCore (with_seal old j) → CoreStands (sealed_story story j (agreed_of old.table j)) (with_seal old j)
  seal-stands core = record {
    core = core;
    parts_are = s.parts_are;
    nodes_are = s.nodes_are;
    each_line = λ i i_lt. subst (λ (n : ℕ). IsHubLine (length (feed_at story.feeds i)) i (story.lines i)
        (based story.bases j (agreed_of old.table j) i) n (agreed_of old.table i)) (sym (inc_at i)) (line_at i i_lt (eqb j i) refl);
    chains = λ p i p_lt i_lt. subst (λ (n : ℕ). IsHubChain story.parts story.feeds p i (story.lines i)
        (based story.bases j (agreed_of old.table j) i) n (agreed_of old.table i) (chain_of old p i)) (sym (inc_at i))
        (chain_at_node p i p_lt i_lt (eqb j i) refl);
    rows = λ p i p_lt i_lt r. subst (λ (n : ℕ). IsHubRow i n (agreed_of old.table i) (chain_of old p i) (row_at old.table.rows p))
        (sym (inc_at i)) (row_at_node p i p_lt i_lt r (eqb j i) refl);
    floors = s.floors;
    start = s.start;
    grow = s.grow;
    ends = s.ends;
  }
