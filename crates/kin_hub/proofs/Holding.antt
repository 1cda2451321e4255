-- A core in which one partition's chains change.
use Rattle.std.proofs.Common.{◌≡◌, ℕ, ◌<◌, ◌≤◌, Bool, true, false, cond, eqb, List, [], refl, sym, ◌∙◌, subst, arith, length, set}
use Rattle.std.proofs.lemmas.Bool.{eqb-true}
use Rattle.std.proofs.lemmas.List.{length-set}
use Rattle.kin_ids.specs.declared.stamps.Stamp.{Stamp}
use Rattle.kin_ids.specs.declared.ops.Record.{Record}
use Rattle.kin_held.specs.Chains.{ChainView, chain_at}
use Rattle.kin_table.specs.Tables.{row_at, agreed_of, inc_of, cuts_of}
use Rattle.kin_hub.specs.Cores.{CoreView, IsCore, held_at}
use Rattle.kin_hub.specs.Lines.{IsHubChain, IsHubRow}
use Rattle.kin_hub.specs.Stands.{Story, CoreStands}
use Rattle.kin_ids.proofs.Rounds.{get_or-set}

module _ (story : Story) (old : CoreView) (s : CoreStands story old) where
  -- what a chain of partition p and node i is
  abbrev pub ChainFor : ℕ → ℕ → ChainView → Type 0
  ChainFor p i ch = IsHubChain story.parts story.feeds p i (story.lines i) (story.bases i) (inc_of old.table i) (agreed_of old.table i) ch

  abbrev pub RowFor : ℕ → ℕ → ChainView → Type 0
  RowFor p i ch = IsHubRow i (inc_of old.table i) (agreed_of old.table i) ch (row_at old.table.rows p)

  -- there is a chain of each node
  pub node-in : (p i : ℕ) → p < story.parts → i < length story.feeds → i < length (held_at old.helds p)
  node-in p i p_lt i_lt = let count = s.parts_are in let nodes = s.nodes_are in let each = s.core.chains p [] (omega arith) in omega arith

  module _ (q : ℕ) (q_lt : q < story.parts) (held : List ChainView) (chains : (i : ℕ) → i < length story.feeds
      → ChainFor q i (chain_at held i))
      (rows : (i : ℕ) → i < length story.feeds → (row_at old.table.rows q).reported ≡ true → RowFor q i (chain_at held i))
      (floors : (i : ℕ) → i < length story.feeds → (chain_at held i).floor ≤ story.vectors (cuts_of old.table) i) where
    held-is : (p : ℕ) → held_at (set old.helds q held) p ≡ cond (eqb q p) held (held_at old.helds p)
    held-is p = get_or-set old.helds q p held [] (let count = s.parts_are in omega arith)

    chain_part : (p i : ℕ) → p < story.parts → i < length story.feeds → (b : Bool) → eqb q p ≡ b
        → ChainFor p i (chain_at (cond b held (held_at old.helds p)) i)
    chain_part p i p_lt i_lt true e = subst (λ (k : ℕ). ChainFor k i (chain_at held i)) (eqb-true q p e) (chains i i_lt)
    chain_part p i p_lt i_lt false e = s.chains p i p_lt i_lt

    row_part : (p i : ℕ) → p < story.parts → i < length story.feeds → (row_at old.table.rows p).reported ≡ true → (b : Bool) → eqb q p ≡ b
        → RowFor p i (chain_at (cond b held (held_at old.helds p)) i)
    row_part p i p_lt i_lt r true e =
        subst (λ (k : ℕ). (row_at old.table.rows k).reported ≡ true → RowFor k i (chain_at held i)) (eqb-true q p e) (λ h. rows i i_lt h) r
    row_part p i p_lt i_lt r false e = s.rows p i p_lt i_lt r

    floor_part : (p i : ℕ) → p < story.parts → i < length story.feeds → (b : Bool) → eqb q p ≡ b
        → (chain_at (cond b held (held_at old.helds p)) i).floor ≤ story.vectors (cuts_of old.table) i
    floor_part p i p_lt i_lt true e = floors i i_lt
    floor_part p i p_lt i_lt false e = s.floors p i p_lt i_lt

    pub held-stands : IsCore (record old { helds = set old.helds q held }) → CoreStands story (record old { helds = set old.helds q held })
    held-stands core = record {
      core = core;
      parts_are = length-set old.helds q held ∙ s.parts_are;
      nodes_are = s.nodes_are;
      each_line = s.each_line;
      chains = λ p i p_lt i_lt. subst (λ hs. ChainFor p i (chain_at hs i)) (sym (held-is p)) (chain_part p i p_lt i_lt (eqb q p) refl);
      rows = λ p i p_lt i_lt r. subst (λ hs. RowFor p i (chain_at hs i)) (sym (held-is p)) (row_part p i p_lt i_lt r (eqb q p) refl);
      floors = λ p i p_lt i_lt. subst (λ (hs : List ChainView). (chain_at hs i).floor ≤ story.vectors (cuts_of old.table) i)
          (sym (held-is p)) (floor_part p i p_lt i_lt (eqb q p) refl);
      start = s.start;
      grow = s.grow;
      ends = s.ends;
    }
