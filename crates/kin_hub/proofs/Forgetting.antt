-- A core whose partition lets go of agreed pieces stands for the same as before.
use Rattle.std.proofs.Common.{◌≡◌, ℕ, ◌<◌, ◌≤◌, List, sym, ◌∙◌, ap, subst, arith, length, get_or}
use Rattle.kin_ids.specs.declared.stamps.Stamp.{Stamp}
use Rattle.kin_ids.specs.declared.stamps.End.{End}
use Rattle.kin_ids.specs.declared.ops.Record.{Record}
use Rattle.kin_ids.specs.declared.ops.Piece.{Piece}
use Rattle.kin_ids.specs.Lines.{stamps_of, upto, past, IsEnd}
use Rattle.kin_ids.proofs.Lines.{end_grows, upto_past, past_past, past_end}
use Rattle.kin_held.specs.Chains.{ChainView, chain_at}
use Rattle.kin_held.specs.Takes.{IsPlace, chain_past}
use Rattle.kin_held.proofs.Pieces.{stamps_of-pieces_past}
use Rattle.kin_held.proofs.Cuts.{IsRun-pieces_past}
use Rattle.kin_held.proofs.Kept.{All-pieces_past}
use Rattle.kin_table.specs.Vectors.{end_at}
use Rattle.kin_table.specs.Tables.{RowView, agreed_of, inc_of, cuts_of, row_at}
use Rattle.kin_hub.specs.Cores.{CoreView, IsCore, chain_of}
use Rattle.kin_hub.specs.Lines.{IsHubPiece, IsHubChain, IsHubRow}
use Rattle.kin_hub.specs.Stands.{Story, CoreStands}
use Rattle.kin_hub.specs.Commits.{CoreForgets}
use Rattle.kin_hub.proofs.Holding.{ChainFor, RowFor, node-in, held-stands}

module _ (parts : ℕ) (feeds : List (List Record)) (p i : ℕ) (line : List Stamp) (bases : List ℕ) (inc agreed : ℕ) (ch : ChainView) (to : ℕ)
    (c : IsHubChain parts feeds p i line bases inc agreed ch) (place : IsPlace ch to) (le : to ≤ agreed) where
  forgets-chain : IsHubChain parts feeds p i line bases inc agreed (chain_past ch to)
  forgets-chain =
      let low = end_grows ch.floor (stamps_of ch.held) to c.run.0 place in
      record {
        kept = c.kept;
        floor = le;
        run = IsRun-pieces_past ch.floor to ch.top ch.held c.run place;
        reached = c.reached;
        whole = ap (upto agreed) (stamps_of-pieces_past to ch.held)
            ∙ (upto_past agreed to (stamps_of ch.held) le ∙ (ap (past to) c.whole ∙ past_past ch.floor to line low));
        ends = subst (λ (ss : List Stamp). IsEnd to ss agreed) (sym (stamps_of-pieces_past to ch.held))
            (past_end ch.floor to agreed (stamps_of ch.held) c.run.0 place c.ends le);
        held = All-pieces_past (λ (x : Piece). IsHubPiece parts feeds p i bases ch.inc x) to ch.held c.held;
        early = c.early;
        early_inc = c.early_inc;
        seen = c.seen;
      }

  forgets-row : (row : RowView) → IsHubRow i inc agreed ch row → IsHubRow i inc agreed (chain_past ch to) row
  forgets-row row r = record {
    kept = r.kept;
    top = r.top;
    place = λ same. let high = r.top same in
        subst (λ (ss : List Stamp). IsEnd to ss (get_or row.tops i 0)) (sym (stamps_of-pieces_past to ch.held))
        (past_end ch.floor to (get_or row.tops i 0) (stamps_of ch.held) c.run.0 place (r.place same) (omega arith));
  }

-- a position to which a partition may let go of a node's pieces
pub record MayForget (c : CoreView) (vectors : ℕ → ℕ → ℕ) (p i to : ℕ) : Type 0 where
  pub place : IsPlace (chain_of c p i) to
  pub agreed : to ≤ agreed_of c.table i
  pub cut : to ≤ vectors (cuts_of c.table) i

pub forget-stands : (story : Story) (old : CoreView) (s : CoreStands story old) (p : ℕ) (ends : List End) (new : CoreView) → p < story.parts
    →
    ((i : ℕ) → i < length story.feeds → MayForget old story.vectors p i (end_at ends i).to) → CoreForgets old p ends new → IsCore new
    → CoreStands story new
forget-stands story old s p ends new p_lt may f core =
    subst (CoreStands story) (sym f.2)
    (held-stands story old s p p_lt f.0
    (λ i i_lt. subst (ChainFor story old s p i) (sym (is i i_lt)) (forgets-chain story.parts story.feeds p i (story.lines i) (story.bases i)
    (inc_of old.table i) (agreed_of old.table i) (chain_of old p i) (to i) (s.chains p i p_lt i_lt) (may i i_lt).place
    (may i i_lt).agreed))
    (λ i i_lt r. subst (RowFor story old s p i) (sym (is i i_lt))
    (forgets-row story.parts story.feeds p i (story.lines i) (story.bases i) (inc_of old.table i) (agreed_of old.table i) (chain_of old p i)
    (to i) (s.chains p i p_lt i_lt) (may i i_lt).place (may i i_lt).agreed (row_at old.table.rows p) (s.rows p i p_lt i_lt r)))
    (λ i i_lt. subst (λ (ch : ChainView). ch.floor ≤ story.vectors (cuts_of old.table) i) (sym (is i i_lt)) (may i i_lt).cut)
    (subst IsCore f.2 core))
  where
    to : ℕ → ℕ
    to i = (end_at ends i).to

    is : (i : ℕ) → i < length story.feeds → chain_at f.0 i ≡ chain_past (chain_of old p i) (end_at ends i).to
    is i i_lt = f.1.each i (node-in story old s p i p_lt i_lt)
