-- What an epoch's pieces make of a partition's store.
use Rattle.std.proofs.Common.{◌≡◌, ℕ, zero, suc, ◌+◌, ◌<◌, ◌≤◌, Bool, true, false, cond, eqb, List, [], ◌∷◌, ◌++◌, refl, sym, ◌∙◌, ap}
use Rattle.std.proofs.Common.{subst, arith, length, get_or, take, drop}
use Rattle.std.specs.List.{All, AllByRecursion}
use Rattle.std.specs.Prelude.{filter}
use Rattle.std.proofs.lemmas.Bool.{cond_both, eqb-true}
use Rattle.std.proofs.lemmas.List.{take_more, take-append-drop}
use Rattle.std.proofs.lemmas.List.Elements.{All-nil, All-append, All-head, All-tail}
use Rattle.kin_ids.specs.declared.ids.User.{User}
use Rattle.kin_ids.specs.declared.ops.Op.{Op}
use Rattle.kin_ids.specs.declared.ops.Op.TheVariants as op
use Rattle.kin_ids.specs.declared.ops.Numbered.{Numbered}
use Rattle.kin_ids.specs.declared.ops.Piece.{Piece}
use Rattle.kin_ids.specs.declared.ops.Record.{Record}
use Rattle.kin_ids.specs.declared.stamps.End.{End}
use Rattle.kin_ids.specs.declared.stamps.Place.{Place}
use Rattle.kin_ids.specs.Users.{same_user}
use Rattle.kin_ids.specs.Graph.{Graph}
use Rattle.kin_ids.specs.Order.{feed_at, entries, between, of_epoch, folded}
use Rattle.kin_ids.specs.Operations.{op_part, all_ops, part_ops}
use Rattle.kin_ids.specs.Parts.{PartView, IsPart, op_applied, ops_applied}
use Rattle.kin_ids.proofs.Joins.{folded-append}
use Rattle.kin_ids.proofs.Same.{same_user-true}
use Rattle.kin_ids.proofs.PartOps.{ops-say, part-home}
use Rattle.kin_ids.proofs.Runs as runs
use Rattle.kin_ids.proofs.Runs.{HasOps, pieces-part}
use Rattle.kin_graph.specs.State.{PartState}
use Rattle.kin_held.specs.Chains.{ChainView, chain_at, IsRun, pieces_upto}
use Rattle.kin_table.specs.Vectors.{end_at}
use Rattle.kin_blocks.specs.Blocks.{pieces_applied, IsOfStore}
use Rattle.kin_blocks.proofs.Applying.{pieces-append}
use Rattle.kin_hub.specs.Commits.{epoch_pieces}
use Rattle.kin_hub.specs.Lines.{IsHubPiece}

-- what holds of each node's pieces holds of all of the epoch's
pub All-epoch_pieces : (P : Piece → Type 0) (held : List ChainView) (ends : List End) (n : ℕ)
    → ((i : ℕ) → i < n → All P (pieces_upto (end_at ends i).to (chain_at held i).held)) → All P (epoch_pieces held ends n)
All-epoch_pieces P held ends zero all = All-nil P
All-epoch_pieces P held ends (suc n) all = All-append P (epoch_pieces held ends n) (pieces_upto (end_at ends n).to (chain_at held n).held)
    (All-epoch_pieces P held ends n (λ i lt. all i (omega arith))) (all n (omega arith))

module _ (parts : ℕ) (feeds : List (List Record)) (p i : ℕ) (bases : List ℕ) (kept : ℕ) where
  abbrev Of : Piece → Type 0
  Of x = IsHubPiece parts feeds p i bases kept x

  -- a piece that a partition keeps is one of its store
  pub of-store : (s : PartState) → s.part ≡ p → s.parts ≡ parts → (x : Piece) → Of x → IsOfStore s x
  of-store s part count x of = record {
    part = of.part ∙ sym part;
    home = subst (λ (n : ℕ). All (λ (y : Numbered). op_part n y.op ≡ s.part) x.ops) (sym count)
        (subst (λ (q : ℕ). All (λ (y : Numbered). op_part parts y.op ≡ q) x.ops) (sym part)
        (subst (All (λ (y : Numbered). op_part parts y.op ≡ p))
        (sym (of.fits.exact ∙ ap (λ (q : ℕ). part_ops parts q x.stamp.from
        (between (feed_at feeds x.stamp.ingest.0) x.stamp.from x.stamp.to)) of.part))
        (part-home parts p x.stamp.from (between (feed_at feeds x.stamp.ingest.0) x.stamp.from x.stamp.to))));
  }

  has-ops : (x : Piece) → Of x → HasOps parts p (feed_at feeds i) x
  has-ops x of = of.fits.exact ∙ (ap (λ (q : ℕ). part_ops parts q x.stamp.from
      (between (feed_at feeds x.stamp.ingest.0) x.stamp.from x.stamp.to)) of.part
      ∙ ap (λ (j : ℕ). part_ops parts p x.stamp.from (between (feed_at feeds j) x.stamp.from x.stamp.to)) of.node)

  all-ops : (xs : List Piece) → All Of xs → AllByRecursion (HasOps parts p (feed_at feeds i)) xs
  all-ops [] all = tt
  all-ops (x ∷ xs) all = (has-ops x (All-head Of x xs all), all-ops xs (All-tail Of x xs all))

  -- their operations are those of the node
  pieces-are : (e : ℕ) (v : PartView) (xs : List Piece) → All Of xs → pieces_applied e v xs ≡ runs.pieces_applied e i v xs
  pieces-are e v [] all = refl
  pieces-are e v (x ∷ xs) all =
      ap (λ (j : ℕ). pieces_applied e (ops_applied e j v x.ops) xs) (All-head Of x xs all).node ∙ pieces-are e (ops_applied e i v x.ops) xs
      (All-tail Of x xs all)

  -- a run of pieces takes the part of a graph to the part of the graph after the run's records
  pub run-part : (e at to : ℕ) (xs : List Piece) (g : Graph) (v : PartView) → IsRun at xs to → All Of xs → IsPart parts p g v →
      IsPart parts p (folded g (entries e i at (between (feed_at feeds i) at to))) (pieces_applied e v xs)
  run-part e at to xs g v run all part =
      subst (λ (w : PartView). IsPart parts p (folded g (entries e i at (between (feed_at feeds i) at to))) w) (sym (pieces-are e v xs all))
      (subst (λ (n : ℕ). IsPart parts p (folded g (entries e i at (between (feed_at feeds i) at n))) (runs.pieces_applied e i v xs)) run.1
      (pieces-part parts p e i (feed_at feeds i) at xs g v run.0 (all-ops xs all) part))

-- the pieces of the first n nodes, each from one position to another
pub nodes-part : (parts : ℕ) (feeds : List (List Record)) (p e : ℕ) (held : List ChainView) (ends : List End) (was now : ℕ → ℕ) (bases : ℕ
    → List ℕ) (kept : ℕ → ℕ) (g : Graph) (v : PartView) (n : ℕ) →
    ((i : ℕ) → i < n → IsRun (was i) (pieces_upto (end_at ends i).to (chain_at held i).held) (now i)) →
    ((i : ℕ) → i < n → All (λ (x : Piece). IsHubPiece parts feeds p i (bases i) (kept i) x)
    (pieces_upto (end_at ends i).to (chain_at held i).held)) →
    IsPart parts p g v → IsPart parts p (folded g (of_epoch feeds e was now n)) (pieces_applied e v (epoch_pieces held ends n))
nodes-part parts feeds p e held ends was now bases kept g v zero runs all part = part
nodes-part parts feeds p e held ends was now bases kept g v (suc n) runs all part =
    let before = nodes-part parts feeds p e held ends was now bases kept g v n (λ i lt. runs i (omega arith))
    (λ i lt. all i (omega arith)) part in
    let more = pieces_upto (end_at ends n).to (chain_at held n).held in
    subst (λ (graph : Graph). IsPart parts p graph (pieces_applied e v (epoch_pieces held ends (suc n))))
    (sym (folded-append g (of_epoch feeds e was now n) (entries e n (was n) (between (feed_at feeds n) (was n) (now n)))))
    (subst (λ (w : PartView). IsPart parts p
    (folded (folded g (of_epoch feeds e was now n)) (entries e n (was n) (between (feed_at feeds n) (was n) (now n)))) w)
    (sym (pieces-append e v (epoch_pieces held ends n) more))
    (run-part parts feeds p n (bases n) (kept n) e (was n) (now n) more (folded g (of_epoch feeds e was now n))
    (pieces_applied e v (epoch_pieces held ends n)) (runs n (omega arith)) (all n (omega arith)) before))
