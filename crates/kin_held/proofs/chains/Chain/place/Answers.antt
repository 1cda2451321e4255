use Rattle.std.proofs.Common.{◌≡◌, ◌++◌, ◌∷◌, [], sym, ◌∙◌, eqb}
use Rattle.std.proofs.lemmas.List.Sorted.{All-permutation, list_any-IsPermutation}
use Rattle.std.proofs.lemmas.List.Elements.{All-cons}
use Rattle.std.proofs.lemmas.Bool.{or_from, ne_eqb}
use Rattle.kin_ids.specs.declared.ops.Piece.{Piece}
use Rattle.kin_ids.specs.Operations.{IsWellFormed}
use Rattle.kin_held.specs.Chains.{IsRun}
use Rattle.kin_held.proofs.Pieces.{IsRun-push, IsRun-append, All-split}
use Rattle.kin_held.proofs.chains.Chain.place.Goals as goal

-- the piece joined, and early ones after it
pub invariant_of-self-then-stamp-self-2 : goal.invariant_of-self-then-stamp-self-2
invariant_of-self-then-stamp-self-2 c =
    let old = c.self.inside in
    let piece = c.args.piece in
    let joins = c.join-self-inside.ensures.joins in
    let pushed : c.push_reserved.new.self.items ≡ old.held.items ++ piece ∷ [] = rw c.in_ok-reserve.ensures.items at c.push_reserved.ensures.items in
    let first : IsRun old.floor (old.held.items ++ piece ∷ []) piece.stamp.to = IsRun-push old.floor old.top old.held.items piece c.self.invariant.run c.if-stamp-self-2.true c.requires.some in
    record {
      run = rw (joins.1, pushed) (IsRun-append old.floor piece.stamp.to c.join-self-inside.result (old.held.items ++ piece ∷ []) joins.0 first joins.2.run);
      formed = All-split IsWellFormed old.early joins.0 c.join-self-inside.new.early joins.2.split c.self.invariant.formed;
      ascending = c.join-self-inside.ensures.ascending;
      settled = joins.2.settled;
    }

pub returns-then-stamp-self-2-clause-chain : goal.returns-then-stamp-self-2-clause-chain
returns-then-stamp-self-2-clause-chain c = invariant_of-self-then-stamp-self-2 c

-- the piece is early
pub invariant_of-self-2 : goal.invariant_of-self-2
invariant_of-self-2 c =
    let old = c.self.inside in
    record {
      run = c.self.invariant.run;
      formed = All-permutation IsWellFormed (c.args.piece ∷ old.early) c.add.new.self c.in_ok-add.ensures.ok (All-cons IsWellFormed c.args.piece old.early c.requires c.self.invariant.formed);
      ascending = c.add.ensures.ascending;
      settled = sym (list_any-IsPermutation (λ (p : Piece). eqb p.stamp.from old.top) (c.args.piece ∷ old.early) c.add.new.self c.in_ok-add.ensures.ok)
          ∙ or_from _ _ (ne_eqb _ _ c.if-stamp-self-2.false) c.self.invariant.settled;
    }

pub returns-clause-chain : goal.returns-clause-chain
returns-clause-chain c = invariant_of-self-2 c
