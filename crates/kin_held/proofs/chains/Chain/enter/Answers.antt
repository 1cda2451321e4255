use Rattle.std.proofs.Common.{◌≡◌, ◌<◌, ℕ, ◌++◌, ◌∷◌, [], List, inr, sym, ◌∙◌, ap, subst, refl, arith}
use Rattle.std.proofs.lemmas.Bool.{or_from, ne_eqb, lt-leb}
use Rattle.std.proofs.lemmas.List.Elements.{All-cons, All-nil}
use Rattle.std.proofs.lemmas.List.Sorted.{IsPermutation-refl}
use Rattle.kin_ids.specs.declared.ops.Piece.{Piece}
use Rattle.kin_ids.specs.Operations.{IsWellFormed}
use Rattle.kin_ids.specs.Lines.{IsEnd, stamps_of}
use Rattle.kin_held.specs.Chains.{ChainView, pieces_upto}
use Rattle.kin_held.specs.Takes.{Enters}
use Rattle.kin_held.specs.declared.answers.Taken.TheVariants.{Held, Early}
use Rattle.kin_held.proofs.Pieces.{IsRun-push}
use Rattle.kin_held.proofs.Cuts.{IsRun-pieces_upto}
use Rattle.kin_held.proofs.chains.Chain.enter.Goals as goal

abbrev chain_of : ℕ → ℕ → ℕ → List Piece → List Piece → ChainView
chain_of inc floor top held early = record { inc = inc; floor = floor; top = top; held = held; early = early }

-- the piece is early under its incarnation
pub invariant_of-self-then-stamp-base : goal.invariant_of-self-then-stamp-base
invariant_of-self-then-stamp-base c =
    let old = c.self.inside in
    let piece = c.args.piece in
    let place : IsEnd old.floor (stamps_of old.held.items) piece.base = rw c.as_slice.ensures at c.in-Some.ensures.place in
    let cut : c.truncate.new.self.items ≡ pieces_upto piece.base old.held.items = c.truncate.ensures.items ∙ rw c.as_slice.ensures at c.in-Some.ensures.front in
    record {
      run = rw cut (IsRun-pieces_upto old.floor piece.base old.top old.held.items c.self.invariant.run place);
      formed = rw c.in_ok-keep_only.ensures.ok (All-cons IsWellFormed piece [] c.requires.formed (All-nil IsWellFormed));
      ascending = rw c.in_ok-keep_only.ensures.ok (λ i j d lt within. absurd (omega arith));
      settled = rw c.in_ok-keep_only.ensures.ok (or_from _ _ (ne_eqb _ _ c.if-stamp-base.true) refl);
    }

pub returns-then-stamp-base-clause-taken : goal.returns-then-stamp-base-clause-taken
returns-then-stamp-base-clause-taken c =
    let old = c.self.inside in
    let piece = c.args.piece in
    let new : ChainView = chain_of piece.stamp.inc.0 old.floor piece.base c.truncate.new.self.items c.keep_only.new.self in
    let place : IsEnd old.floor (stamps_of old.held.items) piece.base = rw c.as_slice.ensures at c.in-Some.ensures.place in
    let cut : c.truncate.new.self.items ≡ pieces_upto piece.base old.held.items = c.truncate.ensures.items ∙ rw c.as_slice.ensures at c.in-Some.ensures.front in
    let later : old.inc.0 < piece.stamp.inc.0 = subst (λ (v : ChainView). v.inc < piece.stamp.inc.0) (sym c.self.view_is) c.requires.later in
    let past : piece.base < piece.stamp.to = (let a = c.requires.formed.after_base in let b = c.requires.formed.some in omega arith) in
    subst (λ (v : ChainView). Enters v piece (Early piece.base) new) c.self.view_is (inr (
      later,
      place,
      (
        or_from _ _ (lt-leb _ _ past) refl,
        c.if-stamp-base.true,
        refl,
        record {
          same = ap (λ (ps : List Piece). chain_of piece.stamp.inc.0 old.floor piece.base ps c.keep_only.new.self) cut;
          early = rw c.in_ok-keep_only.ensures.ok (IsPermutation-refl (piece ∷ []));
        },
      ),
    ))

pub returns-then-stamp-base-clause-chain : goal.returns-then-stamp-base-clause-chain
returns-then-stamp-base-clause-chain c = invariant_of-self-then-stamp-base c

-- the piece joined under its incarnation
pub invariant_of-self-2 : goal.invariant_of-self-2
invariant_of-self-2 c =
    let old = c.self.inside in
    let piece = c.args.piece in
    let place : IsEnd old.floor (stamps_of old.held.items) piece.base = rw c.as_slice.ensures at c.in-Some.ensures.place in
    let front = rw c.as_slice.ensures at c.in-Some.ensures.front in
    let cut : c.truncate-2.new.self.items ≡ pieces_upto piece.base old.held.items = rw c.in_ok-reserve.ensures.items at c.truncate-2.ensures.items ∙ front in
    let pushed : c.push_reserved.new.self.items ≡ pieces_upto piece.base old.held.items ++ piece ∷ [] = rw cut at c.push_reserved.ensures.items in
    record {
      run = rw pushed (IsRun-push old.floor piece.base (pieces_upto piece.base old.held.items) piece (IsRun-pieces_upto old.floor piece.base old.top old.held.items c.self.invariant.run place) c.if-stamp-base.false c.requires.formed.some);
      formed = rw c.clear.ensures (All-nil IsWellFormed);
      ascending = rw c.clear.ensures (λ i j d lt within. absurd (omega arith));
      settled = rw c.clear.ensures refl;
    }

pub returns-clause-taken : goal.returns-clause-taken
returns-clause-taken c =
    let old = c.self.inside in
    let piece = c.args.piece in
    let new : ChainView = chain_of piece.stamp.inc.0 old.floor piece.stamp.to c.push_reserved.new.self.items c.clear.new.self in
    let place : IsEnd old.floor (stamps_of old.held.items) piece.base = rw c.as_slice.ensures at c.in-Some.ensures.place in
    let front = rw c.as_slice.ensures at c.in-Some.ensures.front in
    let cut : c.truncate-2.new.self.items ≡ pieces_upto piece.base old.held.items = rw c.in_ok-reserve.ensures.items at c.truncate-2.ensures.items ∙ front in
    let pushed : c.push_reserved.new.self.items ≡ pieces_upto piece.base old.held.items ++ piece ∷ [] = rw cut at c.push_reserved.ensures.items in
    let later : old.inc.0 < piece.stamp.inc.0 = subst (λ (v : ChainView). v.inc < piece.stamp.inc.0) (sym c.self.view_is) c.requires.later in
    let past : piece.base < piece.stamp.to = (let a = c.requires.formed.after_base in let b = c.requires.formed.some in omega arith) in
    subst (λ (v : ChainView). Enters v piece (Held piece.stamp.to) new) c.self.view_is (inr (
      later,
      place,
      (
        or_from _ _ (lt-leb _ _ past) refl,
        c.if-stamp-base.false,
        refl,
        record {
          inc = refl;
          floor = refl;
          joined = [];
          held = pushed;
          joins = record { run = (tt, refl); split = rw c.clear.ensures (IsPermutation-refl []); settled = rw c.clear.ensures refl };
        },
      ),
    ))

pub returns-clause-chain : goal.returns-clause-chain
returns-clause-chain c = invariant_of-self-2 c
