-- A chain that takes a piece that is known stands for the same as before.
use Rattle.std.proofs.Common.{◌≡◌, ℕ, ◌+◌, ◌<◌, ◌≤◌, leb, ⊎_elim, List, [], ◌∷◌, ◌++◌, refl, sym, ◌∙◌, ap, subst, arith, append_assoc}
use Rattle.std.proofs.Common.{get_or}
use Rattle.std.specs.Prelude.{All}
use Rattle.std.proofs.lemmas.Bool.{cond_both, leb-true, cases_lt}
use Rattle.std.proofs.lemmas.List.Elements.{All-nil, All-cons, All-head, All-tail, All-weaker}
use Rattle.std.proofs.lemmas.List.Sorted.{All-permutation}
use Rattle.kin_ids.specs.declared.stamps.Stamp.{Stamp}
use Rattle.kin_ids.specs.declared.ops.Record.{Record}
use Rattle.kin_ids.specs.declared.ops.Piece.{Piece}
use Rattle.kin_ids.specs.Lines.{end_of, stamps_of, upto, past, IsEnd}
use Rattle.kin_ids.specs.Operations.{Fits}
use Rattle.kin_ids.proofs.Lines.{line_grows, upto-append, upto-none, upto-upto, upto-ends, IsEnd-append}
use Rattle.kin_held.specs.Chains.{ChainView, IsRun, pieces_upto}
use Rattle.kin_held.specs.Takes.{Takes, Enters, Places, IsPlace, entered}
use Rattle.kin_held.specs.declared.answers.Taken.{Taken}
use Rattle.kin_held.specs.declared.answers.Taken.TheVariants as taken
use Rattle.kin_held.proofs.Pieces.{stamps_of-append, stamps_of-pieces_upto, IsRun-append, IsRun-push, All-split}
use Rattle.kin_held.proofs.Cuts.{IsRun-pieces_upto}
use Rattle.kin_held.proofs.Kept.{places-all}
use Rattle.kin_table.specs.Tables.{RowView, inc_in}
use Rattle.kin_hub.specs.Lines.{base_of, IsHubLine, IsHubPiece, IsHubChain, IsHubRow}

-- the pieces up to a position end at or before it
pieces-within : (P : Piece → Type 0) (at : ℕ) (ps : List Piece) → All P ps → All (λ (x : Piece). P x × (x.stamp.to ≤ at))
    (pieces_upto at ps)
pieces-within P at [] all = All-nil (λ (x : Piece). P x × (x.stamp.to ≤ at))
pieces-within P at (p ∷ ps) all = cond_both (leb p.stamp.to at) (p ∷ pieces_upto at ps) []
    (λ qs. All (λ (x : Piece). P x × (x.stamp.to ≤ at)) qs)
    (λ t. All-cons (λ (x : Piece). P x × (x.stamp.to ≤ at)) p (pieces_upto at ps) (All-head P p ps all, leb-true _ _ t)
    (pieces-within P at ps (All-tail P p ps all)))
    (λ _. All-nil (λ (x : Piece). P x × (x.stamp.to ≤ at)))

module _ (parts : ℕ) (feeds : List (List Record)) (p i len : ℕ) (line : List Stamp) (bases : List ℕ) (inc agreed : ℕ)
    (lined : IsHubLine len i line bases inc agreed) where
  abbrev Of : ℕ → Piece → Type 0
  Of kept x = IsHubPiece parts feeds p i bases kept x

  abbrev Chain : ChainView → Type 0
  Chain ch = IsHubChain parts feeds p i line bases inc agreed ch

  -- a piece of the kept incarnation is placed
  placed : (old : ChainView) (x : Piece) (t : Taken) (new : ChainView) → Chain old → Of old.inc x → x.stamp.inc.0 ≡ old.inc
      → Places old x t new → Chain new
  placed old x taken.Repeat new ch of same takes = subst Chain (sym takes.1) ch
  placed old x (taken.Early at) new ch of same takes =
      let more = takes.3 in
      let Q : Piece → Type 0 = λ y. y.stamp.inc.0 ≡ old.inc in
      subst Chain (sym more.same) (record {
        kept = ch.kept;
        floor = ch.floor;
        run = ch.run;
        reached = ch.reached;
        whole = ch.whole;
        ends = ch.ends;
        held = ch.held;
        early = All-permutation (Of old.inc) (x ∷ old.early) new.early more.early (All-cons (Of old.inc) x old.early of ch.early);
        early_inc = All-permutation Q (x ∷ old.early) new.early more.early (All-cons Q x old.early same ch.early_inc);
        seen = ch.seen;
      })
  placed old x (taken.Held at) new ch of same takes =
      let more = takes.3 in
      let begins : x.stamp.from ≡ old.top = takes.1 in
      let some : x.stamp.from < x.stamp.to = of.fits.formed.some in
      let joined = stamps_of more.joined in
      let run = more.joins.run in
      let grows = line_grows x.stamp.to joined run.0 in
      let top : end_of x.stamp.to joined ≡ new.top = run.1 in
      let reached = ch.reached in
      let first = IsRun-push old.floor old.top old.held x ch.run begins some in
      let over : upto agreed (x.stamp ∷ joined) ≡ [] = upto-none old.top agreed (x.stamp ∷ joined)
      (begins, omega arith, run.0) ch.reached in
      let regroup : new.held ≡ (old.held ++ x ∷ []) ++ more.joined = more.held ∙ sym (append_assoc old.held (x ∷ []) more.joined) in
      let stamps : stamps_of new.held ≡ stamps_of old.held ++ x.stamp ∷ joined = ap stamps_of more.held
      ∙ stamps_of-append old.held (x ∷ more.joined) in
      let all = places-all (Of old.inc) old x (taken.Held at) new ch.held ch.early of takes in
      record {
        kept = subst (λ (n : ℕ). n ≤ inc) (sym more.inc) ch.kept;
        floor = subst (λ (n : ℕ). n ≤ agreed) (sym more.floor) ch.floor;
        run = subst (λ (n : ℕ). IsRun n new.held new.top) (sym more.floor) (subst (λ ps. IsRun old.floor ps new.top) (sym regroup)
            (IsRun-append old.floor x.stamp.to new.top (old.held ++ x ∷ []) more.joined first run));
        reached = omega arith;
        whole = ap (upto agreed) stamps ∙ (upto-append agreed (stamps_of old.held) (x.stamp ∷ joined) over
            ∙ (ch.whole ∙ ap (λ (n : ℕ). past n line) (sym more.floor)));
        ends = subst (λ (n : ℕ). IsEnd n (stamps_of new.held) agreed) (sym more.floor) (subst (λ ss. IsEnd old.floor ss agreed) (sym stamps)
            (IsEnd-append old.floor (stamps_of old.held) (x.stamp ∷ joined) agreed ch.ends));
        held = subst (λ (n : ℕ). All (Of n) new.held) (sym more.inc) all.held;
        early = subst (λ (n : ℕ). All (Of n) new.early) (sym more.inc) all.early;
        early_inc = subst (λ (n : ℕ). All (λ (y : Piece). y.stamp.inc.0 ≡ n) new.early) (sym more.inc)
            (All-split (λ (y : Piece). y.stamp.inc.0 ≡ old.inc) old.early more.joined new.early more.joins.split ch.early_inc);
        seen = subst (λ (n : ℕ). (c : ℕ) → c ≤ inc → base_of bases c < agreed → c ≤ n) (sym more.inc) ch.seen;
      }
  placed old x (taken.Stale k) new ch of same takes = absurd takes
  placed old x (taken.Adrift b f o) new ch of same takes = absurd takes

  -- a later incarnation begins at the agreed position
  at_agreed : (old : ChainView) (x : Piece) → Chain old → x.stamp.inc.0 ≤ inc → x.base ≡ base_of bases x.stamp.inc.0
      → old.inc < x.stamp.inc.0 → x.base ≡ agreed
  at_agreed old x ch le base later =
      let older = lined.older x.stamp.inc.0 le in
      ⊎_elim (λ (lt : base_of bases x.stamp.inc.0 < agreed). let seen = ch.seen x.stamp.inc.0 le lt in
      absurd (omega arith)) (λ (ge : agreed ≤ base_of bases x.stamp.inc.0). omega arith)
      (cases_lt (base_of bases x.stamp.inc.0) agreed)

  entered-is : (old : ChainView) (x : Piece) → Chain old → x.stamp.inc.0 ≤ inc → x.base ≡ base_of bases x.stamp.inc.0
      → old.inc < x.stamp.inc.0 → IsPlace old x.base → Chain (entered old x)
  entered-is old x ch le base later place =
      let e = at_agreed old x ch le base later in
      let next : agreed ≤ base_of bases (old.inc + 1) =
      ⊎_elim (λ (lt : base_of bases (old.inc + 1) < agreed). let seen = ch.seen (old.inc + 1) (omega arith) lt in
      absurd (omega arith)) (λ (ge : agreed ≤ base_of bases (old.inc + 1)). ge) (cases_lt (base_of bases (old.inc + 1)) agreed) in
      record {
        kept = le;
        floor = ch.floor;
        run = IsRun-pieces_upto old.floor x.base old.top old.held ch.run place;
        reached = omega arith;
        whole = ap (upto agreed) (stamps_of-pieces_upto x.base old.held) ∙ (upto-upto agreed x.base (stamps_of old.held) (omega arith)
            ∙ ch.whole);
        ends = subst (λ ss. IsEnd old.floor ss agreed) (sym (stamps_of-pieces_upto x.base old.held))
            (upto-ends old.floor x.base agreed (stamps_of old.held) ch.run.0 ch.ends (omega arith));
        held = All-weaker (λ (y : Piece). Of old.inc y × (y.stamp.to ≤ x.base)) (Of x.stamp.inc.0) (λ y both. sealed y both.0 both.1 e next)
            (pieces_upto x.base old.held) (pieces-within (Of old.inc) x.base old.held ch.held);
        early = All-nil (Of x.stamp.inc.0);
        early_inc = All-nil (λ (y : Piece). y.stamp.inc.0 ≡ x.stamp.inc.0);
        seen = λ c c_le lt. let old_seen = ch.seen c c_le lt in omega arith;
      }
    where
      sealed : (y : Piece) → Of old.inc y → y.stamp.to ≤ x.base → x.base ≡ agreed → agreed ≤ base_of bases (old.inc + 1)
          → Of x.stamp.inc.0 y
      sealed y of to e next =
          let a = of.inc in
          record {
            fits = of.fits;
            part = of.part;
            node = of.node;
            inc = omega arith;
            base = of.base;
            ended = λ _. ⊎_elim (λ (lt : y.stamp.inc.0 < old.inc). of.ended lt)
                (λ (ge : old.inc ≤ y.stamp.inc.0). let same : old.inc ≡ y.stamp.inc.0 = omega arith in
                subst (λ (n : ℕ). y.stamp.to ≤ base_of bases (n + 1)) same (omega arith))
                (cases_lt y.stamp.inc.0 old.inc);
          }

  -- what a piece of this partition and node is, under its own incarnation
  own : (x : Piece) → Fits parts feeds x → x.part.0 ≡ p → x.stamp.ingest.0 ≡ i → x.base ≡ base_of bases x.stamp.inc.0 → Of x.stamp.inc.0 x
  own x fits part node base = record {
    fits = fits;
    part = part;
    node = node;
    inc = omega arith;
    base = base;
    ended = λ lt. absurd (omega arith);
  }

  module _ (old : ChainView) (x : Piece) (ch : Chain old) (fits : Fits parts feeds x) (part : x.part.0 ≡ p) (node : x.stamp.ingest.0 ≡ i)
      (le : x.stamp.inc.0 ≤ inc) (base : x.base ≡ base_of bases x.stamp.inc.0) where
    alike : (t : Taken) (new : ChainView) → x.stamp.inc.0 ≡ old.inc → Places old x t new → Chain new
    alike t new same places = placed old x t new ch (subst (λ (n : ℕ). Of n x) same (own x fits part node base)) same places

    enters : (t : Taken) (new : ChainView) → Enters old x t new → Chain new
    enters t new cases =
        ⊎_elim (λ (same : (x.stamp.inc.0 ≡ old.inc) × Places old x t new). alike t new same.0 same.1)
        (λ (later : (old.inc < x.stamp.inc.0) × IsPlace old x.base × Places (entered old x) x t new).
        placed (entered old x) x t new (entered-is old x ch le base later.0 later.1) (own x fits part node base) refl later.2)
        cases

    -- a chain takes a piece of its node, under an incarnation that exists, with that incarnation's base
    pub takes-chain : (t : Taken) (new : ChainView) → Takes old x t new → Chain new
    takes-chain (taken.Stale k) new takes = subst Chain (sym takes.2) ch
    takes-chain (taken.Adrift b f o) new takes = subst Chain (sym takes.5) ch
    takes-chain taken.Repeat new takes = alike taken.Repeat new takes.0 takes.1
    takes-chain (taken.Early at) new takes = enters (taken.Early at) new takes
    takes-chain (taken.Held at) new takes = enters (taken.Held at) new takes

-- a row stays good for a chain that takes a piece
module _ (i inc agreed : ℕ) (row : RowView) where
  abbrev Row : ChainView → Type 0
  Row ch = IsHubRow i inc agreed ch row

  placed-row : (old : ChainView) (x : Piece) (t : Taken) (new : ChainView) → Row old → Places old x t new → Row new
  placed-row old x taken.Repeat new r takes = subst Row (sym takes.1) r
  placed-row old x (taken.Early at) new r takes = subst Row (sym takes.3.same) (record { kept = r.kept; top = r.top; place = r.place })
  placed-row old x (taken.Held at) new r takes =
      let more = takes.3 in
      record {
        kept = subst (λ (n : ℕ). inc_in row.incs i ≤ n) (sym more.inc) r.kept;
        top = r.top;
        place = λ e. subst (λ (n : ℕ). IsEnd n (stamps_of new.held) (get_or row.tops i 0)) (sym more.floor)
            (subst (λ ss. IsEnd old.floor ss (get_or row.tops i 0))
            (sym (ap stamps_of more.held ∙ stamps_of-append old.held (x ∷ more.joined)))
            (IsEnd-append old.floor (stamps_of old.held) (x.stamp ∷ stamps_of more.joined) _ (r.place e)));
      }
  placed-row old x (taken.Stale k) new r takes = absurd takes
  placed-row old x (taken.Adrift b f o) new r takes = absurd takes

  enters-row : (old : ChainView) (x : Piece) (t : Taken) (new : ChainView) → Row old → x.stamp.inc.0 ≤ inc → Enters old x t new → Row new
  enters-row old x t new r le cases =
      ⊎_elim (λ (same : (x.stamp.inc.0 ≡ old.inc) × Places old x t new). placed-row old x t new r same.1)
      (λ (later : (old.inc < x.stamp.inc.0) × IsPlace old x.base × Places (entered old x) x t new).
      let less : old.inc < x.stamp.inc.0 = later.0 in
      let low = r.kept in
      placed-row (entered old x) x t new (record { kept = omega arith; top = λ e. absurd (omega arith); place = λ e. absurd (omega arith) })
      later.2)
      cases

  pub takes-row : (old : ChainView) (x : Piece) (t : Taken) (new : ChainView) → Row old → x.stamp.inc.0 ≤ inc → Takes old x t new → Row new
  takes-row old x (taken.Stale k) new r le takes = subst Row (sym takes.2) r
  takes-row old x (taken.Adrift b f o) new r le takes = subst Row (sym takes.5) r
  takes-row old x taken.Repeat new r le takes = placed-row old x taken.Repeat new r takes.1
  takes-row old x (taken.Early at) new r le takes = enters-row old x (taken.Early at) new r le takes
  takes-row old x (taken.Held at) new r le takes = enters-row old x (taken.Held at) new r le takes
