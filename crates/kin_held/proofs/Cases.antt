-- An answer that the cases allow is the one that they give.
use Rattle.std.proofs.Common.{◌≡◌, ℕ, ◌<◌, true, false, eqb, ltb, ⊎_elim, inl, sym, ◌∙◌, ap, arith}
use Rattle.std.proofs.lemmas.Bool.{cond-true, cond-false, eqb-true, eq-eqb, ne_eqb, lt-ltb, le-ltb, false_from_ne_true}
use Rattle.kin_ids.specs.declared.ids.Inc.{Inc}
use Rattle.kin_ids.specs.declared.ops.Piece.{Piece}
use Rattle.kin_ids.specs.Lines.{IsLine, stamps_of}
use Rattle.kin_ids.proofs.Lines.{upto-end}
use Rattle.kin_held.specs.Chains.{ChainView}
use Rattle.kin_held.specs.Takes.{entered, is_known, IsPlace, is_place, Places, Enters, Takes, placed_of, taken_of}
use Rattle.kin_held.specs.declared.answers.Taken.{Taken}
use Rattle.kin_held.specs.declared.answers.Taken.TheVariants as taken
use Rattle.kin_held.proofs.Cuts.{end_upto}

pub is_place-true : (c : ChainView) (at : ℕ) → IsLine c.floor (stamps_of c.held) → IsPlace c at → is_place c at ≡ true
is_place-true c at line place = eq-eqb _ _ (upto-end c.floor at (stamps_of c.held) line place)

pub is_place-false : (c : ChainView) (at : ℕ) → (IsPlace c at → ⊥) → is_place c at ≡ false
is_place-false c at none = false_from_ne_true _ (λ e. none (end_upto c.floor at (stamps_of c.held) (eqb-true _ _ e)))

placed-is : (c : ChainView) (p : Piece) (t : Taken) (new : ChainView) → Places c p t new → t ≡ placed_of c p new.top
placed-is c p taken.Repeat new places = sym (cond-true (is_known c p) _ _ places.0)
placed-is c p (taken.Early at) new places = ap taken.Early places.2 ∙ sym (cond-false (is_known c p) _ _ places.0 ∙ cond-false (eqb p.stamp.from c.top) _ _ (ne_eqb _ _ places.1))
placed-is c p (taken.Held at) new places = ap taken.Held places.2 ∙ sym (cond-false (is_known c p) _ _ places.0 ∙ cond-true (eqb p.stamp.from c.top) _ _ (eq-eqb _ _ places.1))
placed-is c p (taken.Stale k) new places = absurd places
placed-is c p (taken.Adrift b f o) new places = absurd places

enters-is : (c : ChainView) (p : Piece) (t : Taken) (new : ChainView) → IsLine c.floor (stamps_of c.held) → Enters c p t new → t ≡ taken_of c p new.top
enters-is c p t new line enters = ⊎_elim
    (λ (same : (p.stamp.inc.0 ≡ c.inc) × Places c p t new).
    let equal : p.stamp.inc.0 ≡ c.inc = same.0 in
    let current : ltb p.stamp.inc.0 c.inc ≡ false = le-ltb _ _ (omega arith) in
    let kept : ltb c.inc p.stamp.inc.0 ≡ false = le-ltb _ _ (omega arith) in
    placed-is c p t new same.1 ∙ sym (cond-false _ _ _ current ∙ cond-false _ _ _ kept))
    (λ (later : (c.inc < p.stamp.inc.0) × IsPlace c p.base × Places (entered c p) p t new).
    let more : c.inc < p.stamp.inc.0 = later.0 in
    let current : ltb p.stamp.inc.0 c.inc ≡ false = le-ltb _ _ (omega arith) in
    placed-is (entered c p) p t new later.2
    ∙ sym (cond-false _ _ _ current ∙ (cond-true _ _ _ (lt-ltb _ _ more) ∙ cond-true _ _ _ (is_place-true c p.base line later.1))))
    enters

inc-of : (k : Inc) (n : ℕ) → k.0 ≡ n → k ≡ record { 0 = n }
inc-of k n e = ap (λ (m : ℕ). let inc : Inc = record { 0 = m } in inc) e

pub takes-is : (c : ChainView) (p : Piece) (t : Taken) (new : ChainView) → IsLine c.floor (stamps_of c.held) → Takes c p t new → t ≡ taken_of c p new.top
takes-is c p (taken.Stale k) new line takes = ap taken.Stale (inc-of k c.inc takes.1) ∙ sym (cond-true _ _ _ (lt-ltb _ _ takes.0))
takes-is c p (taken.Adrift b f o) new line takes =
    let more : c.inc < p.stamp.inc.0 = takes.0 in
    let current : ltb p.stamp.inc.0 c.inc ≡ false = le-ltb _ _ (omega arith) in
    ap (λ x. taken.Adrift x f o) takes.2 ∙ (ap (λ x. taken.Adrift p.base x o) takes.3 ∙ (ap (λ x. taken.Adrift p.base c.floor x) takes.4
    ∙ sym (cond-false _ _ _ current ∙ (cond-true _ _ _ (lt-ltb _ _ more) ∙ cond-false _ _ _ (is_place-false c p.base takes.1)))))
takes-is c p taken.Repeat new line takes = enters-is c p taken.Repeat new line (inl takes)
takes-is c p (taken.Early at) new line takes = enters-is c p (taken.Early at) new line takes
takes-is c p (taken.Held at) new line takes = enters-is c p (taken.Held at) new line takes
