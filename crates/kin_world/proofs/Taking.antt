-- What taking the piece of a stamp does to a partition's chain of its node.
use Rattle.std.proofs.Common.{◌≡◌, ◌≢◌, ℕ, ◌<◌, ◌≤◌, max, Bool, true, false, cond, eqb, ltb, ⊎_elim, List, ◌∷◌, refl, sym, ◌∙◌, ap, subst, arith, get_or}
use Rattle.std.proofs.lemmas.Bool.{cond-true, cond-false, and_from, and_left, and_parts, and_right, cases_lt, eqb-true, eq-eqb, lt-ltb, le-ltb, ne_eqb}
use Rattle.kin_ids.specs.declared.ids.Inc.{Inc}
use Rattle.kin_ids.specs.declared.ops.Piece.{Piece}
use Rattle.kin_ids.specs.declared.stamps.Stamp.{Stamp}
use Rattle.kin_ids.specs.Lines.{has, stamps_of, upto, past, is_of, made_by, seen_in, IsEnd}
use Rattle.kin_ids.proofs.Lines.{has-made, seen-ge}
use Rattle.kin_script.specs.declared.events.Event.{Event}
use Rattle.kin_script.specs.declared.outcomes.Outcome.{Outcome}
use Rattle.kin_script.specs.declared.outcomes.Outcome.TheVariants as outcome
use Rattle.kin_history.specs.Setting.{Setting, nodes}
use Rattle.kin_history.specs.Lines.{inc, line, sent, delivered, base, top_in, seen, agreed}
use Rattle.kin_history.specs.Vectors.{vector, committed}
use Rattle.kin_history.proofs.Made.{delivered-sent}
use Rattle.kin_history.proofs.Seen.{seen-within}
use Rattle.kin_held.specs.Chains.{ChainView}
use Rattle.kin_held.specs.Takes.{entered, IsPlace, Places, Takes}
use Rattle.kin_held.specs.ChainOf.{IsChainOf, answer_of}
use Rattle.kin_held.specs.declared.answers.Taken.{Taken}
use Rattle.kin_held.specs.declared.answers.Taken.TheVariants as taken
use Rattle.kin_held.proofs.Taking.{taken_is, other-chain, entered-chain}
use Rattle.kin_hub.specs.Hubs.{chain_in}
use Rattle.kin_world.specs.Worlds.{WorldView}
use Rattle.kin_world.specs.Steps.{told, IsNotAdrift}
use Rattle.kin_world.specs.Stands.{Stands}
use Rattle.kin_world.proofs.Facts.{good, agreed_is, inc_is, floor_is, floor_low, reached, whole, ends}

-- what a delivery of a stamp answers, by the greatest incarnation that came before it and by the top after it
abbrev pub delivery_answer : ℕ → List Stamp → Stamp → ℕ → Outcome
delivery_answer kept arrived s top =
    cond (ltb s.inc.0 kept) (outcome.Stale (record { 0 = kept }))
    (cond (has arrived s) outcome.Repeat (cond (ltb top s.to) (outcome.Early top) (outcome.Held top)))

told-answer : (arrived : List Stamp) (s : Stamp) (top : ℕ) → told (answer_of arrived s top) ≡ cond (has arrived s) outcome.Repeat (cond (ltb top s.to) (outcome.Early top) (outcome.Held top))
told-answer arrived s top = go (has arrived s) (ltb top s.to)
  where
    go : (a b : Bool) → told (cond a taken.Repeat (cond b (taken.Early top) (taken.Held top))) ≡ cond a outcome.Repeat (cond b (outcome.Early top) (outcome.Held top))
    go true b = refl
    go false true = refl
    go false false = refl

module _ (set : Setting) (w : WorldView) (h : List Event) (s : Stands set w h) where
  -- partition p's chain of node i where these arrived
  abbrev pub Chained : ℕ → ℕ → List Stamp → ChainView → Type 0
  Chained p i arrived chain =
      IsChainOf i (seen_in arrived i) (base set h i (seen_in arrived i)) (vector set h (committed set h p) i) arrived
      (upto (base set h i (seen_in arrived i)) (line set h i)) (made_by i (seen_in arrived i) (sent set h)) chain

  as_seen : (p i c : ℕ) (arrived : List Stamp) (chain : ChainView) → seen_in arrived i ≡ c →
      IsChainOf i c (base set h i c) (vector set h (committed set h p) i) arrived (upto (base set h i c) (line set h i)) (made_by i c (sent set h)) chain → Chained p i arrived chain
  as_seen p i c arrived chain e stands =
      subst (λ (k : ℕ). IsChainOf i k (base set h i k) (vector set h (committed set h p) i) arrived (upto (base set h i k) (line set h i)) (made_by i k (sent set h)) chain) (sym e) stands

  ours : (i c : ℕ) (y : Stamp) → has (made_by i c (sent set h)) y ≡ true → is_of i c y ≡ true
  ours i c y made = (and_parts _ _ (sym (has-made i c (sent set h) y) ∙ made)).1

  -- a stamp of another node leaves the chain
  pub other-node : (p i : ℕ) (t : Stamp) → p < set.parts → i < nodes set → t.ingest.0 ≢ i → Chained p i (t ∷ delivered set h p) (chain_in w.hub p i)
  other-node p i t p_lt i_lt ne =
      as_seen p i (seen set h p i) (t ∷ delivered set h p) (chain_in w.hub p i) (cond-false (eqb t.ingest.0 i) _ _ (ne_eqb _ _ ne))
      (other-chain i (seen set h p i) (base set h i (seen set h p i)) (vector set h (committed set h p) i) (delivered set h p) _ _ t _ (s.partitions.chains p i p_lt i_lt) (ours i (seen set h p i)) (and_left _ _ (ne_eqb _ _ ne)))

  module _ (p : ℕ) (x : Piece) (p_lt : p < set.parts) (lt : x.stamp.ingest.0 < nodes set) (made : has (sent set h) x.stamp ≡ true) (based : x.base ≡ base set h x.stamp.ingest.0 x.stamp.inc.0) where
    within : x.stamp.inc.0 ≤ inc set h x.stamp.ingest.0
    within = (good set w h s x.stamp.ingest.0).later x.stamp made refl

    kept_is : (chain_in w.hub p x.stamp.ingest.0).inc ≡ seen set h p x.stamp.ingest.0
    kept_is = (s.partitions.chains p x.stamp.ingest.0 p_lt lt).inc

    is_here : (c : ℕ) → x.stamp.inc.0 ≡ c → has (made_by x.stamp.ingest.0 c (sent set h)) x.stamp ≡ true
    is_here c e = has-made x.stamp.ingest.0 c (sent set h) x.stamp ∙ and_from _ _ made (and_from _ _ (eq-eqb _ _ refl) (eq-eqb _ _ e))

    known : (c : ℕ) (y : Stamp) → has (delivered set h p) y ≡ true → is_of x.stamp.ingest.0 c y ≡ true → has (made_by x.stamp.ingest.0 c (sent set h)) y ≡ true
    known c y arrived of = has-made x.stamp.ingest.0 c (sent set h) y ∙ and_from _ _ (delivered-sent set h p y arrived) of

    seen_max : seen_in (x.stamp ∷ delivered set h p) x.stamp.ingest.0 ≡ max x.stamp.inc.0 (seen set h p x.stamp.ingest.0)
    seen_max = cond-true (eqb x.stamp.ingest.0 x.stamp.ingest.0) _ _ (eq-eqb _ _ refl)

    -- a later incarnation than the kept one begins at the agreed position, which is a place of the chain
    at_agreed : (chain_in w.hub p x.stamp.ingest.0).inc < x.stamp.inc.0 → agreed set h x.stamp.ingest.0 ≡ x.base
    at_agreed later =
        let j = x.stamp.ingest.0 in
        let c = x.stamp.inc.0 in
        let exists = within in
        let older = (good set w h s j).older c within in
        let at = agreed_is set w h s j lt in
        let last = inc_is set w h s j lt in
        ⊎_elim (λ (beyond : base set h j c < agreed set h j).
        let kept = (s.epochs.hub.core.chains p j p_lt lt).seen c (omega arith) (omega arith) in
        absurd (omega arith))
        (λ (ge : agreed set h j ≤ base set h j c). omega arith)
        (cases_lt (base set h j c) (agreed set h j))

    place_is : (chain_in w.hub p x.stamp.ingest.0).inc < x.stamp.inc.0 → IsPlace (chain_in w.hub p x.stamp.ingest.0) x.base
    place_is later = subst (IsEnd (chain_in w.hub p x.stamp.ingest.0).floor (stamps_of (chain_in w.hub p x.stamp.ingest.0).held)) (at_agreed later) (ends set w h s x.stamp.ingest.0 lt p p_lt)

    -- so the piece isn't adrift
    pub is_told : (t : Taken) (new : ChainView) → Takes (chain_in w.hub p x.stamp.ingest.0) x t new → IsNotAdrift t
    is_told (taken.Held top) new takes = tt
    is_told (taken.Early top) new takes = tt
    is_told taken.Repeat new takes = tt
    is_told (taken.Stale k) new takes = tt
    is_told (taken.Adrift b f top) new takes = absurd (takes.1 (place_is takes.0))

    -- the chain afterwards, and what the answer tells
    pub record Took (t : Taken) (new : ChainView) : Type 0 where
      pub chain : Chained p x.stamp.ingest.0 (x.stamp ∷ delivered set h p) new
      pub answers : told t ≡ delivery_answer (seen set h p x.stamp.ingest.0) (delivered set h p) x.stamp
          (top_in set (x.stamp ∷ delivered set h p) h x.stamp.ingest.0 (seen_in (x.stamp ∷ delivered set h p) x.stamp.ingest.0))

    -- what a chain of the piece's incarnation becomes
    placed : (old : ChainView) (t : Taken) (new : ChainView) → seen set h p x.stamp.ingest.0 ≤ x.stamp.inc.0 → vector set h (committed set h p) x.stamp.ingest.0 ≤ old.top →
        IsChainOf x.stamp.ingest.0 x.stamp.inc.0 (base set h x.stamp.ingest.0 x.stamp.inc.0) (vector set h (committed set h p) x.stamp.ingest.0) (delivered set h p)
        (upto (base set h x.stamp.ingest.0 x.stamp.inc.0) (line set h x.stamp.ingest.0)) (made_by x.stamp.ingest.0 x.stamp.inc.0 (sent set h)) old → Places old x t new → Took t new
    placed old t new le low stands places =
        let j = x.stamp.ingest.0 in
        let c = x.stamp.inc.0 in
        let D = delivered set h p in
        let key = taken_is j c (base set h j c) (vector set h (committed set h p) j) D _ (made_by j c (sent set h)) old x ((good set w h s j).made c within) stands low (ours j c) (known c) (is_here c refl) t new places in
        let now : seen_in (x.stamp ∷ D) j ≡ c = seen_max ∙ (omega arith) in
        let current : ltb c (seen set h p j) ≡ false = le-ltb _ _ le in
        record {
          chain = as_seen p j c (x.stamp ∷ D) new now key.stands;
          answers = ap told key.answers ∙ (told-answer D x.stamp _
              ∙ (ap (λ (k : ℕ). cond (has D x.stamp) outcome.Repeat (cond (ltb (top_in set (x.stamp ∷ D) h j k) x.stamp.to) (outcome.Early (top_in set (x.stamp ∷ D) h j k)) (outcome.Held (top_in set (x.stamp ∷ D) h j k)))) (sym now)
              ∙ sym (cond-false (ltb c (seen set h p j)) _ _ current)));
        }

    same_inc : (t : Taken) (new : ChainView) → x.stamp.inc.0 ≡ (chain_in w.hub p x.stamp.ingest.0).inc → Places (chain_in w.hub p x.stamp.ingest.0) x t new → Took t new
    same_inc t new same places =
        let j = x.stamp.ingest.0 in
        let c : x.stamp.inc.0 ≡ seen set h p j = same ∙ kept_is in
        let floor = floor_is set w h s j lt p p_lt in
        let low = floor_low set w h s j lt p p_lt in
        let high = reached set w h s j lt p p_lt in
        placed (chain_in w.hub p j) t new (omega arith) (omega arith)
        (subst (λ (k : ℕ). IsChainOf j k (base set h j k) (vector set h (committed set h p) j) (delivered set h p) (upto (base set h j k) (line set h j)) (made_by j k (sent set h)) (chain_in w.hub p j)) (sym c) (s.partitions.chains p j p_lt lt))
        places

    later_inc : (t : Taken) (new : ChainView) → (chain_in w.hub p x.stamp.ingest.0).inc < x.stamp.inc.0 → Places (entered (chain_in w.hub p x.stamp.ingest.0) x) x t new → Took t new
    later_inc t new later places =
        let j = x.stamp.ingest.0 in
        let c = x.stamp.inc.0 in
        let old = chain_in w.hub p j in
        let D = delivered set h p in
        let L = line set h j in
        let f = vector set h (committed set h p) j in
        let kept = kept_is in
        let at = at_agreed later in
        let floor : old.floor ≡ f = floor_is set w h s j lt p p_lt in
        let low = floor_low set w h s j lt p p_lt in
        let cut : upto x.base (stamps_of old.held) ≡ past f (upto (base set h j c) L) =
        subst (λ (a : ℕ). upto a (stamps_of old.held) ≡ past old.floor (upto a L)) at (whole set w h s j lt p p_lt)
        ∙ (ap (λ (m : ℕ). past m (upto x.base L)) floor ∙ ap (λ (b : ℕ). past f (upto b L)) based) in
        let none : (y : Stamp) → has D y ≡ true → is_of j c y ≡ true → ⊥ = λ y arrived of.
        let ids = and_parts _ _ of in
        let ge : y.inc.0 ≤ seen set h p j = seen-ge D j y arrived (eqb-true _ _ ids.0) in
        let is : y.inc.0 ≡ c = eqb-true _ _ ids.1 in
        absurd (omega arith) in
        let began = entered-chain j f D (upto (base set h j c) L) (made_by j c (sent set h)) old x floor cut none (ours j c) in
        placed (entered old x) t new (omega arith) (omega arith)
        (subst (λ (b : ℕ). IsChainOf j c b f D (upto (base set h j c) L) (made_by j c (sent set h)) (entered old x)) based began)
        places

    pub took : (t : Taken) (new : ChainView) → Takes (chain_in w.hub p x.stamp.ingest.0) x t new → Took t new
    took (taken.Stale k) new takes =
        let j = x.stamp.ingest.0 in
        let kept = kept_is in
        let over : x.stamp.inc.0 < (chain_in w.hub p j).inc = takes.0 in
        let less : x.stamp.inc.0 < seen set h p j = omega arith in
        let now : seen_in (x.stamp ∷ delivered set h p) j ≡ seen set h p j = seen_max ∙ (omega arith) in
        let differ : x.stamp.inc.0 ≢ seen set h p j = omega arith in
        let stale : ℕ → Outcome = λ n. outcome.Stale (record { 0 = n }) in
        record {
          chain = subst (Chained p j (x.stamp ∷ delivered set h p)) (sym takes.2) (as_seen p j (seen set h p j) (x.stamp ∷ delivered set h p) (chain_in w.hub p j) now
              (other-chain j (seen set h p j) (base set h j (seen set h p j)) (vector set h (committed set h p) j) (delivered set h p) _ _ x.stamp _ (s.partitions.chains p j p_lt lt) (ours j (seen set h p j)) (and_right _ _ (ne_eqb _ _ differ))));
          answers = ap stale (takes.1 ∙ kept) ∙ sym (cond-true (ltb x.stamp.inc.0 (seen set h p j)) _ _ (lt-ltb _ _ less));
        }
    took (taken.Adrift b f top) new takes = absurd (takes.1 (place_is takes.0))
    took taken.Repeat new takes = same_inc taken.Repeat new takes.0 takes.1
    took (taken.Early at) new takes = ⊎_elim (λ same. same_inc (taken.Early at) new same.0 same.1) (λ later. later_inc (taken.Early at) new later.0 later.2) takes
    took (taken.Held at) new takes = ⊎_elim (λ same. same_inc (taken.Held at) new same.0 same.1) (λ later. later_inc (taken.Held at) new later.0 later.2) takes
