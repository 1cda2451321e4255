-- Taking a piece keeps what a chain stands for. The pieces that join are a line of stamps that arrived, and none that is left begins
-- where they end: so the chain has the longest front that arrived. Early pieces are counted by stamp, since what joins leaves them.
use Rattle.std.proofs.Common.{◌≡◌, ℕ, ◌+◌, ◌<◌, ◌≤◌, Bool, true, false, cond, leb, ltb, ◌&&◌, ◌||◌, inl, inr, ⊎_elim, List, [], ◌∷◌, ◌++◌, refl, sym, ◌∙◌, ap, subst, arith, append_assoc}
use Rattle.std.proofs.lemmas.Bool.{cond_both, cond-true, cond-false, and_parts, and_from, and_left, and_right, or_cases, or_left, or_right, or_parts, or_from, leb-true, leb-false, le-leb, lt-leb, lt-ltb, le-ltb, cases_lt, cases_Bool, false_from_ne_true, both_ways}
use Rattle.std.proofs.lemmas.List.{append-nil}
use Rattle.kin_ids.specs.declared.ops.Piece.{Piece}
use Rattle.kin_ids.specs.declared.stamps.Stamp.{Stamp}
use Rattle.kin_ids.specs.Lines.{same_stamp, has, stamps_of, front_in, end_of, IsLine, is_of, upto, past}
use Rattle.kin_ids.proofs.Lines.{same_from_test, end_of-append, IsLine-append, line_grows, lies, only_at, front_in-alike, front_in-alike_on, front_in-none, upto-append, upto-none, front-line, front-has, front-upto, front-stops, front_in-is, front-past}
use Rattle.kin_held.specs.Early.{begins}
use Rattle.kin_held.specs.Chains.{ChainView}
use Rattle.kin_held.specs.Takes.{entered, Places, is_known}
use Rattle.kin_held.specs.ChainOf.{times, IsChainOf, answer_of}
use Rattle.kin_held.specs.declared.answers.Taken.{Taken}
use Rattle.kin_held.specs.declared.answers.Taken.TheVariants as taken
use Rattle.kin_held.proofs.Pieces.{stamps_of-append, stamps_of-pieces_upto}
use Rattle.kin_held.proofs.Times.{times-cons, times-append, times-permutation, times_none, has-times, times-has, none_begins, begins-has, has-begins}

past-more : (f : ℕ) (xs : List Stamp) (y : Stamp) (ys : List Stamp) → f < y.to → past f (xs ++ y ∷ ys) ≡ past f xs ++ y ∷ ys
past-more f [] y ys lt = cond-false (leb y.to f) _ _ (lt-leb _ _ lt)
past-more f (x ∷ xs) y ys lt = cond_both (leb x.to f) (past f xs) (x ∷ xs) (λ zs. past f (x ∷ xs ++ y ∷ ys) ≡ zs ++ y ∷ ys)
    (λ t. cond-true (leb x.to f) _ _ t ∙ past-more f xs y ys lt) (λ n. cond-false (leb x.to f) _ _ n)

-- has ss s after an append
has-append : (xs ys : List Stamp) (s : Stamp) → has (xs ++ ys) s ≡ (has xs s || has ys s)
has-append [] ys s = refl
has-append (x ∷ xs) ys s = rw (has-append xs ys s) (or_assoc (same_stamp x s) (has xs s) (has ys s))
  where
    or_assoc : (a b c : Bool) → (a || (b || c)) ≡ ((a || b) || c)
    or_assoc true b c = refl
    or_assoc false b c = refl

-- D is what arrived, `pre` the line up to the base `from`, L the stamps of the incarnation c of node i, and f the floor
module _ (i c from f : ℕ) (D pre L : List Stamp) (old : ChainView) (p : Piece) (line : IsLine from L) (chain : IsChainOf i c from f D pre L old) (low : f ≤ old.top)
    (ours : (s : Stamp) → has L s ≡ true → is_of i c s ≡ true) (known : (s : Stamp) → has D s ≡ true → is_of i c s ≡ true → has L s ≡ true)
    (made : has L p.stamp ≡ true) where
  -- where a stamp is early
  is_early : (s : Stamp) → has D s ≡ true → is_of i c s ≡ true → old.top ≤ s.from → times old.early s ≡ 1
  is_early s d node past = chain.early s ∙ cond-true _ 1 0 (and_from _ _ d (and_from _ _ node (le-leb _ _ past)))

  record Was (s : Stamp) : Type 0 where
    pub arrived : has D s ≡ true
    pub node : is_of i c s ≡ true
    pub past : old.top ≤ s.from

  was_early : (s : Stamp) → 1 ≤ times old.early s → Was s
  was_early s h = go (has D s && (is_of i c s && leb old.top s.from)) refl
    where
      go : (b : Bool) → (has D s && (is_of i c s && leb old.top s.from)) ≡ b → Was s
      go true e = let a = and_parts _ _ e in let b = and_parts _ _ a.1 in record { arrived = a.0; node = b.0; past = leb-true _ _ b.1 }
      go false e = let none : times old.early s ≡ 0 = chain.early s ∙ cond-false _ 1 0 e in absurd (omega arith)

  -- the test of the code is whether the stamp arrived
  known-is : is_known old p ≡ has D p.stamp
  known-is = ⊎_elim (λ (d : has D p.stamp ≡ true). yes d ∙ sym d) (λ (n : has D p.stamp ≡ false). no n ∙ sym n) (cases_Bool (has D p.stamp))
    where
      yes : has D p.stamp ≡ true → is_known old p ≡ true
      yes d =
          ⊎_elim (λ (lt : old.top < p.stamp.to).
          let top : end_of from (front_in D L) < p.stamp.to = rw (← chain.top) lt in
          let past : old.top ≤ p.stamp.from = rw chain.top (front-past D from L p.stamp line made top) in
          let one = is_early p.stamp d (ours p.stamp made) past in
          or_right (leb p.stamp.to old.top) _ (has-begins old.early p.stamp (times-has old.early p.stamp (omega arith))))
          (λ (le : p.stamp.to ≤ old.top). or_left _ _ (le-leb _ _ le))
          (cases_lt old.top p.stamp.to)

      no : has D p.stamp ≡ false → is_known old p ≡ false
      no n = false_from_ne_true _ (λ k.
          ⊎_elim (λ (within : leb p.stamp.to old.top ≡ true).
          let le : p.stamp.to ≤ end_of from (front_in D L) = rw (← chain.top) (leb-true _ _ within) in
          both_ways _ n (front-has D L p.stamp (front-upto D from L p.stamp line made le)).1)
          (λ (b : begins p.stamp.from old.early ≡ true).
          let there = begins-has p.stamp.from old.early b in
          let was = was_early there.0 (has-times old.early there.0 there.1) in
          let same : there.0 ≡ p.stamp = only_at from L there.0 p.stamp line (known there.0 was.arrived was.node) made there.2 in
          both_ways _ n (subst (λ (s : Stamp). has D s ≡ true) same was.arrived))
          (or_cases _ _ k))

  pub record IsTaken (t : Taken) (new : ChainView) : Type 0 where
    pub stands : IsChainOf i c from f (p.stamp ∷ D) pre L new
    pub answers : t ≡ answer_of D p.stamp (end_of from (front_in (p.stamp ∷ D) L))

  repeated : (new : ChainView) → Places old p taken.Repeat new → IsTaken taken.Repeat new
  repeated new takes =
      let d : has D p.stamp ≡ true = sym known-is ∙ takes.0 in
      let same : (s : Stamp) → has (p.stamp ∷ D) s ≡ has D s = λ s. cond_has s d in
      let front : front_in (p.stamp ∷ D) L ≡ front_in D L = front_in-alike (p.stamp ∷ D) D L same in
      record {
        stands = subst (IsChainOf i c from f (p.stamp ∷ D) pre L) (sym takes.1) (record {
          floor = chain.floor;
          inc = chain.inc;
          held = rw front chain.held;
          top = rw front chain.top;
          early = λ s. rw (same s) (chain.early s);
        });
        answers = sym (cond-true (has D p.stamp) taken.Repeat _ d);
      }
    where
      cond_has : (s : Stamp) → has D p.stamp ≡ true → has (p.stamp ∷ D) s ≡ has D s
      cond_has s d = ⊎_elim (λ (e : same_stamp p.stamp s ≡ true). or_left _ _ e ∙ sym (subst (λ (t : Stamp). has D t ≡ true) (same_from_test p.stamp s e) d))
          (λ (n : same_stamp p.stamp s ≡ false). rw n refl) (cases_Bool (same_stamp p.stamp s))

  -- a piece that isn't here begins at the top or past it
  record New : Type 0 where
    pub missing : has D p.stamp ≡ false
    pub past : old.top ≤ p.stamp.from
    pub some : p.stamp.from < p.stamp.to

  is_new : is_known old p ≡ false → New
  is_new k =
      let parts = or_parts (leb p.stamp.to old.top) (begins p.stamp.from old.early) k in
      let out : old.top < p.stamp.to = leb-false _ _ parts.0 in
      let top : end_of from (front_in D L) < p.stamp.to = rw (← chain.top) out in
      record { missing = sym known-is ∙ k; past = rw chain.top (front-past D from L p.stamp line made top); some = (lies from L p.stamp line made).some }

  kept_early : (at : ℕ) (new : ChainView) → Places old p (taken.Early at) new → IsTaken (taken.Early at) new
  kept_early at new takes =
      let fresh = is_new takes.0 in
      let front : front_in (p.stamp ∷ D) L ≡ front_in D L =
      front_in-is (p.stamp ∷ D) from L (front_in D L) line (front-line D from L line)
      (λ s h. let both = front-has D L s h in (both.0, or_right (same_stamp p.stamp s) _ both.1))
      (λ s h e. or_from _ _ (false_from_ne_true _ (λ (same : same_stamp p.stamp s ≡ true).
      let from : p.stamp.from ≡ s.from = ap (λ (t : Stamp). t.from) (same_from_test p.stamp s same) in
      takes.1 (from ∙ (e ∙ sym chain.top))))
      (front-stops D from L s line h e)) in
      let top : end_of from (front_in (p.stamp ∷ D) L) ≡ old.top = rw front (sym chain.top) in
      record {
        stands = subst (IsChainOf i c from f (p.stamp ∷ D) pre L) (sym takes.3.same) (record { floor = chain.floor; inc = chain.inc; held = rw front chain.held; top = rw front chain.top; early = λ s. times-permutation (p ∷ old.early) new.early s takes.3.early ∙ early fresh s });
        answers = sym (answered (has D p.stamp) (ltb (end_of from (front_in (p.stamp ∷ D) L)) p.stamp.to) fresh.missing
            (let a = fresh.past in let b = fresh.some in let c : end_of from (front_in (p.stamp ∷ D) L) < p.stamp.to = omega arith in lt-ltb _ _ c)
            ∙ ap taken.Early (top ∙ sym takes.2));
      }
    where
      answered : (a b : Bool) → a ≡ false → b ≡ true → cond a taken.Repeat (cond b (taken.Early (end_of from (front_in (p.stamp ∷ D) L))) (taken.Held (end_of from (front_in (p.stamp ∷ D) L)))) ≡ taken.Early (end_of from (front_in (p.stamp ∷ D) L))
      answered a b e f = rw (e, f) refl

      early : New → (s : Stamp) → times (p ∷ old.early) s ≡ cond {A = ℕ} (has (p.stamp ∷ D) s && (is_of i c s && leb old.top s.from)) 1 0
      early fresh s =
          ⊎_elim (λ (e : same_stamp p.stamp s ≡ true).
          let same : p.stamp ≡ s = same_from_test p.stamp s e in
          let gone : has D s ≡ false = subst (λ (t : Stamp). has D t ≡ false) same fresh.missing in
          let node : is_of i c s ≡ true = subst (λ (t : Stamp). is_of i c t ≡ true) same (ours p.stamp made) in
          let past : old.top ≤ s.from = subst (λ (t : Stamp). old.top ≤ t.from) same fresh.past in
          let none : times old.early s ≡ 0 = chain.early s ∙ cond-false _ 1 0 (and_left _ _ gone) in
          let one : cond {A = ℕ} (same_stamp p.stamp s) 1 0 ≡ 1 = cond-true _ 1 0 e in
          let sum : times (p ∷ old.early) s ≡ 1 = omega (arith, times-cons p old.early s) in
          sum ∙ sym (cond-true _ 1 0 (and_from _ _ (or_left _ _ e) (and_from _ _ node (le-leb _ _ past)))))
          (λ (n : same_stamp p.stamp s ≡ false).
          let one : cond {A = ℕ} (same_stamp p.stamp s) 1 0 ≡ 0 = cond-false _ 1 0 n in
          let sum : times (p ∷ old.early) s ≡ times old.early s = omega (arith, times-cons p old.early s) in
          sum ∙ (chain.early s ∙ ap (λ b. cond {A = ℕ} (b && (is_of i c s && leb old.top s.from)) 1 0) (rw n refl)))
          (cases_Bool (same_stamp p.stamp s))

  joined : (at : ℕ) (new : ChainView) → Places old p (taken.Held at) new → IsTaken (taken.Held at) new
  joined at new takes =
      let fresh = is_new takes.0 in
      let begins_at : p.stamp.from ≡ old.top = takes.1 in
      let more = takes.3 in
      let js = stamps_of more.joined in
      let F = front_in D L in
      let run = more.joins.run in
      let G = F ++ p.stamp ∷ js in
      let at_top : p.stamp.from ≡ end_of from F = begins_at ∙ chain.top in
      let some : p.stamp.from < p.stamp.to = fresh.some in
      let ends : end_of from G ≡ new.top = end_of-append from F (p.stamp ∷ js) ∙ run.1 in
      let grows : p.stamp.to ≤ new.top = subst (λ (n : ℕ). p.stamp.to ≤ n) run.1 (line_grows p.stamp.to js run.0) in
      let lineG : IsLine from G = IsLine-append from F (p.stamp ∷ js) (front-line D from L line) (at_top, omega arith, run.0) in
      let count : (s : Stamp) → times old.early s ≡ times more.joined s + times new.early s =
      λ s. sym (times-permutation old.early (more.joined ++ new.early) s more.joins.split) ∙ times-append more.joined new.early s in
      let each_joined : (s : Stamp) → has js s ≡ true → Was s =
      λ s h. was_early s (let a = has-times more.joined s h in let b = count s in omega arith) in
      let eachG : (s : Stamp) → has G s ≡ true → (has L s ≡ true) × (has (p.stamp ∷ D) s ≡ true) =
      λ s h. ⊎_elim (λ (f : has F s ≡ true). let both = front-has D L s f in (both.0, or_right _ _ both.1))
      (λ (r : (same_stamp p.stamp s || has js s) ≡ true). ⊎_elim
      (λ (e : same_stamp p.stamp s ≡ true). (subst (λ (t : Stamp). has L t ≡ true) (same_from_test p.stamp s e) made, or_left _ _ e))
      (λ (j : has js s ≡ true). let was = each_joined s j in (known s was.arrived was.node, or_right _ _ was.arrived))
      (or_cases _ _ r))
      (or_cases _ _ (sym (has-append F (p.stamp ∷ js) s) ∙ h)) in
      let outside : (s : Stamp) → new.top ≤ s.from → times more.joined s ≡ 0 =
      λ s le. times_none more.joined s (false_from_ne_true _ (λ j.
      let there = lies p.stamp.to js s run.0 j in
      let a = there.some in
      let b : s.to ≤ new.top = subst (λ (n : ℕ). s.to ≤ n) run.1 there.to in
      absurd (omega arith))) in
      let stops : (s : Stamp) → has L s ≡ true → s.from ≡ new.top → has D s ≡ false =
      λ s l e. false_from_ne_true _ (λ d.
      let early = is_early s d (ours s l) (omega arith) in
      let not_joined : times more.joined s ≡ 0 = outside s (omega arith) in
      none_begins new.top new.early s more.joins.settled (times-has new.early s (let b = count s in omega arith)) e) in
      let front : front_in (p.stamp ∷ D) L ≡ G =
      front_in-is (p.stamp ∷ D) from L G line lineG eachG
      (λ s l e. or_from _ _ (false_from_ne_true _ (λ (same : same_stamp p.stamp s ≡ true).
      let from : p.stamp.from ≡ s.from = ap (λ (t : Stamp). t.from) (same_from_test p.stamp s same) in
      absurd (omega arith)))
      (stops s l (e ∙ ends))) in
      let begins_there : p.stamp.from ≡ old.top = takes.1 in
      let beyond : f < p.stamp.to = omega arith in
      record {
        stands = record {
          floor = more.floor ∙ chain.floor;
          inc = more.inc ∙ chain.inc;
          held = ap stamps_of more.held ∙ (stamps_of-append old.held (p ∷ more.joined) ∙ (ap (λ xs. xs ++ p.stamp ∷ js) chain.held ∙ (sym (past-more f (pre ++ F) p.stamp js beyond) ∙ ap (past f) (append_assoc pre F (p.stamp ∷ js) ∙ ap (λ ys. pre ++ ys) (sym front)))));
          top = sym ends ∙ ap (end_of from) (sym front);
          early = λ s. ⊎_elim
              (λ (b : (has (p.stamp ∷ D) s && (is_of i c s && leb new.top s.from)) ≡ true).
              let parts = and_parts _ _ b in
              let rest = and_parts _ _ parts.1 in
              let past : new.top ≤ s.from = leb-true _ _ rest.1 in
              let d : has D s ≡ true = ⊎_elim
              (λ (e : same_stamp p.stamp s ≡ true). let from : p.stamp.from ≡ s.from = ap (λ (t : Stamp). t.from) (same_from_test p.stamp s e) in absurd (omega arith))
              (λ (d : has D s ≡ true). d) (or_cases _ _ parts.0) in
              let one = is_early s d rest.0 (omega arith) in
              let none = outside s past in
              let sum : times new.early s ≡ 1 = omega (arith, count s) in
              sum ∙ sym (cond-true _ 1 0 b))
              (λ (b : (has (p.stamp ∷ D) s && (is_of i c s && leb new.top s.from)) ≡ false).
              ⊎_elim (λ (lt : 0 < times new.early s). absurd (gone s fresh begins_at front (ap (end_of from) front ∙ ends) b lt (let c = count s in omega arith) (λ j. let h = has-times more.joined s j in let c = count s in omega arith)))
              (λ (le : times new.early s ≤ 0). let none : times new.early s ≡ 0 = omega arith in none ∙ sym (cond-false _ 1 0 b)) (cases_lt 0 (times new.early s)))
              (cases_Bool (has (p.stamp ∷ D) s && (is_of i c s && leb new.top s.from)));
        };
        answers = ap taken.Held (takes.2 ∙ (sym ends ∙ ap (end_of from) (sym front)))
            ∙ sym (answered (has D p.stamp) (ltb (end_of from (front_in (p.stamp ∷ D) L)) p.stamp.to) fresh.missing
            (le-ltb _ _ (let e : end_of from (front_in (p.stamp ∷ D) L) ≡ new.top = ap (end_of from) front ∙ ends in omega arith)));
      }
    where
      answered : (a b : Bool) → a ≡ false → b ≡ false → cond a taken.Repeat (cond b (taken.Early (end_of from (front_in (p.stamp ∷ D) L))) (taken.Held (end_of from (front_in (p.stamp ∷ D) L)))) ≡ taken.Held (end_of from (front_in (p.stamp ∷ D) L))
      answered a b e f = rw (e, f) refl

      gone : (s : Stamp) → New → p.stamp.from ≡ old.top → front_in (p.stamp ∷ D) L ≡ front_in D L ++ p.stamp ∷ stamps_of takes.3.joined → end_of from (front_in (p.stamp ∷ D) L) ≡ new.top → (has (p.stamp ∷ D) s && (is_of i c s && leb new.top s.from)) ≡ false →
          0 < times new.early s → 1 ≤ times old.early s → (has (stamps_of takes.3.joined) s ≡ true → 2 ≤ times old.early s) → ⊥
      gone s fresh begins_at front ends b lt some two =
          let was = was_early s some in
          let past : old.top ≤ s.from = was.past in
          let l = known s was.arrived was.node in
          let moves : s.from < s.to = (lies from L s line l).some in
          ⊎_elim (λ (le : new.top ≤ s.from). both_ways _ b (and_from _ _ (or_right _ _ was.arrived) (and_from _ _ was.node (le-leb _ _ le))))
          (λ (before : s.from < new.top).
          ⊎_elim (λ (out : new.top < s.to).
          let top : end_of from (front_in (p.stamp ∷ D) L) < s.to = omega arith in
          let beyond = front-past (p.stamp ∷ D) from L s line l top in
          absurd (omega arith))
          (λ (in' : s.to ≤ new.top).
          let top : s.to ≤ end_of from (front_in (p.stamp ∷ D) L) = omega arith in
          let inside : has (front_in D L ++ p.stamp ∷ stamps_of takes.3.joined) s ≡ true = subst (λ ys. has ys s ≡ true) front (front-upto (p.stamp ∷ D) from L s line l top) in
          ⊎_elim (λ (f : has (front_in D L) s ≡ true).
          let there = (lies from (front_in D L) s (front-line D from L line) f).to in
          let e = chain.top in
          absurd (omega arith))
          (λ (r : (same_stamp p.stamp s || has (stamps_of takes.3.joined) s) ≡ true). ⊎_elim
          (λ (e : same_stamp p.stamp s ≡ true). both_ways _ fresh.missing (subst (λ (t : Stamp). has D t ≡ true) (sym (same_from_test p.stamp s e)) was.arrived))
          (λ (j : has (stamps_of takes.3.joined) s ≡ true).
          let one = is_early s was.arrived was.node past in
          let more = two j in
          absurd (omega arith))
          (or_cases _ _ r))
          (or_cases _ _ (sym (has-append (front_in D L) (p.stamp ∷ stamps_of takes.3.joined) s) ∙ inside)))
          (cases_lt new.top s.to))
          (⊎_elim (λ (x : s.from < new.top). inr x) (λ (x : new.top ≤ s.from). inl x) (cases_lt s.from new.top))

  pub taken_is : (t : Taken) (new : ChainView) → Places old p t new → IsTaken t new
  taken_is (taken.Stale k) new takes = absurd takes
  taken_is (taken.Adrift k f o) new takes = absurd takes
  taken_is taken.Repeat new takes = repeated new takes
  taken_is (taken.Early at) new takes = kept_early at new takes
  taken_is (taken.Held at) new takes = joined at new takes

-- a stamp of another node or incarnation leaves what a chain stands for
pub other-chain : (i c from f : ℕ) (D pre M : List Stamp) (t : Stamp) (ch : ChainView) → IsChainOf i c from f D pre M ch → ((s : Stamp) → has M s ≡ true → is_of i c s ≡ true) → is_of i c t ≡ false → IsChainOf i c from f (t ∷ D) pre M ch
other-chain i c from f D pre M t ch chain ours other =
    let front : front_in (t ∷ D) M ≡ front_in D M = front_in-alike_on (t ∷ D) D M (λ s m. apart s (ours s m) (has D s)) in
    record { floor = chain.floor; inc = chain.inc; held = rw front chain.held; top = rw front chain.top; early = λ s. chain.early s ∙ ap (λ b. cond {A = ℕ} b 1 0) (same s) }
  where
    apart : (s : Stamp) → is_of i c s ≡ true → (b : Bool) → (same_stamp t s || b) ≡ b
    apart s e b = ap (λ a. a || b) (false_from_ne_true (same_stamp t s) (λ k. both_ways _ other (subst (λ (x : Stamp). is_of i c x ≡ true) (sym (same_from_test t s k)) e)))

    same : (s : Stamp) → (has D s && (is_of i c s && leb ch.top s.from)) ≡ (has (t ∷ D) s && (is_of i c s && leb ch.top s.from))
    same s = ⊎_elim (λ (e : is_of i c s ≡ true). ap (λ b. b && (is_of i c s && leb ch.top s.from)) (sym (apart s e (has D s))))
        (λ (n : is_of i c s ≡ false). and_right (has D s) _ (and_left _ _ n) ∙ sym (and_right (has (t ∷ D) s) _ (and_left _ _ n)))
        (cases_Bool (is_of i c s))

-- what is taken lies past a position that the chain has reached
pub places-whole : (a : ℕ) (old : ChainView) (p : Piece) (t : Taken) (new : ChainView) → p.stamp.from < p.stamp.to → a ≤ old.top → Places old p t new → upto a (stamps_of new.held) ≡ upto a (stamps_of old.held)
places-whole a old p taken.Repeat new some le takes = ap (λ (v : ChainView). upto a (stamps_of v.held)) takes.1
places-whole a old p (taken.Early at) new some le takes = ap (λ (v : ChainView). upto a (stamps_of v.held)) takes.3.same
places-whole a old p (taken.Held at) new some le takes =
    let more = takes.3 in
    let run = more.joins.run in
    ap (λ ps. upto a (stamps_of ps)) more.held ∙ (ap (upto a) (stamps_of-append old.held (p ∷ more.joined))
    ∙ upto-append a (stamps_of old.held) (p.stamp ∷ stamps_of more.joined) (upto-none old.top a (p.stamp ∷ stamps_of more.joined) (takes.1, (let e = takes.1 in omega arith), run.0) le))
places-whole a old p (taken.Stale k) new some le takes = absurd takes
places-whole a old p (taken.Adrift k f o) new some le takes = absurd takes

-- a chain enters a later incarnation, whose base it has reached, and of which nothing arrived
pub entered-chain : (i f : ℕ) (D pre M : List Stamp) (old : ChainView) (p : Piece) → old.floor ≡ f → upto p.base (stamps_of old.held) ≡ past f pre →
    ((s : Stamp) → has D s ≡ true → is_of i p.stamp.inc.0 s ≡ true → ⊥) → ((s : Stamp) → has M s ≡ true → is_of i p.stamp.inc.0 s ≡ true) → IsChainOf i p.stamp.inc.0 p.base f D pre M (entered old p)
entered-chain i f D pre M old p floor cut none ours =
    let nothing : front_in D M ≡ [] = front_in-none D M (λ s m. false_from_ne_true _ (λ d. none s d (ours s m))) in
    record {
      floor = floor;
      inc = refl;
      held = stamps_of-pieces_upto p.base old.held ∙ (cut ∙ ap (past f) (sym (append-nil pre) ∙ ap (λ ys. pre ++ ys) (sym nothing)));
      top = sym (ap (end_of p.base) nothing);
      early = λ s. sym (cond-false _ 1 0 (false_from_ne_true _ (λ k. let parts = and_parts _ _ k in let both = and_parts _ _ parts.1 in none s parts.0 both.0)));
    }
