-- What events make of stamps and deliveries: what a stamp and a restart do to a node, and that what arrived was made.
use Rattle.std.proofs.Common.{◌≡◌, ◌≢◌, ℕ, ◌+◌, Bool, true, false, cond, eqb, ◌&&◌, ◌||◌, ◌⊎◌, inl, inr, ⊎_elim, List, [], ◌∷◌, ◌++◌, Option, Some, None, refl, sym, ◌∙◌, ap, subst, not}
use Rattle.std.proofs.lemmas.Bool.{cond_both, cond-true, cond-false, true≢false, and_parts, and_from, or_cases, or_left, or_right, eqb-true, eqb-false, eq-eqb, ne_eqb, cases_eq, false_from_ne_true, and_left, and_right}
use Rattle.std.proofs.lemmas.Option.{none-some}
use Rattle.kin_ids.specs.declared.stamps.Stamp.{Stamp}
use Rattle.kin_ids.specs.Lines.{same_stamp, has, find_stamp, next_stamp, with_found, is_of, made_by, upto}
use Rattle.kin_ids.proofs.Lines.{same_stamp-refl, same_from_test, has-push, made_by-push}
use Rattle.kin_script.specs.declared.events.Event.{Event}
use Rattle.kin_script.specs.declared.events.Event.TheVariants as event
use Rattle.kin_history.specs.Setting.{Setting, feed_len}
use Rattle.kin_history.specs.Lines.{comes_back, up, inc, line, next, sent, delivered, reported, has_reported, bases, agreed}

-- what is found is among those that were made, and is what was looked for
pub record IsFound (ss : List Stamp) (i c at : ℕ) (s : Stamp) : Type 0 where
  pub made : has ss s ≡ true
  pub ingest : s.ingest.0 ≡ i
  pub inc : s.inc.0 ≡ c
  pub to : s.to ≡ at

pub found : (ss : List Stamp) (i c to : ℕ) (s : Stamp) → find_stamp ss i c to ≡ Some s → IsFound ss i c to s
found [] i c to s = λ e. absurd (none-some s e)
found (x ∷ ss) i c to s = go ((eqb x.ingest.0 i && eqb x.inc.0 c) && eqb x.to to) refl (found ss i c to s)
  where
    go : (b : Bool) → ((eqb x.ingest.0 i && eqb x.inc.0 c) && eqb x.to to) ≡ b → (find_stamp ss i c to ≡ Some s → IsFound ss i c to s) → cond b (Some x) (find_stamp ss i c to) ≡ Some s → IsFound (x ∷ ss) i c to s
    go true t ih e =
        let same : x ≡ s = cc in
        let parts = and_parts _ _ t in
        let ids = and_parts _ _ parts.0 in
        record {
          made = or_left _ _ (subst (λ (y : Stamp). same_stamp x y ≡ true) same (same_stamp-refl x));
          ingest = ap (λ (y : Stamp). y.ingest.0) (sym same) ∙ eqb-true _ _ ids.0;
          inc = ap (λ (y : Stamp). y.inc.0) (sym same) ∙ eqb-true _ _ ids.1;
          to = ap (λ (y : Stamp). y.to) (sym same) ∙ eqb-true _ _ parts.1;
        }
    go false t ih e =
        let rest = ih e in
        record { made = or_right _ _ rest.made; ingest = rest.ingest; inc = rest.inc; to = rest.to }

more : (o : Option Stamp) (D : List Stamp) (s : Stamp) → has D s ≡ true → has (with_found o D) s ≡ true
more None D s h = h
more (Some x) D s h = or_right _ _ h

module _ (set : Setting) where
  -- what a stamp does to one node: nothing, or it makes the node's next one
  pub record Quiet (h : List Event) (j n i : ℕ) : Type 0 where
    pub line_is : line set (event.Stamp (record { 0 = j }) n ∷ h) i ≡ line set h i
    pub made_is : (c : ℕ) → made_by i c (sent set (event.Stamp (record { 0 = j }) n ∷ h)) ≡ made_by i c (sent set h)
    pub sent_is : (s : Stamp) → s.ingest.0 ≡ i → has (sent set (event.Stamp (record { 0 = j }) n ∷ h)) s ≡ has (sent set h) s

  abbrev pub new_stamp : List Event → ℕ → ℕ → Stamp
  new_stamp h i n = next_stamp (feed_len set i) i (inc set h i) (next set h i) n

  pub record Makes (h : List Event) (j n i : ℕ) : Type 0 where
    pub line_is : line set (event.Stamp (record { 0 = j }) n ∷ h) i ≡ line set h i ++ new_stamp h i n ∷ []
    pub sent_is : sent set (event.Stamp (record { 0 = j }) n ∷ h) ≡ sent set h ++ new_stamp h i n ∷ []
    pub more : next set h i ≢ feed_len set i

  pub stamps : (h : List Event) (j n i : ℕ) → Quiet h j n i ⊎ Makes h j n i
  stamps h j n i = ⊎_elim (λ (e : j ≡ i). subst (λ (k : ℕ). Quiet h j n k ⊎ Makes h j n k) e (here (up set h j) refl (eqb (next set h j) (feed_len set j)) refl)) (λ (ne : j ≢ i). inl (other ne)) (cases_eq j i)
    where
      here : (u : Bool) → up set h j ≡ u → (x : Bool) → eqb (next set h j) (feed_len set j) ≡ x → Quiet h j n j ⊎ Makes h j n j
      here false u x e = inl (record {
        line_is = cond-false (eqb j j && up set h j) _ _ (and_right _ _ u);
        made_is = λ c. ap (made_by j c) (cond-false (up set h j && not (eqb (next set h j) (feed_len set j))) _ _ (and_left _ _ u));
        sent_is = λ s _. ap (λ ys. has ys s) (cond-false (up set h j && not (eqb (next set h j) (feed_len set j))) _ _ (and_left _ _ u));
      })
      here true u true e =
          let none : (up set h j && not (eqb (next set h j) (feed_len set j))) ≡ false = and_right _ _ (ap not e) in
          inl (record {
            line_is = cond-true (eqb j j && up set h j) _ _ (and_from _ _ (eq-eqb j j refl) u) ∙ cond-true (eqb (next set h j) (feed_len set j)) _ _ e;
            made_is = λ c. ap (made_by j c) (cond-false (up set h j && not (eqb (next set h j) (feed_len set j))) _ _ none);
            sent_is = λ s _. ap (λ ys. has ys s) (cond-false (up set h j && not (eqb (next set h j) (feed_len set j))) _ _ none);
          })
      here true u false e = inr (record {
        line_is = cond-true (eqb j j && up set h j) _ _ (and_from _ _ (eq-eqb j j refl) u) ∙ cond-false (eqb (next set h j) (feed_len set j)) _ _ e;
        sent_is = cond-true (up set h j && not (eqb (next set h j) (feed_len set j))) _ _ (and_from _ _ u (ap not e));
        more = eqb-false _ _ e;
      })

      other : j ≢ i → Quiet h j n i
      other ne = record {
        line_is = cond-false (eqb j i && up set h i) _ _ (and_left _ _ (ne_eqb j i ne));
        made_is = λ c. cond_both (up set h j && not (eqb (next set h j) (feed_len set j))) (sent set h ++ new_stamp h j n ∷ []) (sent set h) (λ ys. made_by i c ys ≡ made_by i c (sent set h))
            (λ _. made_by-push i c (sent set h) (new_stamp h j n) ∙ cond-false (is_of i c (new_stamp h j n)) _ _ (and_left _ _ (ne_eqb j i ne))) (λ _. refl);
        sent_is = λ s e. cond_both (up set h j && not (eqb (next set h j) (feed_len set j))) (sent set h ++ new_stamp h j n ∷ []) (sent set h) (λ ys. has ys s ≡ has (sent set h) s)
            (λ _. has-push (sent set h) (new_stamp h j n) s ∙ or_false (has (sent set h) s) (same_stamp (new_stamp h j n) s)
            (false_from_ne_true _ (λ t. ne (ap (λ (y : Stamp). y.ingest.0) (same_from_test (new_stamp h j n) s t) ∙ e)))) (λ _. refl);
      }
        where
          or_false : (a b : Bool) → b ≡ false → (a || b) ≡ a
          or_false true b e = refl
          or_false false b e = e

  -- what a restart does to one node: nothing, or the node comes back at its agreed position
  pub record Stays (h : List Event) (j i : ℕ) : Type 0 where
    pub line_is : line set (event.Restart (record { 0 = j }) ∷ h) i ≡ line set h i
    pub inc_is : inc set (event.Restart (record { 0 = j }) ∷ h) i ≡ inc set h i
    pub bases_is : bases set (event.Restart (record { 0 = j }) ∷ h) i ≡ bases set h i

  pub record Back (h : List Event) (j i : ℕ) : Type 0 where
    pub line_is : line set (event.Restart (record { 0 = j }) ∷ h) i ≡ upto (agreed set h i) (line set h i)
    pub inc_is : inc set (event.Restart (record { 0 = j }) ∷ h) i ≡ inc set h i + 1
    pub bases_is : bases set (event.Restart (record { 0 = j }) ∷ h) i ≡ bases set h i ++ agreed set h i ∷ []

  pub restarts : (h : List Event) (j i : ℕ) → Stays h j i ⊎ Back h j i
  restarts h j i = go (eqb j i && comes_back (up set h i) (inc set h i)) refl
    where
      go : (b : Bool) → (eqb j i && comes_back (up set h i) (inc set h i)) ≡ b → Stays h j i ⊎ Back h j i
      go true e = inr (record { line_is = cond-true (eqb j i && comes_back (up set h i) (inc set h i)) _ _ e; inc_is = cond-true (eqb j i && comes_back (up set h i) (inc set h i)) _ _ e; bases_is = cond-true (eqb j i && comes_back (up set h i) (inc set h i)) _ _ e })
      go false e = inl (record { line_is = cond-false (eqb j i && comes_back (up set h i) (inc set h i)) _ _ e; inc_is = cond-false (eqb j i && comes_back (up set h i) (inc set h i)) _ _ e; bases_is = cond-false (eqb j i && comes_back (up set h i) (inc set h i)) _ _ e })

  -- what was made stays made
  pub sent-grows : (h : List Event) (e : Event) (s : Stamp) → has (sent set h) s ≡ true → has (sent set (e ∷ h)) s ≡ true
  sent-grows h (event.Stamp j n) s k = cond_both (up set h j.0 && not (eqb (next set h j.0) (feed_len set j.0))) (sent set h ++ new_stamp h j.0 n ∷ []) (sent set h) (λ ys. has ys s ≡ true)
      (λ _. has-push (sent set h) (new_stamp h j.0 n) s ∙ or_left _ _ k) (λ _. k)
  sent-grows h _ s k = k

  -- what was delivered was made
  pub delivered-sent : (h : List Event) (p : ℕ) (s : Stamp) → has (delivered set h p) s ≡ true → has (sent set h) s ≡ true
  delivered-sent [] p s = λ d. d
  delivered-sent (event.Stamp j n ∷ h) p s = λ d. sent-grows h (event.Stamp j n) s (delivered-sent h p s d)
  delivered-sent (event.Deliver q j c to ∷ h) p s =
      cond_both (eqb q.0 p) (with_found (find_stamp (sent set h) j.0 c.0 to) (delivered set h p)) (delivered set h p) (λ ys. has ys s ≡ true → has (sent set h) s ≡ true)
      (λ _. go (find_stamp (sent set h) j.0 c.0 to) refl (delivered-sent h p s)) (λ _. delivered-sent h p s)
    where
      go : (o : Option Stamp) → find_stamp (sent set h) j.0 c.0 to ≡ o → (has (delivered set h p) s ≡ true → has (sent set h) s ≡ true) → has (with_found o (delivered set h p)) s ≡ true → has (sent set h) s ≡ true
      go None e ih d = ih d
      go (Some x) e ih d =
          ⊎_elim (λ (same : same_stamp x s ≡ true). subst (λ (y : Stamp). has (sent set h) y ≡ true) (same_from_test x s same) (found (sent set h) j.0 c.0 to x e).made)
          (λ (r : has (delivered set h p) s ≡ true). ih r) (or_cases (same_stamp x s) (has (delivered set h p) s) d)
  delivered-sent (_ ∷ h) p s = delivered-sent h p s

  -- what was delivered stays delivered
  pub delivered-grows : (h : List Event) (e : Event) (p : ℕ) (s : Stamp) → has (delivered set h p) s ≡ true → has (delivered set (e ∷ h) p) s ≡ true
  delivered-grows h (event.Deliver q j c to) p s k =
      cond_both (eqb q.0 p) (with_found (find_stamp (sent set h) j.0 c.0 to) (delivered set h p)) (delivered set h p) (λ ys. has ys s ≡ true)
      (λ _. more (find_stamp (sent set h) j.0 c.0 to) (delivered set h p) s k) (λ _. k)
  delivered-grows h _ p s k = k

  -- what was reported was delivered
  pub reported-delivered : (h : List Event) (p : ℕ) (s : Stamp) → has (reported set h p) s ≡ true → has (delivered set h p) s ≡ true
  reported-delivered [] p s = λ r. r
  reported-delivered (event.Deliver q j c to ∷ h) p s = λ r. delivered-grows h (event.Deliver q j c to) p s (reported-delivered h p s r)
  reported-delivered (event.Report q ∷ h) p s =
      cond_both (eqb q.0 p) (delivered set h p) (reported set h p) (λ ys. has ys s ≡ true → has (delivered set h p) s ≡ true) (λ _ r. r) (λ _. reported-delivered h p s)
  reported-delivered (_ ∷ h) p s = reported-delivered h p s

  pub reported-sent : (h : List Event) (p : ℕ) (s : Stamp) → has (reported set h p) s ≡ true → has (sent set h) s ≡ true
  reported-sent h p s r = delivered-sent h p s (reported-delivered h p s r)

  -- nothing was reported by a partition that never reported
  pub unreported : (h : List Event) (p : ℕ) → has_reported set h p ≡ false → reported set h p ≡ []
  unreported [] p = λ n. refl
  unreported (event.Report q ∷ h) p = go (eqb q.0 p) (unreported h p)
    where
      go : (b : Bool) → (has_reported set h p ≡ false → reported set h p ≡ []) → cond b true (has_reported set h p) ≡ false → cond b (delivered set h p) (reported set h p) ≡ []
      go true ih n = absurd (true≢false n)
      go false ih n = ih n
  unreported (_ ∷ h) p = unreported h p
