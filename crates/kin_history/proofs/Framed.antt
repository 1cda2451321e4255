-- What an event leaves as it was, and what tops are.
use Rattle.std.proofs.Common.{◌≡◌, ◌≢◌, ◌<◌, ℕ, false, eqb, ◌&&◌, List, [], ◌∷◌, ◌++◌, Some, refl, ap, ◌∙◌, not, nat_lt}
use Rattle.std.proofs.lemmas.Bool.{cond_both, cond-true, cond-false, and_left, eq-eqb, ne_eqb}
use Rattle.kin_ids.specs.declared.ids.IngestId.{IngestId}
use Rattle.kin_ids.specs.Lines.{front_in, made_by, is_of}
use Rattle.kin_ids.proofs.Lines.{line_grows, front-line, front-has, front-upto, front-stops, front-end, made_by-push}
use Rattle.kin_script.specs.declared.events.Event.{Event}
use Rattle.kin_script.specs.declared.events.Event.TheVariants as event
use Rattle.kin_history.specs.Setting.{Setting, feed_len, IsHistory}
use Rattle.kin_history.specs.Lines.{comes_back, up, inc, base, next, sent, delivered, seen}
use Rattle.kin_history.specs.Vectors.{cuts, committed}
use Rattle.kin_history.specs.FrameLaws.{node_of, part_of, KeepsNode, KeepsPart, IsRaise, IsTop}
use Rattle.kin_history.proofs.Made.{new_stamp}
use Rattle.kin_history.proofs.Sound.{sound}
use Rattle.kin_history.proofs.Seen.{seen-within}

module _ (set : Setting) (h : List Event) where
  pub other-nodes : (e : Event) (i : ℕ) → node_of e ≢ Some i → KeepsNode set h (e ∷ h) i
  other-nodes (event.Stamp j n) i ne =
      let off : eqb j.0 i ≡ false = ne_eqb j.0 i (λ e. ne (ap Some e)) in
      record {
        up = refl;
        inc = refl;
        line = cond-false (eqb j.0 i && up set h i) _ _ (and_left _ _ off);
        bases = refl;
        agreed = refl;
        made = λ c. cond_both (up set h j.0 && not (eqb (next set h j.0) (feed_len set j.0))) (sent set h ++ new_stamp set h j.0 n ∷ []) (sent set h) (λ ys. made_by i c ys ≡ made_by i c (sent set h))
            (λ _. made_by-push i c (sent set h) (new_stamp set h j.0 n) ∙ cond-false (is_of i c (new_stamp set h j.0 n)) _ _ (and_left _ _ off)) (λ _. refl);
      }
  other-nodes (event.Raise j) i ne =
      let off : eqb j.0 i ≡ false = ne_eqb j.0 i (λ e. ne (ap Some e)) in
      record { up = refl; inc = refl; line = refl; bases = refl; agreed = cond-false (eqb j.0 i) _ _ off; made = λ c. refl }
  other-nodes (event.Crash j) i ne =
      let off : eqb j.0 i ≡ false = ne_eqb j.0 i (λ e. ne (ap Some e)) in
      record { up = cond-false (eqb j.0 i) _ _ off; inc = refl; line = refl; bases = refl; agreed = refl; made = λ c. refl }
  other-nodes (event.Restart j) i ne =
      let off : (eqb j.0 i && comes_back (up set h i) (inc set h i)) ≡ false = and_left _ _ (ne_eqb j.0 i (λ e. ne (ap Some e))) in
      record {
        up = cond-false (eqb j.0 i && comes_back (up set h i) (inc set h i)) _ _ off;
        inc = cond-false (eqb j.0 i && comes_back (up set h i) (inc set h i)) _ _ off;
        line = cond-false (eqb j.0 i && comes_back (up set h i) (inc set h i)) _ _ off;
        bases = cond-false (eqb j.0 i && comes_back (up set h i) (inc set h i)) _ _ off;
        agreed = refl;
        made = λ c. refl;
      }
  other-nodes _ i ne = record { up = refl; inc = refl; line = refl; bases = refl; agreed = refl; made = λ c. refl }

  pub other-parts : (e : Event) (p : ℕ) → part_of e ≢ Some p → KeepsPart set h (e ∷ h) p
  other-parts (event.Deliver q j c to) p ne =
      let off : eqb q.0 p ≡ false = ne_eqb q.0 p (λ e. ne (ap Some e)) in
      record { delivered = cond-false (eqb q.0 p) _ _ off; reported = refl; has_reported = refl; committed = refl }
  other-parts (event.Report q) p ne =
      let off : eqb q.0 p ≡ false = ne_eqb q.0 p (λ e. ne (ap Some e)) in
      record { delivered = refl; reported = cond-false (eqb q.0 p) _ _ off; has_reported = cond-false (eqb q.0 p) _ _ off; committed = refl }
  other-parts (event.Commit q) p ne =
      let off : eqb q.0 p ≡ false = ne_eqb q.0 p (λ e. ne (ap Some e)) in
      record { delivered = refl; reported = refl; has_reported = refl; committed = cond-false (eqb q.0 p && nat_lt (committed set h p) (cuts set h)) _ _ (and_left _ _ off) }
  other-parts _ p ne = record { delivered = refl; reported = refl; has_reported = refl; committed = refl }

  pub raises-one : (j : IngestId) → IsRaise set h j
  raises-one j = record { agreed = cond-true (eqb j.0 j.0) _ _ (eq-eqb j.0 j.0 refl); up = refl; inc = refl; line = refl; bases = refl }

  pub top-is : (p i : ℕ) → 0 < set.parts → IsHistory set h → IsTop set h p i
  top-is p i some legal =
      let g = sound set h i some legal in
      let c = seen set h p i in
      let b = base set h i c in
      let M = made_by i c (sent set h) in
      let D = delivered set h p in
      let run = g.made c (seen-within set h i p g) in
      record {
        from = line_grows b (front_in D M) (front-line D b M run);
        ends = front-end D b M;
        came = λ s k le. (front-has D M s (front-upto D b M s run k le)).1;
        last = λ s k e. front-stops D b M s run k e;
      }
