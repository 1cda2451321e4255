-- A stamp.
use Rattle.std.proofs.Common.{◌≡◌, ◌≢◌, ℕ, ◌+◌, ◌<◌, ◌≤◌, min, Bool, true, false, cond, eqb, leb, not, ◌&&◌, ⊎_elim, List, [], ◌∷◌, ◌++◌, None, refl, sym, ◌∙◌, ap, subst, arith, get_or, length}
use Rattle.std.proofs.Math.Path.{fun_ext}
use Rattle.std.proofs.lemmas.Bool.{cond_both, cond-true, cond-false, and_from, eqb-true, eq-eqb, ne_eqb, lt-leb, both_ways, false_from_ne_true}
use Rattle.std.proofs.lemmas.List.{length-set}
use Rattle.kin_ids.specs.declared.ids.IngestId.{IngestId}
use Rattle.kin_ids.specs.declared.stamps.Stamp.{Stamp}
use Rattle.kin_ids.specs.Lines.{has, front_in, end_of, upto, past, is_of, made_by, seen_in, next_stamp, with_next}
use Rattle.kin_ids.proofs.Lines.{end_of-append, end_within, front_in-fresh, made_by-push, upto-append}
use Rattle.kin_ids.proofs.Rounds.{get_or-set}
use Rattle.kin_ingest.specs.declared.ingests.Ingest.{Ingest}
use Rattle.kin_script.specs.declared.events.Event.{Event}
use Rattle.kin_script.specs.declared.outcomes.Outcome.{Outcome}
use Rattle.kin_script.specs.declared.events.Event.TheVariants as event
use Rattle.kin_script.specs.declared.outcomes.Outcome.TheVariants as outcome
use Rattle.kin_script.specs.declared.outcomes.Refusal.TheVariants as refusal
use Rattle.kin_history.specs.Setting.{Setting, nodes, feed_len}
use Rattle.kin_history.specs.Lines.{up, inc, line, next, sent, delivered, reported, bases, base, seen, agreed}
use Rattle.kin_history.specs.Vectors.{vector, committed}
use Rattle.kin_history.specs.Outcomes.{outcome_of}
use Rattle.kin_history.proofs.Made.{Quiet, Makes, new_stamp, stamps, delivered-sent, reported-sent}
use Rattle.kin_history.proofs.Sound.{IsSound, fresh}
use Rattle.kin_history.proofs.Seen.{seen-within}
use Rattle.kin_hub.specs.Stands.{HubStands}
use Rattle.kin_world.specs.declared.sent_logs.Sent.{Sent}
use Rattle.kin_world.specs.Worlds.{WorldView, node_at}
use Rattle.kin_world.specs.Steps.{stamped, after_stamp, Stamps}
use Rattle.kin_world.specs.Stands.{Stands, Keeps, node_of, with_bases, agreed_line, story_of}
use Rattle.kin_world.proofs.Facts.{good, node_in}
use Rattle.kin_world.proofs.Refusals.{refused-keeps}
use Rattle.kin_world.proofs.Sents.{with_base, with_bases-push}

-- what a new stamp leaves of lists of stamps
module _ (set : Setting) (h : List Event) (g : (i : ℕ) → IsSound set h i) (j n : ℕ) (some : 0 < n) where
  front-made : (i c : ℕ) (D : List Stamp) → ((x : Stamp) → has D x ≡ true → has (sent set h) x ≡ true) →
      front_in D (made_by i c (sent set (event.Stamp (record { 0 = j }) n ∷ h))) ≡ front_in D (made_by i c (sent set h))
  front-made i c D among = ⊎_elim (λ (q : Quiet set h j n i). ap (front_in D) (q.made_is c))
      (λ (m : Makes set h j n i).
      let x = new_stamp set h i n in
      ap (λ ys. front_in D (made_by i c ys)) m.sent_is ∙ (ap (front_in D) (made_by-push i c (sent set h) x)
      ∙ cond_both (is_of i c x) (made_by i c (sent set h) ++ x ∷ []) (made_by i c (sent set h)) (λ ys. front_in D ys ≡ front_in D (made_by i c (sent set h)))
      (λ _. front_in-fresh D (made_by i c (sent set h)) x (false_from_ne_true _ (λ d. both_ways _ (fresh set h j n i some m (g i)) (among x d)))) (λ _. refl)))
      (stamps set h j n i)

  upto-stamp : (i b : ℕ) → b ≤ next set h i → upto b (line set (event.Stamp (record { 0 = j }) n ∷ h) i) ≡ upto b (line set h i)
  upto-stamp i b le = ⊎_elim (λ (q : Quiet set h j n i). ap (upto b) q.line_is)
      (λ (m : Makes set h j n i).
      let within = (g i).within in
      let differ = m.more in
      let x = new_stamp set h i n in
      ap (upto b) m.line_is ∙ upto-append b (line set h i) (x ∷ []) (cond-false (leb x.to b) _ _ (lt-leb _ _ (omega arith))))
      (stamps set h j n i)

module _ (set : Setting) (w : WorldView) (h : List Event) (s : Stands set w h) (j : IngestId) (n : ℕ) (lt : j.0 < nodes set) where
  up_is : (node_at w j.0).up ≡ up set h j.0
  up_is = ap (λ (node : Ingest). node.up) (s.nodes.ingests j.0 lt)

  -- whether the node has stamped its whole feed
  at_end : (b : Bool) → eqb (node_at w j.0).next (node_at w j.0).len ≡ b → eqb (next set h j.0) (feed_len set j.0) ≡ b
  at_end b e = sym (ap (λ (node : Ingest). eqb node.next node.len) (s.nodes.ingests j.0 lt)) ∙ e

  made_is : stamped w j.0 n ≡ new_stamp set h j.0 n
  made_is = ap (λ (node : Ingest). next_stamp node.len node.id.0 node.inc.0 node.next n) (s.nodes.ingests j.0 lt)

  module _ (some : 0 < n) (few : n ≤ 16) (is : up set h j.0 ≡ true) (more : eqb (next set h j.0) (feed_len set j.0) ≡ false) where
    stamp-answers : outcome.Stamped (stamped w j.0 n) ≡ outcome_of set h (event.Stamp j n)
    stamp-answers = ap outcome.Stamped made_is ∙ sym (cond-false (not (up set h j.0)) _ _ (ap not is) ∙ cond-false (eqb (next set h j.0) (feed_len set j.0)) _ _ more)

    at_node : (i : ℕ) → i < nodes set → (b : Bool) → eqb j.0 i ≡ b → cond b (record (node_at w j.0) { next = (stamped w j.0 n).to }) (node_at w i)
        ≡ record { id = record { 0 = i }; len = feed_len set i; inc = record { 0 = inc set h i }; base = base set h i (inc set h i); next = end_of 0 (cond (b && up set h i) (with_next (feed_len set i) i (inc set h i) n (line set h i)) (line set h i)); up = up set h i }
    at_node i i_lt true e =
        let node_with : ℕ → ℕ → Ingest = λ k m. record (node_of set h k) { next = m } in
        let new_next : ℕ → ℕ = λ k. end_of 0 (cond (up set h k) (with_next (feed_len set k) k (inc set h k) n (line set h k)) (line set h k)) in
        let to : min (next set h j.0 + n) (feed_len set j.0) ≡ new_next j.0 =
        sym (ap (end_of 0) (cond-true (up set h j.0) _ _ is ∙ cond-false (eqb (next set h j.0) (feed_len set j.0)) _ _ more) ∙ end_of-append 0 (line set h j.0) _) in
        ap (λ (node : Ingest). record node { next = (next_stamp node.len node.id.0 node.inc.0 node.next n).to }) (s.nodes.ingests j.0 lt)
        ∙ (ap (node_with j.0) to ∙ ap (λ (k : ℕ). node_with k (new_next k)) (eqb-true j.0 i e))
    at_node i i_lt false e = s.nodes.ingests i i_lt

    sent_is : sent set (event.Stamp j n ∷ h) ≡ sent set h ++ new_stamp set h j.0 n ∷ []
    sent_is = cond-true (up set h j.0 && not (eqb (next set h j.0) (feed_len set j.0))) _ _ (and_from _ _ is (ap not more))

    stamp-stands : Stands set (after_stamp w j.0 (stamped w j.0 n)) (event.Stamp j n ∷ h)
    stamp-stands =
        let g = good set w h s in
        let in_feeds : j.0 < length w.feeds = subst (λ feeds. j.0 < length feeds) (sym s.over.feeds) lt in
        let kept : (i : ℕ) → agreed_line set (event.Stamp j n ∷ h) i ≡ agreed_line set h i =
        λ i. upto-stamp set h g j.0 n some i (agreed set h i) (end_within 0 (line set h i) (agreed set h i) (g i).run (g i).ends) in
        record {
          over = record {
            world = record { nodes = length-set w.ingests j.0 _ ∙ s.over.world.nodes; hub_nodes = s.over.world.hub_nodes; hub_parts = s.over.world.hub_parts };
            feeds = s.over.feeds;
            parts = s.over.parts;
            landmarks = s.over.landmarks;
            limits = s.over.limits;
            history = ((lt, some, few), s.over.history);
          };
          nodes = record {
            ingests = λ i i_lt. get_or-set w.ingests j.0 i _ _ (rw s.over.world.nodes in_feeds) ∙ at_node i i_lt (eqb j.0 i) refl;
            stamps = ap (λ (ys : List Sent). ys ++ record { stamp = stamped w j.0 n; base = (node_at w j.0).base } ∷ []) s.nodes.stamps
                ∙ (ap (λ (node : Ingest). let new : Sent = record { stamp = next_stamp node.len node.id.0 node.inc.0 node.next n; base = node.base } in with_bases (bases set h) (sent set h) ++ new ∷ []) (s.nodes.ingests j.0 lt)
                ∙ (sym (with_bases-push (bases set h) (sent set h) (new_stamp set h j.0 n)) ∙ ap (with_bases (bases set h)) (sym sent_is)));
          };
          partitions = record {
            chains = λ p i p_lt i_lt.
                let chain = s.partitions.chains p i p_lt i_lt in
                let c = seen set h p i in
                let D = delivered set h p in
                let front = front-made set h g j.0 n some i c D (delivered-sent set h p) in
                let older = (g i).older c (seen-within set h i p (g i)) in
                let end = end_within 0 (line set h i) (agreed set h i) (g i).run (g i).ends in
                let before = upto-stamp set h g j.0 n some i (base set h i c) (omega arith) in
                record {
                  floor = chain.floor;
                  inc = chain.inc;
                  held = chain.held ∙ (ap (λ ys. past (vector set h (committed set h p) i) (ys ++ front_in D (made_by i c (sent set h)))) (sym before)
                      ∙ ap (λ ys. past (vector set h (committed set h p) i) (upto (base set h i c) (line set (event.Stamp j n ∷ h) i) ++ ys)) (sym front));
                  top = chain.top ∙ ap (end_of (base set h i c)) (sym front);
                  early = chain.early;
                };
            rows = s.partitions.rows;
            row_incs = s.partitions.row_incs;
            row_tops = λ p i p_lt i_lt told. s.partitions.row_tops p i p_lt i_lt told
                ∙ ap (end_of (base set h i (seen_in (reported set h p) i))) (sym (front-made set h g j.0 n some i (seen_in (reported set h p) i) (reported set h p) (reported-sent set h p)));
          };
          epochs = record {
            vectors = s.epochs.vectors;
            committed_are = s.epochs.committed_are;
            kept = s.epochs.kept;
            hub = subst (λ (lines : ℕ → List Stamp). HubStands (record (story_of set h) { lines = lines }) w.hub) (fun_ext (λ i. sym (kept i))) s.epochs.hub;
          };
          mining = record { mined_is = s.mining.mined_is; open_is = s.mining.open_is; miner = s.mining.miner; quiet = s.mining.quiet };
        }

pub stamp-keeps : (old : WorldView) (j : IngestId) (n : ℕ) (o : Outcome) (new : WorldView) → j.0 < length old.feeds → 0 < n → n ≤ 16 → Stamps old j.0 n o new → Keeps old (event.Stamp j n) o new
stamp-keeps old j n (outcome.Refused refusal.Down) new lt some few made =
    refused-keeps old (event.Stamp j n) refusal.Down new (lt, some, few) made.1
    (λ set h s. cond-true (not (up set h j.0)) _ _ (ap not (sym (up_is set old h s j n (node_in set old h s j.0 lt)) ∙ made.0)))
stamp-keeps old j n (outcome.Refused refusal.Exhausted) new lt some few made =
    refused-keeps old (event.Stamp j n) refusal.Exhausted new (lt, some, few) made.2
    (λ set h s.
    let in_set = node_in set old h s j.0 lt in
    cond-false (not (up set h j.0)) _ _ (ap not (sym (up_is set old h s j n in_set) ∙ made.0))
    ∙ cond-true (eqb (next set h j.0) (feed_len set j.0)) _ _ (at_end set old h s j n in_set true (eq-eqb _ _ made.1)))
stamp-keeps old j n (outcome.Stamped stamp) new lt some few made = λ set h s.
    let in_set = node_in set old h s j.0 lt in
    let is : up set h j.0 ≡ true = sym (up_is set old h s j n in_set) ∙ made.0 in
    let more = at_end set old h s j n in_set false (ne_eqb _ _ made.1) in (
      ap outcome.Stamped made.2 ∙ stamp-answers set old h s j n in_set some few is more,
      subst (λ (w : WorldView). Stands set w (event.Stamp j n ∷ h)) (sym (made.3 ∙ ap (after_stamp old j.0) made.2)) (stamp-stands set old h s j n in_set some few is more),
    )
stamp-keeps old j n _ new lt some few made = absurd made
