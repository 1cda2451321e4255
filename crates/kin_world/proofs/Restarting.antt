-- A restart.
use Rattle.std.proofs.Common.{◌≡◌, ℕ, ◌+◌, ◌<◌, ◌≤◌, Bool, true, false, cond, eqb, ltb, not, ◌&&◌, ⊎_elim, List, [], ◌∷◌, ◌++◌, refl, sym, ◌∙◌, ap, subst, arith, get_or, length}
use Rattle.std.proofs.Math.Path.{fun_ext}
use Rattle.std.proofs.lemmas.Bool.{cond_both, cond-true, cond-false, and_from, and_left, and_parts, eqb-true, eq-eqb, lt-ltb, ltb-true, le-ltb}
use Rattle.std.proofs.lemmas.List.{length-set}
use Rattle.kin_ids.specs.declared.ids.Inc.{Inc}
use Rattle.kin_ids.specs.declared.ids.IngestId.{IngestId}
use Rattle.kin_ids.specs.declared.stamps.Stamp.{Stamp}
use Rattle.kin_ids.specs.Lines.{front_in, end_of, upto, past, made_by, seen_in}
use Rattle.kin_ids.proofs.Lines.{end_within, upto-end, upto-upto}
use Rattle.kin_ids.proofs.Rounds.{get_or-set}
use Rattle.kin_ingest.specs.declared.ingests.Ingest.{Ingest}
use Rattle.kin_script.specs.declared.events.Event.{Event}
use Rattle.kin_script.specs.declared.outcomes.Outcome.{Outcome}
use Rattle.kin_script.specs.declared.events.Event.TheVariants as event
use Rattle.kin_script.specs.declared.outcomes.Outcome.TheVariants as outcome
use Rattle.kin_script.specs.declared.outcomes.Refusal.TheVariants as refusal
use Rattle.kin_history.specs.Setting.{Setting, nodes, feed_len}
use Rattle.kin_history.specs.Lines.{comes_back, up, inc, line, next, sent, delivered, reported, bases, base, seen, agreed}
use Rattle.kin_history.specs.Vectors.{vector, committed}
use Rattle.kin_history.specs.Outcomes.{outcome_of}
use Rattle.kin_history.proofs.Answered.{last-inc}
use Rattle.kin_history.proofs.Made.{Stays, Back, restarts}
use Rattle.kin_history.proofs.Sound.{IsSound, old_base, new_base}
use Rattle.kin_history.proofs.Seen.{row-within, seen-within}
use Rattle.kin_hub.specs.Cores.{with_seal}
use Rattle.kin_hub.specs.Hubs.{HubView, agreed_in}
use Rattle.kin_hub.specs.Stands.{HubStands}
use Rattle.kin_hub.specs.Goes.{HubSeals, based}
use Rattle.kin_world.specs.Worlds.{WorldView, node_at}
use Rattle.kin_world.specs.Steps.{after_restart, Restarts, MayRestart}
use Rattle.kin_world.specs.Stands.{Stands, Keeps, node_of, with_bases, agreed_line, story_of}
use Rattle.kin_world.proofs.Facts.{good, node_in, agreed_is, inc_is}
use Rattle.kin_world.proofs.Refusals.{refused-keeps}
use Rattle.kin_world.proofs.Sents.{with_bases-alike}

-- what a restart leaves as it is
module _ (set : Setting) (h : List Event) (g : (i : ℕ) → IsSound set h i) (j : ℕ) where
  base-kept : (i c : ℕ) → c ≤ inc set h i → base set (event.Restart (record { 0 = j }) ∷ h) i c ≡ base set h i c
  base-kept i c le = ⊎_elim (λ (q : Stays set h j i). ap (λ (ys : List ℕ). get_or ys c 0) q.bases_is) (λ (b : Back set h j i). old_base set h j i c b (g i) le) (restarts set h j i)

  upto-kept : (i b : ℕ) → b ≤ agreed set h i → upto b (line set (event.Restart (record { 0 = j }) ∷ h) i) ≡ upto b (line set h i)
  upto-kept i b le = ⊎_elim (λ (q : Stays set h j i). ap (upto b) q.line_is) (λ (x : Back set h j i). ap (upto b) x.line_is ∙ upto-upto b (agreed set h i) (line set h i) le) (restarts set h j i)

module _ (set : Setting) (w : WorldView) (h : List Event) (s : Stands set w h) (j : IngestId) (lt : j.0 < nodes set) where
  up_is : (node_at w j.0).up ≡ up set h j.0
  up_is = ap (λ (node : Ingest). node.up) (s.nodes.ingests j.0 lt)

  node_inc : (node_at w j.0).inc.0 ≡ inc set h j.0
  node_inc = ap (λ (node : Ingest). node.inc.0) (s.nodes.ingests j.0 lt)

  pub may-restart : MayRestart w j.0
  may-restart =
      let g = good set w h s j.0 in
      let end = end_within 0 (line set h j.0) (agreed set h j.0) g.run g.ends in
      let within = g.within in
      let at = agreed_is set w h s j.0 lt in
      let len : (node_at w j.0).len ≡ feed_len set j.0 = ap (λ (node : Ingest). node.len) (s.nodes.ingests j.0 lt) in
      record { inc = inc_is set w h s j.0 lt ∙ sym node_inc; within = omega arith }

  module _ (c : Inc) (a : ℕ) (down : up set h j.0 ≡ false) (left : inc set h j.0 < 65535) (c_is : c.0 ≡ inc set h j.0 + 1) (a_is : a ≡ agreed set h j.0) where
    room : ltb (inc set h j.0) 65535 ≡ true
    room = lt-ltb _ _ left

    comes : comes_back (up set h j.0) (inc set h j.0) ≡ true
    comes = and_from _ _ (ap not down) room

    here : (eqb j.0 j.0 && comes_back (up set h j.0) (inc set h j.0)) ≡ true
    here = and_from _ _ (eq-eqb j.0 j.0 refl) comes

    is_back : Back set h j.0 j.0
    is_back = record { line_is = cond-true _ _ _ here; inc_is = cond-true _ _ _ here; bases_is = cond-true _ _ _ here }

    restart-answers : outcome.Restarted c a ≡ outcome_of set h (event.Restart j)
    restart-answers =
        let restarted : ℕ → ℕ → Outcome = λ k at. outcome.Restarted (record { 0 = k }) at in
        ap (λ (k : ℕ). restarted k a) c_is
        ∙ (ap (restarted (inc set h j.0 + 1)) a_is ∙ sym (cond-false (up set h j.0) _ _ down ∙ cond-true (ltb (inc set h j.0) 65535) _ _ room))

    -- the node after it
    node_is : ◌≡◌ {A = Ingest} (record (node_at w j.0) { inc = c; base = a; next = a; up = true }) (node_of set (event.Restart j ∷ h) j.0)
    node_is =
        let node_with : ℕ → ℕ → ℕ → Bool → Ingest = λ k x y u. record { id = record { 0 = j.0 }; len = feed_len set j.0; inc = record { 0 = k }; base = x; next = y; up = u } in
        let g = good set w h s j.0 in
        let at = agreed set h j.0 in
        let new_inc = inc set (event.Restart j ∷ h) j.0 in
        let inc_now : c.0 ≡ new_inc = c_is ∙ sym is_back.inc_is in
        let base_now : a ≡ base set (event.Restart j ∷ h) j.0 new_inc = a_is ∙ sym (ap (base set (event.Restart j ∷ h) j.0) is_back.inc_is ∙ new_base set h j.0 j.0 is_back g) in
        let next_now : a ≡ next set (event.Restart j ∷ h) j.0 = a_is ∙ sym (ap (end_of 0) is_back.line_is ∙ upto-end 0 at (line set h j.0) g.run g.ends) in
        let up_now : up set (event.Restart j ∷ h) j.0 ≡ true = cond-true _ _ _ here in
        ap (λ (node : Ingest). record node { inc = c; base = a; next = a; up = true }) (s.nodes.ingests j.0 lt)
        ∙ (ap (λ (k : ℕ). node_with k a a true) inc_now
        ∙ (ap (λ (x : ℕ). node_with new_inc x a true) base_now
        ∙ (ap (λ (y : ℕ). node_with new_inc (base set (event.Restart j ∷ h) j.0 new_inc) y true) next_now
        ∙ ap (node_with new_inc (base set (event.Restart j ∷ h) j.0 new_inc) (next set (event.Restart j ∷ h) j.0)) (sym up_now))))

    at_node : (i : ℕ) → i < nodes set → (b : Bool) → eqb j.0 i ≡ b → ◌≡◌ {A = Ingest} (cond b (record (node_at w j.0) { inc = c; base = a; next = a; up = true }) (node_at w i)) (node_of set (event.Restart j ∷ h) i)
    at_node i i_lt true e = subst (λ (k : ℕ). ◌≡◌ {A = Ingest} (record (node_at w j.0) { inc = c; base = a; next = a; up = true }) (node_of set (event.Restart j ∷ h) k)) (eqb-true j.0 i e) node_is
    at_node i i_lt false e = let off : (eqb j.0 i && comes_back (up set h i) (inc set h i)) ≡ false = and_left _ _ e in rw off (s.nodes.ingests i i_lt)

    bases-are : (i : ℕ) → based (bases set h) j.0 (agreed_in w.hub j.0) i ≡ bases set (event.Restart j ∷ h) i
    bases-are i = go (eqb j.0 i) refl
      where
        go : (b : Bool) → eqb j.0 i ≡ b → cond b (bases set h i ++ agreed_in w.hub j.0 ∷ []) (bases set h i) ≡ cond (b && comes_back (up set h i) (inc set h i)) (bases set h i ++ agreed set h i ∷ []) (bases set h i)
        go true e =
            subst (λ (k : ℕ). bases set h k ++ agreed_in w.hub j.0 ∷ [] ≡ cond (comes_back (up set h k) (inc set h k)) (bases set h k ++ agreed set h k ∷ []) (bases set h k)) (eqb-true j.0 i e)
            (ap (λ (at : ℕ). bases set h j.0 ++ at ∷ []) (agreed_is set w h s j.0 lt) ∙ sym (cond-true _ _ _ comes))
        go false e = refl

    restart-stands : HubSeals w.hub j.0 (record w.hub { core = with_seal w.hub.core j.0 }) → Stands set (after_restart w j.0 c a) (event.Restart j ∷ h)
    restart-stands seals =
        let g = good set w h s in
        let in_feeds : j.0 < length w.feeds = subst (λ feeds. j.0 < length feeds) (sym s.over.feeds) lt in
        let sealed : HubView = record w.hub { core = with_seal w.hub.core j.0 } in
        let based_hub = subst (λ (bs : ℕ → List ℕ). HubStands (record (story_of set h) { bases = bs }) sealed) (fun_ext bases-are) (seals _ s.epochs.hub) in
        record {
          over = record {
            world = record { nodes = length-set w.ingests j.0 _ ∙ s.over.world.nodes; hub_nodes = s.over.world.hub_nodes; hub_parts = s.over.world.hub_parts };
            feeds = s.over.feeds;
            parts = s.over.parts;
            landmarks = s.over.landmarks;
            limits = s.over.limits;
            history = (lt, s.over.history);
          };
          nodes = record {
            ingests = λ i i_lt. get_or-set w.ingests j.0 i _ _ (rw s.over.world.nodes in_feeds) ∙ at_node i i_lt (eqb j.0 i) refl;
            stamps = s.nodes.stamps ∙ with_bases-alike (bases set h) (bases set (event.Restart j ∷ h)) (sent set h) (λ x k. sym (base-kept set h g j.0 x.ingest.0 x.inc.0 ((g x.ingest.0).later x k refl)));
          };
          partitions = record {
            chains = λ p i p_lt i_lt.
                let chain = s.partitions.chains p i p_lt i_lt in
                let k = seen set h p i in
                let D = delivered set h p in
                let within = seen-within set h i p (g i) in
                let same = base-kept set h g j.0 i k within in
                let before : upto (base set (event.Restart j ∷ h) i k) (line set (event.Restart j ∷ h) i) ≡ upto (base set h i k) (line set h i) =
                ap (λ (b : ℕ). upto b (line set (event.Restart j ∷ h) i)) same ∙ upto-kept set h g j.0 i (base set h i k) ((g i).older k within) in
                record {
                  floor = chain.floor;
                  inc = chain.inc;
                  held = chain.held ∙ ap (λ ys. past (vector set h (committed set h p) i) (ys ++ front_in D (made_by i k (sent set h)))) (sym before);
                  top = chain.top ∙ ap (λ (b : ℕ). end_of b (front_in D (made_by i k (sent set h)))) (sym same);
                  early = chain.early;
                };
            rows = s.partitions.rows;
            row_incs = s.partitions.row_incs;
            row_tops = λ p i p_lt i_lt told. s.partitions.row_tops p i p_lt i_lt told
                ∙ ap (λ (b : ℕ). end_of b (front_in (reported set h p) (made_by i (seen_in (reported set h p) i) (sent set h)))) (sym (base-kept set h g j.0 i (seen_in (reported set h p) i) (row-within set h i p (g i))));
          };
          epochs = record {
            vectors = s.epochs.vectors;
            committed_are = s.epochs.committed_are;
            kept = s.epochs.kept;
            hub = subst (λ (lines : ℕ → List Stamp). HubStands (record (story_of set h) { lines = lines; bases = bases set (event.Restart j ∷ h) }) sealed) (fun_ext (λ i. sym (upto-kept set h g j.0 i (agreed set h i) (omega arith)))) based_hub;
          };
          mining = record { mined_is = s.mining.mined_is; open_is = s.mining.open_is; miner = s.mining.miner; quiet = s.mining.quiet };
        }

pub restart-keeps : (old : WorldView) (j : IngestId) (o : Outcome) (new : WorldView) → j.0 < length old.feeds → Restarts old j.0 o new → Keeps old (event.Restart j) o new
restart-keeps old j (outcome.Refused refusal.Up) new lt back =
    refused-keeps old (event.Restart j) refusal.Up new lt back.1
    (λ set h s. cond-true (up set h j.0) _ _ (sym (up_is set old h s j (node_in set old h s j.0 lt)) ∙ back.0))
restart-keeps old j (outcome.Refused refusal.IncarnationsSpent) new lt back =
    refused-keeps old (event.Restart j) refusal.IncarnationsSpent new lt back.2
    (λ set h s.
    let in_set = node_in set old h s j.0 lt in
    let same_inc : (node_at old j.0).inc.0 ≡ inc set h j.0 = node_inc set old h s j in_set in
    let spent = back.1 in
    cond-false (up set h j.0) _ _ (sym (up_is set old h s j in_set) ∙ back.0) ∙ cond-false (ltb (inc set h j.0) 65535) _ _ (le-ltb _ _ (omega arith)))
restart-keeps old j (outcome.Restarted c a) new lt back = λ set h s.
    let in_set = node_in set old h s j.0 lt in
    let same_inc : (node_at old j.0).inc.0 ≡ inc set h j.0 = node_inc set old h s j in_set in
    let down : up set h j.0 ≡ false = sym (up_is set old h s j in_set) ∙ back.down in
    let most = last-inc set h j.0 in
    let room = back.left in
    let left : inc set h j.0 < 65535 = omega arith in
    let c_is : c.0 ≡ inc set h j.0 + 1 = back.inc ∙ ap (λ (k : ℕ). k + 1) same_inc in
    let a_is : a ≡ agreed set h j.0 = back.at ∙ agreed_is set old h s j.0 in_set in (
      restart-answers set old h s j in_set c a down left c_is a_is,
      subst (λ (w : WorldView). Stands set w (event.Restart j ∷ h)) (sym back.world)
          (restart-stands set old h s j in_set c a down left c_is a_is (subst (λ (w : WorldView). HubSeals old.hub j.0 w.hub) back.world back.seals)),
    )
restart-keeps old j _ new lt back = absurd back
