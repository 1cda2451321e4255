-- A delivery.
use Rattle.std.proofs.Common.{◌≡◌, ℕ, ◌<◌, Bool, true, false, cond, eqb, List, [], ◌∷◌, Option, Some, None, refl, sym, ◌∙◌, ap, subst, arith, set as put, length}
use Rattle.std.proofs.lemmas.Bool.{cond-true, cond-false, eqb-true, eqb-false, eq-eqb}
use Rattle.std.proofs.lemmas.List.{length-set}
use Rattle.kin_ids.specs.declared.ids.Inc.{Inc}
use Rattle.kin_ids.specs.declared.ids.IngestId.{IngestId}
use Rattle.kin_ids.specs.declared.ids.PartId.{PartId}
use Rattle.kin_ids.specs.declared.ops.Piece.{Piece}
use Rattle.kin_ids.specs.declared.ops.Record.{Record}
use Rattle.kin_ids.specs.declared.stamps.Stamp.{Stamp}
use Rattle.kin_ids.specs.Lines.{has, find_stamp, with_found, seen_in}
use Rattle.kin_ids.specs.Operations.{Fits}
use Rattle.kin_ids.proofs.Rounds.{get_or-set}
use Rattle.kin_script.specs.declared.events.Event.{Event}
use Rattle.kin_script.specs.declared.outcomes.Outcome.{Outcome}
use Rattle.kin_script.specs.declared.events.Event.TheVariants as event
use Rattle.kin_script.specs.declared.outcomes.Outcome.TheVariants as outcome
use Rattle.kin_script.specs.declared.outcomes.Refusal.TheVariants as refusal
use Rattle.kin_history.specs.Setting.{Setting, nodes}
use Rattle.kin_history.specs.Lines.{sent, delivered, bases, base, top_in, seen}
use Rattle.kin_history.specs.Vectors.{vector}
use Rattle.kin_history.specs.Outcomes.{delivery, outcome_of}
use Rattle.kin_held.specs.Chains.{ChainView, chain_at}
use Rattle.kin_held.specs.Takes.{Takes}
use Rattle.kin_held.specs.declared.answers.Taken.{Taken}
use Rattle.kin_blocks.specs.Versions.{VersionsView}
use Rattle.kin_hub.specs.Cores.{CoreView, CoreTakes, held_at}
use Rattle.kin_hub.specs.Hubs.{HubView, chain_in}
use Rattle.kin_hub.specs.Goes.{IsKnown, Knows, HubPlaces}
use Rattle.kin_world.specs.declared.sent_logs.Sent.{Sent}
use Rattle.kin_world.specs.SentStamps.{find_sent}
use Rattle.kin_world.specs.Worlds.{WorldView}
use Rattle.kin_world.specs.Steps.{IsPieceFor, told, IsNotAdrift, TakesPiece, Delivers}
use Rattle.kin_world.specs.Stands.{Stands, HasHistory, Keeps, agreed_line, story_of}
use Rattle.kin_world.proofs.Facts.{good, node_in, part_in, inc_is}
use Rattle.kin_world.proofs.Refusals.{refused-keeps}
use Rattle.kin_world.proofs.Made.{IsMade, made-of, stamp_of, none_of}
use Rattle.kin_world.proofs.Taking.{Chained, delivery_answer, other-node, is_told, Took, took}

-- a piece of a stamp that was made, in the setting's range
record IsStampedPiece (set : Setting) (h : List Event) (x : Piece) : Type 0 where
  part : x.part.0 < set.parts
  node : x.stamp.ingest.0 < nodes set
  made : has (sent set h) x.stamp ≡ true
  one : find_stamp (sent set h) x.stamp.ingest.0 x.stamp.inc.0 x.stamp.to ≡ Some x.stamp
  based : x.base ≡ base set h x.stamp.ingest.0 x.stamp.inc.0
  fits : Fits set.parts set.feeds x

piece-of : (set : Setting) (w : WorldView) (h : List Event) (s : Stands set w h) (p i c to : ℕ) (y : Sent) (x : Piece) → p < w.parts → i < length w.feeds → find_sent w.sent i c to ≡ Some y → IsPieceFor w y p x → IsStampedPiece set h x
piece-of set w h s p i c to y x p_lt i_lt e of =
    let made = made-of set w h s i c to y e in
    let ss = sent set h in
    let at_y : find_stamp ss y.stamp.ingest.0 y.stamp.inc.0 y.stamp.to ≡ Some y.stamp =
    ap (λ (a : ℕ). find_stamp ss a y.stamp.inc.0 y.stamp.to) made.node ∙ (ap (λ (b : ℕ). find_stamp ss i b y.stamp.to) made.inc_is ∙ (ap (find_stamp ss i c) made.ends ∙ stamp_of set w h s i c to y e)) in
    let base_y : y.base ≡ base set h y.stamp.ingest.0 y.stamp.inc.0 = made.base_is ∙ (ap (base set h i) (sym made.inc_is) ∙ ap (λ (a : ℕ). base set h a y.stamp.inc.0) (sym made.node)) in
    record {
      part = subst (λ (n : ℕ). n < set.parts) (sym of.part) (part_in set w h s p p_lt);
      node = subst (λ (n : ℕ). n < nodes set) (sym (ap (λ (z : Stamp). z.ingest.0) of.stamp ∙ made.node)) (node_in set w h s i i_lt);
      made = subst (λ (z : Stamp). has (sent set h) z ≡ true) (sym of.stamp) made.made;
      one = subst (λ (z : Stamp). find_stamp (sent set h) z.ingest.0 z.inc.0 z.to ≡ Some z) (sym of.stamp) at_y;
      based = of.base_is ∙ (base_y ∙ ap (λ (z : Stamp). base set h z.ingest.0 z.inc.0) (sym of.stamp));
      fits = subst (λ (n : ℕ). Fits n set.feeds x) s.over.parts (subst (λ (feeds : List (List Record)). Fits w.parts feeds x) s.over.feeds of.fits);
    }

known-is : (set : Setting) (w : WorldView) (h : List Event) → Stands set w h → (x : Piece) → IsStampedPiece set h x → IsKnown (story_of set h) w.hub x
known-is set w h s x of = record {
  fits = of.fits;
  inc = (let last = inc_is set w h s x.stamp.ingest.0 of.node in let exists = (good set w h s x.stamp.ingest.0).later x.stamp of.made refl in omega arith);
  base = of.based;
}

-- the hub knows the piece of a stamp that is found, and it isn't adrift
pub knows-piece : (w : WorldView) → HasHistory w → (p i c to : ℕ) (y : Sent) (x : Piece) → p < w.parts → i < length w.feeds → find_sent w.sent i c to ≡ Some y → IsPieceFor w y p x → Knows w.hub x
knows-piece w story p i c to y x p_lt i_lt e of =
    let set = story.0 in
    let h = story.1 in
    let s = story.2 in
    (story_of set h, s.epochs.hub, known-is set w h s x (piece-of set w h s p i c to y x p_lt i_lt e of))

pub never-adrift : (w : WorldView) → HasHistory w → (p i c to : ℕ) (y : Sent) (x : Piece) (t : Taken) (new : CoreView) → p < w.parts → i < length w.feeds → find_sent w.sent i c to ≡ Some y → IsPieceFor w y p x →
    CoreTakes w.hub.core x t new → IsNotAdrift t
never-adrift w story p i c to y x t new p_lt i_lt e of takes =
    let set = story.0 in
    let h = story.1 in
    let s = story.2 in
    let mine = piece-of set w h s p i c to y x p_lt i_lt e of in
    is_told set w h s x.part.0 x mine.part mine.node mine.made mine.based t takes.1.0 takes.1.1

module _ (set : Setting) (w : WorldView) (h : List Event) (s : Stands set w h) (x : Piece) (of : IsStampedPiece set h x) (t : Taken) (chain : ChainView) (takes : Takes (chain_in w.hub x.part.0 x.stamp.ingest.0) x t chain) where
  abbrev taken_hub : HubView
  taken_hub = record w.hub { core = record w.hub.core { helds = put w.hub.core.helds x.part.0 (put (held_at w.hub.core.helds x.part.0) x.stamp.ingest.0 chain) } }

  key : Took set w h s x.part.0 x of.part of.node of.made of.based t chain
  key = took set w h s x.part.0 x of.part of.node of.made of.based t chain takes

  arrived : delivered set (event.Deliver x.part x.stamp.ingest x.stamp.inc x.stamp.to ∷ h) x.part.0 ≡ x.stamp ∷ delivered set h x.part.0
  arrived = cond-true (eqb x.part.0 x.part.0) _ _ (eq-eqb _ _ refl) ∙ ap (λ (o : Option Stamp). with_found o (delivered set h x.part.0)) of.one

  deliver-answers : told t ≡ outcome_of set h (event.Deliver x.part x.stamp.ingest x.stamp.inc x.stamp.to)
  deliver-answers =
      key.answers
      ∙ (ap (λ (ys : List Stamp). delivery_answer (seen set h x.part.0 x.stamp.ingest.0) (delivered set h x.part.0) x.stamp (top_in set ys h x.stamp.ingest.0 (seen_in ys x.stamp.ingest.0))) (sym arrived)
      ∙ ap (delivery set h (event.Deliver x.part x.stamp.ingest x.stamp.inc x.stamp.to) x.part.0 x.stamp.ingest.0) (sym of.one))

  at_node : (i : ℕ) → i < nodes set → (b : Bool) → eqb x.stamp.ingest.0 i ≡ b → Chained set w h s x.part.0 i (x.stamp ∷ delivered set h x.part.0) (cond b chain (chain_in w.hub x.part.0 i))
  at_node i i_lt true e = subst (λ (k : ℕ). Chained set w h s x.part.0 k (x.stamp ∷ delivered set h x.part.0) chain) (eqb-true _ _ e) key.chain
  at_node i i_lt false e = other-node set w h s x.part.0 i x.stamp of.part i_lt (eqb-false _ _ e)

  in_chains : x.stamp.ingest.0 < length (held_at w.hub.core.helds x.part.0)
  in_chains =
      let part = of.part in
      let node = of.node in
      let parts = s.epochs.hub.core.parts_are in
      let count = s.epochs.hub.core.nodes_are in
      let chains = s.epochs.hub.core.core.chains x.part.0 [] (omega arith) in
      omega arith

  at_part : (p i : ℕ) → p < set.parts → i < nodes set → (b : Bool) → eqb x.part.0 p ≡ b →
      Chained set w h s p i (delivered set (event.Deliver x.part x.stamp.ingest x.stamp.inc x.stamp.to ∷ h) p)
      (chain_at (cond b (put (held_at w.hub.core.helds x.part.0) x.stamp.ingest.0 chain) (held_at w.hub.core.helds p)) i)
  at_part p i p_lt i_lt true e =
      subst (λ (k : ℕ). Chained set w h s k i (delivered set (event.Deliver x.part x.stamp.ingest x.stamp.inc x.stamp.to ∷ h) k) (chain_at (put (held_at w.hub.core.helds x.part.0) x.stamp.ingest.0 chain) i)) (eqb-true _ _ e)
      (subst (λ (ys : List Stamp). Chained set w h s x.part.0 i ys (chain_at (put (held_at w.hub.core.helds x.part.0) x.stamp.ingest.0 chain) i)) (sym arrived)
      (subst (Chained set w h s x.part.0 i (x.stamp ∷ delivered set h x.part.0)) (sym (get_or-set (held_at w.hub.core.helds x.part.0) x.stamp.ingest.0 i chain _ in_chains)) (at_node i i_lt (eqb x.stamp.ingest.0 i) refl)))
  at_part p i p_lt i_lt false e =
      subst (λ (ys : List Stamp). Chained set w h s p i ys (chain_in w.hub p i)) (sym (cond-false (eqb x.part.0 p) _ _ e)) (s.partitions.chains p i p_lt i_lt)

  deliver-stands : HubPlaces w.hub x taken_hub → Stands set (record w { hub = taken_hub }) (event.Deliver x.part x.stamp.ingest x.stamp.inc x.stamp.to ∷ h)
  deliver-stands places = record {
    over = record {
      world = record { nodes = s.over.world.nodes; hub_nodes = s.over.world.hub_nodes; hub_parts = length-set w.hub.core.helds x.part.0 _ ∙ s.over.world.hub_parts };
      feeds = s.over.feeds;
      parts = s.over.parts;
      landmarks = s.over.landmarks;
      limits = s.over.limits;
      history = ((of.part, of.node), s.over.history);
    };
    nodes = record { ingests = s.nodes.ingests; stamps = s.nodes.stamps };
    partitions = record {
      chains = λ p i p_lt i_lt.
          subst (λ (held : List ChainView). Chained set w h s p i (delivered set (event.Deliver x.part x.stamp.ingest x.stamp.inc x.stamp.to ∷ h) p) (chain_at held i))
          (sym (get_or-set w.hub.core.helds x.part.0 p _ _ (let part = of.part in let parts = s.epochs.hub.core.parts_are in omega arith)))
          (at_part p i p_lt i_lt (eqb x.part.0 p) refl);
      rows = s.partitions.rows;
      row_incs = s.partitions.row_incs;
      row_tops = s.partitions.row_tops;
    };
    epochs = record {
      vectors = s.epochs.vectors;
      committed_are = s.epochs.committed_are;
      kept = s.epochs.kept;
      hub = places _ (known-is set w h s x of) s.epochs.hub;
    };
    mining = record { mined_is = s.mining.mined_is; open_is = s.mining.open_is; miner = s.mining.miner; quiet = s.mining.quiet };
  }

-- the event of the piece's own ids is the delivery
own-is : (p : PartId) (j : IngestId) (c : Inc) (to : ℕ) (x : Piece) → x.part.0 ≡ p.0 → x.stamp.ingest.0 ≡ j.0 → x.stamp.inc.0 ≡ c.0 → x.stamp.to ≡ to →
    event.Deliver x.part x.stamp.ingest x.stamp.inc x.stamp.to ≡ event.Deliver p j c to
own-is p j c to x part node inc end =
    let deliver : ℕ → ℕ → ℕ → ℕ → Event = λ a b k m. event.Deliver (record { 0 = a }) (record { 0 = b }) (record { 0 = k }) m in
    ap (λ (a : ℕ). deliver a x.stamp.ingest.0 x.stamp.inc.0 x.stamp.to) part
    ∙ (ap (λ (b : ℕ). deliver p.0 b x.stamp.inc.0 x.stamp.to) node ∙ (ap (λ (k : ℕ). deliver p.0 j.0 k x.stamp.to) inc ∙ ap (deliver p.0 j.0 c.0) end))

-- a hub by its two parts
hub-is : (new old : HubView) (core : CoreView) → new.versions ≡ old.versions → new.core ≡ core → new ≡ record old { core = core }
hub-is new old core versions is =
    ap (λ (c : CoreView). let hub : HubView = record { core = c; versions = new.versions } in hub) is ∙ ap (λ (v : VersionsView). let hub : HubView = record { core = core; versions = v } in hub) versions

pub deliver-keeps : (old : WorldView) (p : PartId) (j : IngestId) (c : Inc) (to : ℕ) (o : Outcome) (new : WorldView) → p.0 < old.parts → j.0 < length old.feeds →
    Delivers old p.0 (find_sent old.sent j.0 c.0 to) o new → Keeps old (event.Deliver p j c to) o new
deliver-keeps old p j c to o new p_lt j_lt delivers = go (find_sent old.sent j.0 c.0 to) refl delivers
  where
    go : (found : Option Sent) → find_sent old.sent j.0 c.0 to ≡ found → Delivers old p.0 found o new → Keeps old (event.Deliver p j c to) o new
    go None e d =
        subst (λ (answer : Outcome). Keeps old (event.Deliver p j c to) answer new) (sym d.0)
        (refused-keeps old (event.Deliver p j c to) refusal.NotSent new (p_lt, j_lt) d.1 (λ set h s. ap (delivery set h (event.Deliver p j c to) p.0 j.0) (none_of set old h s j.0 c.0 to e)))
    go (Some y) e d = λ set h s.
        let x = d.piece in
        let of = piece-of set old h s p.0 j.0 c.0 to y x p_lt j_lt e d.of in
        let made = made-of set old h s j.0 c.0 to y e in
        let stamp = d.of.stamp in
        let same = own-is p j c to x d.of.part (ap (λ (z : Stamp). z.ingest.0) stamp ∙ made.node) (ap (λ (z : Stamp). z.inc.0) stamp ∙ made.inc_is) (ap (λ (z : Stamp). z.to) stamp ∙ made.ends) in
        let at = d.takes.1 in
        let hub_is : new.hub ≡ taken_hub set old h s x of d.taken at.0 at.1 = hub-is new.hub old.hub _ d.versions
        (d.takes.2 ∙ ap (λ (held : List ChainView). record old.hub.core { helds = put old.hub.core.helds x.part.0 held }) at.2) in
        let answers = deliver-answers set old h s x of d.taken at.0 at.1 in
        let stands = deliver-stands set old h s x of d.taken at.0 at.1 (subst (HubPlaces old.hub x) hub_is d.places) in (
          d.answer ∙ (answers ∙ ap (outcome_of set h) same),
          subst (λ (ev : Event). Stands set new (ev ∷ h)) same
              (subst (λ (v : WorldView). Stands set v (event.Deliver x.part x.stamp.ingest x.stamp.inc x.stamp.to ∷ h)) (sym (d.world ∙ ap (λ (hub : HubView). record old { hub = hub }) hub_is)) stands),
        )
