-- A crash.
use Rattle.std.proofs.Common.{◌≡◌, ℕ, ◌<◌, Bool, true, false, cond, eqb, not, List, ◌∷◌, refl, sym, ◌∙◌, ap, subst, length}
use Rattle.std.proofs.lemmas.Bool.{cond-true, cond-false, eqb-true}
use Rattle.std.proofs.lemmas.List.{length-set}
use Rattle.kin_ids.specs.declared.ids.IngestId.{IngestId}
use Rattle.kin_ids.proofs.Rounds.{get_or-set}
use Rattle.kin_ingest.specs.declared.ingests.Ingest.{Ingest}
use Rattle.kin_script.specs.declared.events.Event.{Event}
use Rattle.kin_script.specs.declared.outcomes.Outcome.{Outcome}
use Rattle.kin_script.specs.declared.events.Event.TheVariants as event
use Rattle.kin_script.specs.declared.outcomes.Outcome.TheVariants as outcome
use Rattle.kin_script.specs.declared.outcomes.Refusal.TheVariants as refusal
use Rattle.kin_history.specs.Setting.{Setting, nodes, feed_len}
use Rattle.kin_history.specs.Lines.{up, inc, base, next}
use Rattle.kin_history.specs.Outcomes.{outcome_of}
use Rattle.kin_world.specs.Worlds.{WorldView, node_at}
use Rattle.kin_world.specs.Steps.{after_crash, Crashes}
use Rattle.kin_world.specs.Stands.{Stands, Keeps, node_of}
use Rattle.kin_world.proofs.Facts.{node_in}
use Rattle.kin_world.proofs.Refusals.{refused-keeps}

module _ (set : Setting) (w : WorldView) (h : List Event) (s : Stands set w h) (j : IngestId) (lt : j.0 < nodes set) where
  pub up_is : (node_at w j.0).up ≡ up set h j.0
  up_is = ap (λ (node : Ingest). node.up) (s.nodes.ingests j.0 lt)

  at_node : (i : ℕ) → i < nodes set → (b : Bool) → eqb j.0 i ≡ b → cond b (record (node_at w j.0) { up = false }) (node_at w i)
      ≡ record { id = record { 0 = i }; len = feed_len set i; inc = record { 0 = inc set h i }; base = base set h i (inc set h i); next = next set h i; up = cond b false (up set h i) }
  at_node i i_lt true e = subst (λ (k : ℕ). let was : Ingest = node_at w j.0 in record was { up = false } ≡ record (node_of set h k) { up = false }) (eqb-true j.0 i e) (ap (λ (node : Ingest). record node { up = false }) (s.nodes.ingests j.0 lt))
  at_node i i_lt false e = s.nodes.ingests i i_lt

  pub crash-stands : Stands set (after_crash w j.0) (event.Crash j ∷ h)
  crash-stands =
      let count = s.over.world.nodes in
      let in_feeds : j.0 < length w.feeds = subst (λ feeds. j.0 < length feeds) (sym s.over.feeds) lt in
      record {
        over = record {
          world = record { nodes = length-set w.ingests j.0 _ ∙ s.over.world.nodes; hub_nodes = s.over.world.hub_nodes; hub_parts = s.over.world.hub_parts };
          feeds = s.over.feeds;
          parts = s.over.parts;
          landmarks = s.over.landmarks;
          limits = s.over.limits;
          history = (lt, s.over.history);
        };
        nodes = record {
          ingests = λ i i_lt. get_or-set w.ingests j.0 i _ _ (rw s.over.world.nodes in_feeds) ∙ at_node i i_lt (eqb j.0 i) refl;
          stamps = s.nodes.stamps;
        };
        partitions = record { chains = s.partitions.chains; rows = s.partitions.rows; row_incs = s.partitions.row_incs; row_tops = s.partitions.row_tops };
        epochs = record { vectors = s.epochs.vectors; committed_are = s.epochs.committed_are; kept = s.epochs.kept; hub = s.epochs.hub };
        mining = record { mined_is = s.mining.mined_is; open_is = s.mining.open_is; miner = s.mining.miner; quiet = s.mining.quiet };
      }

pub crash-keeps : (old : WorldView) (j : IngestId) (o : Outcome) (new : WorldView) → j.0 < length old.feeds → Crashes old j.0 o new → Keeps old (event.Crash j) o new
crash-keeps old j (outcome.Refused refusal.Down) new lt crashes =
    refused-keeps old (event.Crash j) refusal.Down new lt crashes.1
    (λ set h s. cond-true (not (up set h j.0)) _ _ (ap not (sym (up_is set old h s j (node_in set old h s j.0 lt)) ∙ crashes.0)))
crash-keeps old j outcome.Crashed new lt crashes = λ set h s.
    let in_set = node_in set old h s j.0 lt in (
      sym (cond-false (not (up set h j.0)) _ _ (ap not (sym (up_is set old h s j in_set) ∙ crashes.0))),
      subst (λ (w : WorldView). Stands set w (event.Crash j ∷ h)) (sym crashes.1) (crash-stands set old h s j in_set),
    )
crash-keeps old j _ new lt crashes = absurd crashes
