-- A Begin.
use Rattle.std.proofs.Common.{◌≡◌, ℕ, ◌+◌, ◌<◌, Bool, true, false, cond, List, ◌∷◌, Option, Some, None, refl, sym, ◌∙◌, ap, subst}
use Rattle.std.proofs.lemmas.Bool.{or_right, false≢true}
use Rattle.kin_ids.specs.Graph.{Graph}
use Rattle.kin_ids.specs.Order.{snapshot}
use Rattle.kin_script.specs.declared.events.Event.{Event}
use Rattle.kin_script.specs.declared.events.Event.TheVariants as event
use Rattle.kin_script.specs.declared.outcomes.Outcome.{Outcome}
use Rattle.kin_script.specs.declared.outcomes.Outcome.TheVariants as outcome
use Rattle.kin_history.specs.Setting.{Setting}
use Rattle.kin_history.specs.Vectors.{vector}
use Rattle.kin_history.specs.Mining.{is_clear, held_back, mined, is_open}
use Rattle.kin_mine.specs.Miners.{IsMinerOf}
use Rattle.kin_world.specs.Worlds.{WorldView, KeptWhereRefused}
use Rattle.kin_world.specs.Mining.{OpensNext, Begins, CallsMiner, BeginsEpoch}
use Rattle.kin_world.specs.Stands.{Stands, Keeps, last_begun}
use Rattle.kin_world.proofs.Epochs.{held_back-is, begin-answers, clear-ready, ready-whole}
use Rattle.kin_world.proofs.Refusals.{refused-keeps}

module _ (set : Setting) (w : WorldView) (h : List Event) (s : Stands set w h) (new : WorldView) (o : OpensNext w new) where
  pub now-open : is_open set (event.Begin ∷ h) ≡ true
  now-open = or_right (is_open set h) _ (ap is_clear (sym (held_back-is set w h s) ∙ o.clear))

  begun-is : last_begun set (event.Begin ∷ h) ≡ mined set h + 1
  begun-is = ap (λ (b : Bool). cond b (mined set h + 1) (mined set h)) now-open

  begun-miner : IsMinerOf (snapshot set.feeds (vector set h) (last_begun set (event.Begin ∷ h))) (last_begun set (event.Begin ∷ h)) new.miner
  begun-miner =
      subst (λ (k : ℕ). IsMinerOf (snapshot set.feeds (vector set h) k) k new.miner) (sym begun-is)
      (subst (λ (m : ℕ). IsMinerOf (snapshot set.feeds (vector set h) (mined set h + 1)) (m + 1) new.miner) s.mining.mined_is
      (o.begins.stands (snapshot set.feeds (vector set h) (mined set h + 1)) (ready-whole set w h s (clear-ready set w h s o.clear))))

  pub open-stands : Stands set new (event.Begin ∷ h)
  open-stands = subst (λ (v : WorldView). Stands set v (event.Begin ∷ h)) (sym o.world) (record {
    over = record {
      world = record { nodes = s.over.world.nodes; hub_nodes = s.over.world.hub_nodes; hub_parts = s.over.world.hub_parts };
      feeds = s.over.feeds;
      parts = s.over.parts;
      landmarks = o.begins.landmarks ∙ s.over.landmarks;
      limits = s.over.limits;
      history = (tt, s.over.history);
    };
    nodes = record { ingests = s.nodes.ingests; stamps = s.nodes.stamps };
    partitions = record { chains = s.partitions.chains; rows = s.partitions.rows; row_incs = s.partitions.row_incs; row_tops = s.partitions.row_tops };
    epochs = record { vectors = s.epochs.vectors; committed_are = s.epochs.committed_are; kept = s.epochs.kept; hub = s.epochs.hub };
    mining = record { mined_is = s.mining.mined_is; open_is = sym now-open; miner = begun-miner; quiet = λ closed. absurd (false≢true (sym closed ∙ now-open)) };
  })

pub begin-keeps : (old : WorldView) (o : Outcome) (new : WorldView) → Begins old o new → Keeps old event.Begin o new
begin-keeps old (outcome.Begun k) new made = λ set h s. (made.answer ∙ begin-answers set old h s, open-stands set old h s new made.leaves.1)
begin-keeps old (outcome.Refused why) new made =
    refused-keeps old event.Begin why new tt made.leaves (λ set h s. sym (made.answer ∙ begin-answers set old h s))
begin-keeps old _ new made = absurd made.leaves

pub begin-kept : (old : WorldView) (o : Outcome) (new : WorldView) → Begins old o new → KeptWhereRefused old o new
begin-kept old (outcome.Refused why) new made = made.leaves
begin-kept old _ new made = tt

pub begin-calls : (old : WorldView) (o : Outcome) (new : WorldView) → Begins old o new → CallsMiner old event.Begin o new
begin-calls old (outcome.Begun k) new made = subst (λ (n : ℕ). BeginsEpoch old n new.miner) (sym made.leaves.0) made.leaves.1.begins
begin-calls old _ new made = tt
