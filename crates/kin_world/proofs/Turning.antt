-- A turn.
use Rattle.std.proofs.Common.{◌≡◌, ℕ, ◌<◌, true, false, List, ◌∷◌, refl, sym, ◌∙◌, ap, subst}
use Rattle.std.proofs.lemmas.Bool.{false≢true}
use Rattle.kin_ids.specs.declared.ids.User.{User}
use Rattle.kin_ids.specs.Users.{has_user}
use Rattle.kin_script.specs.declared.events.Event.{Event}
use Rattle.kin_script.specs.declared.events.Event.TheVariants as event
use Rattle.kin_script.specs.declared.outcomes.Outcome.{Outcome}
use Rattle.kin_script.specs.declared.outcomes.Outcome.TheVariants as outcome
use Rattle.kin_history.specs.Setting.{Setting}
use Rattle.kin_mine.specs.Miners.{MinerView, active_in}
use Rattle.kin_world.specs.Worlds.{WorldView, KeptWhereRefused}
use Rattle.kin_world.specs.Mining.{TurnsUser, MakesTurns, Turns, CallsMiner}
use Rattle.kin_world.specs.Stands.{Stands, Keeps, MiningStands}
use Rattle.kin_world.proofs.Epochs.{turn-answers}
use Rattle.kin_world.proofs.Refusals.{refused-keeps}

-- a turn is some turns
pub turns-of : (old : MinerView) (u : User) (new : MinerView) → TurnsUser old u new → MakesTurns old new
turns-of old u new t = record { idle = λ none. t.idle (ap (λ (us : List User). has_user us u) none); landmarks = t.landmarks; stands = t.stands }

-- a miner that makes some turns stands for what it stood for
module _ (set : Setting) (w : WorldView) (h : List Event) (s : Stands set w h) (miner : MinerView) (t : MakesTurns w.miner miner) where
  pub turns-stand : Stands set (record w { miner = miner }) h
  turns-stand = record {
    over = record {
      world = record { nodes = s.over.world.nodes; hub_nodes = s.over.world.hub_nodes; hub_parts = s.over.world.hub_parts };
      feeds = s.over.feeds;
      parts = s.over.parts;
      landmarks = t.landmarks ∙ s.over.landmarks;
      limits = s.over.limits;
      history = s.over.history;
    };
    nodes = record { ingests = s.nodes.ingests; stamps = s.nodes.stamps };
    partitions = record { chains = s.partitions.chains; rows = s.partitions.rows; row_incs = s.partitions.row_incs; row_tops = s.partitions.row_tops };
    epochs = record { vectors = s.epochs.vectors; committed_are = s.epochs.committed_are; kept = s.epochs.kept; hub = s.epochs.hub };
    mining = record {
      mined_is = s.mining.mined_is;
      open_is = s.mining.open_is;
      miner = t.stands _ _ s.mining.miner;
      quiet = λ closed. let none = s.mining.quiet closed in ap active_in (t.idle none) ∙ none;
    };
  }

-- and for it with a Turn
with-turn : (set : Setting) (w : WorldView) (h : List Event) (u : User) → Stands set w h → Stands set w (event.Turn u ∷ h)
with-turn set w h u s = record {
  over = record { world = s.over.world; feeds = s.over.feeds; parts = s.over.parts; landmarks = s.over.landmarks; limits = s.over.limits; history = (tt, s.over.history) };
  nodes = record { ingests = s.nodes.ingests; stamps = s.nodes.stamps };
  partitions = record { chains = s.partitions.chains; rows = s.partitions.rows; row_incs = s.partitions.row_incs; row_tops = s.partitions.row_tops };
  epochs = record { vectors = s.epochs.vectors; committed_are = s.epochs.committed_are; kept = s.epochs.kept; hub = s.epochs.hub };
  mining = record { mined_is = s.mining.mined_is; open_is = s.mining.open_is; miner = s.mining.miner; quiet = s.mining.quiet };
}

pub turn-keeps : (old : WorldView) (u : User) (o : Outcome) (new : WorldView) → Turns old u o new → Keeps old (event.Turn u) o new
turn-keeps old u outcome.Turned new made = λ set h s. (
  made.answer ∙ turn-answers set old h s,
  subst (λ (v : WorldView). Stands set v (event.Turn u ∷ h)) (sym made.leaves.world)
      (with-turn set (record old { miner = new.miner }) h u (turns-stand set old h s new.miner (turns-of old.miner u new.miner made.leaves.turns))),
)
turn-keeps old u (outcome.Refused why) new made =
    refused-keeps old (event.Turn u) why new tt made.leaves (λ set h s. sym (made.answer ∙ turn-answers set old h s))
turn-keeps old u _ new made = absurd made.leaves

pub turn-kept : (old : WorldView) (u : User) (o : Outcome) (new : WorldView) → Turns old u o new → KeptWhereRefused old o new
turn-kept old u (outcome.Refused why) new made = made.leaves
turn-kept old u _ new made = tt

pub turn-calls : (old : WorldView) (u : User) (o : Outcome) (new : WorldView) → Turns old u o new → CallsMiner old (event.Turn u) o new
turn-calls old u outcome.Turned new made = made.leaves.turns
turn-calls old u _ new made = tt
