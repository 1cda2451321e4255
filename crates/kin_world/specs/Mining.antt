-- What Begin, Turn and Mine do to a world, answer by answer.
use Rattle.std.specs.Prelude.{ℕ, ◌≡◌, ◌+◌, nat_le, nat_lt, Bool, true, false, if◌then◌else◌, [], Option, Some, None}
use Rattle.kin_ids.specs.declared.ids.Epoch.{Epoch}
use Rattle.kin_ids.specs.declared.ids.User.{User}
use Rattle.kin_ids.specs.Graph.{Graph}
use Rattle.kin_ids.specs.Lines.{first_without}
use Rattle.kin_ids.specs.Users.{has_user}
use Rattle.kin_ids.specs.Wholes.{IsViewOf}
use Rattle.kin_script.specs.declared.events.Event.{Event}
use Rattle.kin_script.specs.declared.events.Event.TheVariants as event
use Rattle.kin_script.specs.declared.outcomes.Outcome.{Outcome}
use Rattle.kin_script.specs.declared.outcomes.Outcome.TheVariants as outcome
use Rattle.kin_script.specs.declared.outcomes.Refusal.{Refusal}
use Rattle.kin_script.specs.declared.outcomes.Refusal.TheVariants as refusal
use Rattle.kin_history.specs.Mining.{not_committed}
use Rattle.kin_history.specs.Outcomes.{begin_answer, mine_answer}
use Rattle.kin_blocks.specs.Snaps.{joined}
use Rattle.kin_blocks.specs.Versions.{released}
use Rattle.kin_hub.specs.Goes.{HubKeeps}
use Rattle.kin_hub.specs.Hubs.{HubView, cuts_in, committed_in, deltas_in, snap_in}
use Rattle.kin_mine.specs.Epochs.{BeginsOn, TurnsAt}
use Rattle.kin_mine.specs.Miners.{MinerView, IsMinerOf, active_in, begun, turn_of}
use Rattle.kin_rules.specs.declared.turns.Turn.{Turn}
use Rattle.kin_world.specs.Worlds.{WorldView}

-- ---- the miner's calls

-- The miner begins its next epoch, on the hub's snapshot of it and with its deltas.
pub record BeginsEpoch (old : WorldView) (k : ℕ) (new : MinerView) : Type 0 where
  pub epoch : begun new ≡ begun old.miner + 1
  pub landmarks : new.landmarks ≡ old.miner.landmarks
  pub begins : BeginsOn (joined (snap_in old.hub k)) (deltas_in old.hub k) old.miner new
  pub stands : (g : Graph) → IsViewOf g (joined (snap_in old.hub k)) → IsMinerOf g k new

-- The miner makes a turn of a user.
pub record TurnsUser (old : MinerView) (u : User) (new : MinerView) : Type 0 where
  pub turn : Turn
  pub turn_is : turn ≡ turn_of old u
  pub idle : has_user (active_in old) u ≡ false → new ≡ old
  pub turns : TurnsAt u old new
  pub landmarks : new.landmarks ≡ old.landmarks
  pub stands : (g : Graph) (k : ℕ) → IsMinerOf g k old → IsMinerOf g k new

-- The miner makes some turns.
pub record MakesTurns (old new : MinerView) : Type 0 where
  pub idle : active_in old ≡ [] → new ≡ old
  pub landmarks : new.landmarks ≡ old.landmarks
  pub stands : (g : Graph) (k : ℕ) → IsMinerOf g k old → IsMinerOf g k new

-- On an accepted Begin or Turn the miner before and after are as its own calls say.
abbrev pub CallsMiner : WorldView → Event → Outcome → WorldView → Type 0
CallsMiner old event.Begin (outcome.Begun k) new = BeginsEpoch old k.0 new.miner
CallsMiner old (event.Turn u) outcome.Turned new = TurnsUser old.miner u new.miner
CallsMiner old _ _ new = Unit {0}

-- ---- what the events tell

-- the least partition that hasn't committed epoch k
abbrev pub lagging_in : WorldView → ℕ → Option ℕ
lagging_in w k = first_without 0 w.parts (λ p. nat_le k (committed_in w.hub p))

-- why the next epoch can't be opened, if it can't
abbrev pub held_back_in : WorldView → Option Refusal
held_back_in w = if nat_lt (cuts_in w.hub) (w.mined + 1) then Some refusal.NothingCut else not_committed (lagging_in w (w.mined + 1))

abbrev pub begin_told : WorldView → Outcome
begin_told w = if w.is_open then outcome.Refused (refusal.Busy (record { 0 = w.mined + 1 })) else begin_answer (w.mined + 1) (held_back_in w)

abbrev pub turn_told : WorldView → Outcome
turn_told w = if w.is_open then outcome.Turned else outcome.Refused refusal.NotBegun

abbrev pub mine_told : WorldView → Outcome
mine_told w = if w.is_open then outcome.Mined (record { 0 = w.mined + 1 }) else mine_answer (w.mined + 1) (held_back_in w)

-- ---- what they leave

-- the next epoch is open
pub record OpensNext (old new : WorldView) : Type 0 where
  pub closed : old.is_open ≡ false
  pub clear : held_back_in old ≡ None
  pub begins : BeginsEpoch old (old.mined + 1) new.miner
  pub world : new ≡ record old { miner = new.miner; is_open = true }

-- a world that may have opened the next epoch, or else is as it was for this reason
abbrev pub MayOpen : WorldView → Option Refusal → WorldView → Type 0
MayOpen old None new = OpensNext old new
MayOpen old (Some why) new = new ≡ old

abbrev pub BeginLeaves : WorldView → Outcome → WorldView → Type 0
BeginLeaves old (outcome.Begun k) new = (k.0 ≡ old.mined + 1) × OpensNext old new
BeginLeaves old (outcome.Refused why) new = new ≡ old
BeginLeaves old _ new = ⊥

pub record Begins (old : WorldView) (o : Outcome) (new : WorldView) : Type 0 where
  pub answer : o ≡ begin_told old
  pub leaves : BeginLeaves old o new

-- an epoch is open, and the miner makes a turn
pub record MakesTurn (old : WorldView) (u : User) (new : WorldView) : Type 0 where
  pub opened : old.is_open ≡ true
  pub turns : TurnsUser old.miner u new.miner
  pub world : new ≡ record old { miner = new.miner }

abbrev pub TurnLeaves : WorldView → User → Outcome → WorldView → Type 0
TurnLeaves old u outcome.Turned new = MakesTurn old u new
TurnLeaves old u (outcome.Refused why) new = new ≡ old
TurnLeaves old u _ new = ⊥

pub record Turns (old : WorldView) (u : User) (o : Outcome) (new : WorldView) : Type 0 where
  pub answer : o ≡ turn_told old
  pub leaves : TurnLeaves old u o new

-- The open epoch is mined: the miner makes turns until nobody is active, and every epoch below it is let go.
pub record MinesOpen (old new : WorldView) : Type 0 where
  pub opened : old.is_open ≡ true
  pub turns : MakesTurns old.miner new.miner
  pub quiet : active_in new.miner ≡ []
  pub hub : new.hub ≡ record old.hub { versions = released old.hub.versions (old.mined + 1) }
  pub keeps : HubKeeps old.hub new.hub
  pub world : new ≡ record old { hub = new.hub; miner = new.miner; mined = old.mined + 1; is_open = false }

-- the miner makes some turns, and all else stays
pub record TurnsOn (old new : WorldView) : Type 0 where
  pub turns : MakesTurns old.miner new.miner
  pub world : new ≡ record old { miner = new.miner }

-- the world once an epoch is open: the same where one is, and else with the next one opened
abbrev pub Opens : Bool → WorldView → WorldView → Type 0
Opens true old new = new ≡ old
Opens false old new = OpensNext old new

-- the next epoch is opened, where none is open, and mined
pub record MinesNext (old new : WorldView) : Type 0 where
  pub begun_world : WorldView
  pub opens : Opens old.is_open old begun_world
  pub mines : MinesOpen begun_world new

abbrev pub MineLeaves : WorldView → Outcome → WorldView → Type 0
MineLeaves old (outcome.Mined k) new = MinesNext old new
MineLeaves old (outcome.Refused why) new = new ≡ old
MineLeaves old _ new = ⊥

pub record Mines (old : WorldView) (o : Outcome) (new : WorldView) : Type 0 where
  pub answer : o ≡ mine_told old
  pub leaves : MineLeaves old o new
