-- What a miner keeps, and what it stands for.
use Rattle.std.specs.Prelude.{◌≡◌, ◌≤◌, ◌^◌, ◌||◌, ℕ, true, if◌then◌else◌, Bool, List, [], Option, Some, None, filter, length}
use Rattle.kin_ids.specs.declared.ids.User.{User}
use Rattle.kin_ids.specs.Users.{has_user}
use Rattle.kin_ids.specs.Graph.{Graph}
use Rattle.kin_ids.specs.Parts.{PartView}
use Rattle.kin_ids.specs.Wholes.{IsViewOf}
use Rattle.kin_graph.specs.State.{PartState}
use Rattle.kin_blocks.specs.Snaps.{joined}
use Rattle.kin_changes.specs.Views.{IsWholeView, empty_view}
use Rattle.kin_rules.specs.declared.turns.Turn.{Turn}
use Rattle.kin_rules.specs.declared.turns.Turn.TheVariants as turn
use Rattle.kin_rules.specs.Results.{IsResult, ResultView}
use Rattle.kin_counts.specs.Counts.{IsCountOf}
use Rattle.kin_scores.specs.Scores.{AreKept, AreShown, ScoresView, StandOn}
use Rattle.kin_scores.specs.Scores as scores
use Rattle.kin_mine.specs.Walkers.{WalkOn, WalkersView, is_walking}

-- The landmarks; the result, whose epoch is the one begun last, and 0 where none was begun; the stores of that epoch; who is active by
-- walks; and what is kept of ranks and exposures.
pub record MinerView : Type 0 where
  pub landmarks : List User
  pub result : ResultView
  pub snap : Option (List PartState)
  pub walkers : WalkersView
  pub scores : ScoresView

-- the epoch begun last, and 0 where none was begun
abbrev pub begun : MinerView → ℕ
begun m = m.result.epoch

-- what is handed out of the stores of an epoch, and of none
abbrev pub handed_out : Option (List PartState) → PartView
handed_out None = empty_view
handed_out (Some stores) = joined stores

abbrev pub seen : MinerView → PartView
seen m = handed_out m.snap

-- ---- who is active

abbrev pub is_active : MinerView → User → Bool
is_active m u = is_walking m.result.users m.walkers u || scores.is_active m.result.users m.scores u

-- the users who are active by some rule
abbrev pub active_in : MinerView → List User
active_in m = filter (is_active m) m.result.users

-- the least of these users
pub record IsLeastUser (us : List User) (u : User) : Type 0 where
  pub one : has_user us u ≡ true
  pub least : (x : User) → has_user us x ≡ true → u.0 ≤ x.0

-- what a turn of a user answers
abbrev pub turn_of : MinerView → User → Turn
turn_of m u = if has_user (active_in m) u then turn.Turned else turn.Idle

-- ---- what a miner stands for

-- Counts, walks, ranks and exposures stand on the stores of the epoch begun last, which hand out a whole graph. There are stores where an
-- epoch was begun.
pub record IsMining (m : MinerView) : Type 0 where
  pub whole : IsWholeView (seen m)
  pub counts : IsCountOf (seen m) m.result
  pub small : length m.result.users ≤ 2 ^ 27
  pub walks : WalkOn (seen m) m.landmarks m.result m.walkers
  pub kept : AreKept m.result.users m.scores
  pub scores : StandOn (seen m) m.result.users m.scores
  pub shown : AreShown m.scores m.result
  pub first : (m.snap ≡ None → begun m ≡ 0) × (begun m ≡ 0 → m.snap ≡ None)

-- The miner stands for an epoch of a graph: that is the epoch begun last, its stores hand out the graph, and counts and values are kept on
-- them. Where no epoch was begun it is epoch 0 of the empty graph.
pub record IsMinerOf (g : Graph) (k : ℕ) (m : MinerView) : Type 0 where
  pub epoch : begun m ≡ k
  pub seen_is : IsViewOf g (seen m)
  pub mining : IsMining m

-- where nobody is active, all values are the definitions' on the graph
abbrev pub QuietIsResult : Type 0
QuietIsResult = (g : Graph) (k : ℕ) (m : MinerView) → IsMinerOf g k m → active_in m ≡ [] → IsResult g m.landmarks m.result
