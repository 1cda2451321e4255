-- The columns of a rule, landmark by landmark.
use Rattle.std.specs.Prelude.{◌≡◌, ◌≤◌, ◌<◌, ◌+◌, ◌||◌, ℕ, zero, suc, true, false, Bool, List, [], Option, Some, length, slice_get, slice_index_or}
use Rattle.kin_ids.specs.declared.ids.User.{User}
use Rattle.kin_ids.specs.Parts.{PartView}
use Rattle.kin_rules.specs.Costs.{least_cost}
use Rattle.kin_rules.specs.Places.{place}
use Rattle.kin_rules.specs.Results.{ColumnView, no_column}
use Rattle.kin_rules.specs.Walks.{Rule}
use Rattle.kin_push.specs.Facts.{On, to_read}
use Rattle.kin_push.specs.States.{PushState, IsPushState, IsQuiet, is_active, net_in, value_in}
use Rattle.kin_push.specs.Turns.{IsRun, Moved, Rested}
use Rattle.kin_mine.specs.declared.walk_rules.Distance.{Distance}
use Rattle.kin_mine.specs.Marks.{rule_of, state_at}

-- By a turn of u the values move as a turn's do; where u was active it is at rest, and else nothing changes.
pub record IsTurned (r : Rule) (v : PartView) (u : User) (old new : PushState) : Type 0 where
  pub moved : Moved r v u old new
  pub rested : is_active old u ≡ true → Rested r v new u
  pub idle : is_active old u ≡ false → new ≡ old

-- By turns nobody is active, and every value is the least cost of a walk; where nobody was active nothing changes.
pub record IsSettled (r : Rule) (v : PartView) (old new : PushState) : Type 0 where
  pub turns : IsRun r v old new
  pub quiet : IsQuiet new
  pub values : (u : User) → value_in new u ≡ least_cost (net_in r v new.users) u
  pub idle : IsQuiet old → new ≡ old

-- columns and their marks
pub record Lanes : Type 0 where
  pub columns : List ColumnView
  pub marks : List (List Bool)

abbrev pub lanes : List ColumnView → List (List Bool) → Lanes
lanes columns marks = record { columns = columns; marks = marks }

abbrev pub lane : List User → Lanes → ℕ → PushState
lane users x i = state_at users x.columns x.marks i

-- The first n lanes changed in this way, each of its landmark, and the others are as they were. No column's values of others change.
pub record AreDone (P : User → PushState → PushState → Type 0) (n : ℕ) (landmarks users : List User) (old new : Lanes) : Type 0 where
  pub columns_are : length new.columns ≡ length old.columns
  pub marks_are : length new.marks ≡ length old.marks
  pub others : (i : ℕ) → (slice_index_or new.columns i no_column).others ≡ (slice_index_or old.columns i no_column).others
  pub done : (i : ℕ) (l : User) → i < n → slice_get landmarks i ≡ Some l → P l (lane users old i) (lane users new i)
  pub rest : (i : ℕ) → n ≤ i → (slice_index_or new.columns i no_column ≡ slice_index_or old.columns i no_column)
      × (slice_index_or new.marks i [] ≡ slice_index_or old.marks i [])

-- all lanes did
abbrev pub AreAllDone : (User → PushState → PushState → Type 0) → List User → List User → Lanes → Lanes → Type 0
AreAllDone P landmarks users old new = AreDone P (length landmarks) landmarks users old new

abbrev pub no_user : User
no_user = record { 0 = 0 }

-- what the turns that are still to come may read in the first n lanes
abbrev pub owed_in : Distance → PartView → List User → List User → Lanes → ℕ → ℕ
owed_in d v landmarks users x zero = 0
owed_in d v landmarks users x (suc n) = owed_in d v landmarks users x n + to_read (rule_of d (slice_index_or landmarks n no_user)) v (lane users x n)

-- whether a user is marked in some of the first n lanes
abbrev pub marked_in : List User → List (List Bool) → User → ℕ → Bool
marked_in users marks u zero = false
marked_in users marks u (suc n) = marked_in users marks u n || slice_index_or (slice_index_or marks n []) (place users u) false

-- a lane changed so, and the facts of its rule stand on the view after it
abbrev pub KeepsOn : Distance → PartView → (User → PushState → PushState → Type 0) → User → PushState → PushState → Type 0
KeepsOn d v P l old new = IsPushState new × On (rule_of d l) v new × P l old new
