-- Who is marked in columns of marks, and columns of a rule with their marks.
use Rattle.std.specs.Prelude.{◌≡◌, ◌≤◌, ◌<◌, ℕ, true, false, if◌then◌else◌, Bool, List, [], Option, Some, None, length, nat_lt, slice_get, slice_index_or}
use Rattle.std.specs.List.{list_any}
use Rattle.kin_ids.specs.declared.ids.User.{User}
use Rattle.kin_ids.specs.Parts.{PartView}
use Rattle.kin_rules.specs.Places.{place}
use Rattle.kin_rules.specs.Results.{ColumnView, no_column}
use Rattle.kin_push.specs.Facts.{On}
use Rattle.kin_push.specs.States.{PushState, IsPushState, state}
use Rattle.kin_mine.specs.declared.walk_rules.Distance.{Distance}
pub use Rattle.kin_mine.specs.WalkRules.{rule_of}

-- whether a user is marked in some of these
abbrev pub is_marked : List User → List (List Bool) → User → Bool
is_marked users marks u = list_any (λ on. slice_index_or on (place users u) false) marks

-- nobody is marked
abbrev pub are_quiet : List (List Bool) → Type 0
are_quiet marks = (k i : ℕ) → slice_index_or (slice_index_or marks k []) i false ≡ false

-- the first place that is marked in some of these
pub record IsFirstPlace (marks : List (List Bool)) (i : ℕ) : Type 0 where
  pub column : ℕ
  pub marked : slice_index_or (slice_index_or marks column []) i false ≡ true
  pub first : (k j : ℕ) → j < i → slice_index_or (slice_index_or marks k []) j false ≡ false

-- the first place that is marked in some of the first n of these, where there is one
pub record IsFirstBefore (marks : List (List Bool)) (n i : ℕ) : Type 0 where
  pub column : ℕ
  pub below : column < n
  pub marked : slice_index_or (slice_index_or marks column []) i false ≡ true
  pub first : (k j : ℕ) → k < n → j < i → slice_index_or (slice_index_or marks k []) j false ≡ false

abbrev pub IsFirstIn : List (List Bool) → ℕ → Option ℕ → Type 0
IsFirstIn marks n None = (k j : ℕ) → k < n → slice_index_or (slice_index_or marks k []) j false ≡ false
IsFirstIn marks n (Some i) = IsFirstBefore marks n i

-- the lesser of two places that may be there
abbrev pub lesser_of : Option ℕ → Option ℕ → Option ℕ
lesser_of None b = b
lesser_of (Some i) None = Some i
lesser_of (Some i) (Some j) = if nat_lt i j then Some i else Some j

-- so many columns' marks, each as long as the users, of whom nobody is marked
pub record AreBlank (columns : ℕ) (users : List User) (marks : List (List Bool)) : Type 0 where
  pub count : length marks ≡ columns
  pub long : (k : ℕ) → k < columns → length (slice_index_or marks k []) ≡ length users
  pub quiet : are_quiet marks

-- ---- columns

-- the state of the landmark of that number
abbrev pub state_at : List User → List ColumnView → List (List Bool) → ℕ → PushState
state_at users columns marks i = state users (slice_index_or columns i no_column).values (slice_index_or marks i [])

-- Columns and their marks, one of each landmark, each with a value and a mark of each user, and with no values of others.
pub record AreStates (landmarks users : List User) (columns : List ColumnView) (marks : List (List Bool)) : Type 0 where
  pub columns_are : length columns ≡ length landmarks
  pub marks_are : length marks ≡ length landmarks
  pub alone : (i : ℕ) → (slice_index_or columns i no_column).others ≡ []
  pub states : (i : ℕ) → i < length landmarks → IsPushState (state_at users columns marks i)

-- the facts of a rule stand of each on a view
pub record AreOn (d : Distance) (v : PartView) (landmarks users : List User) (columns : List ColumnView) (marks : List (List Bool)) : Type 0 where
  pub are : AreStates landmarks users columns marks
  pub on : (i : ℕ) (l : User) → slice_get landmarks i ≡ Some l → On (rule_of d l) v (state_at users columns marks i)
