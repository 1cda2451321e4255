-- The state of an engine of a push rule, and what the rule sees of a view.
use Rattle.std.specs.Prelude.{◌≡◌, ◌+◌, ◌<◌, ◌/◌, ℕ, Bool, true, false, List, Option, None, is_some, if◌then◌else◌, length, map}
use Rattle.std.specs.Prelude.{slice_index_or}
use Rattle.std.specs.List.Sorted.{IsStrictlySortedBy}
use Rattle.kin_ids.specs.declared.ids.User.{User}
use Rattle.kin_ids.specs.Users.{user_cmp}
use Rattle.kin_ids.specs.Parts.{PartView}
use Rattle.kin_store.specs.Lists.{half_key}
use Rattle.kin_rules.specs.declared.kinds.EdgeKind.{EdgeKind}
use Rattle.kin_rules.specs.declared.kinds.EdgeKind.TheVariants as kind
use Rattle.kin_rules.specs.Places.{place}
use Rattle.kin_rules.specs.Walks.{Rule, Net}

-- Users, ascending; of each of them a value or none; and whether it is active, which means that it has yet to offer its value.
pub record PushState : Type 0 where
  pub users : List User
  pub values : List (Option ℕ)
  pub marks : List Bool

-- one value and one mark of each user
pub record IsPushState (s : PushState) : Type 0 where
  pub ascend : IsStrictlySortedBy user_cmp s.users
  pub valued : length s.values ≡ length s.users
  pub marked : length s.marks ≡ length s.users

abbrev pub state : List User → List (Option ℕ) → List Bool → PushState
state users values marks = record { users = users; values = values; marks = marks }

-- the value of a user: none where it is none of the users
abbrev pub value_in : PushState → User → Option ℕ
value_in s u = slice_index_or s.values (place s.users u) None

abbrev pub is_active : PushState → User → Bool
is_active s u = slice_index_or s.marks (place s.users u) false

-- nobody is active
abbrev pub IsQuiet : PushState → Type 0
IsQuiet s = (u : User) → is_active s u ≡ false

-- the ends of the edges of a kind out of a user, as a view hands them out
abbrev pub ends_in : PartView → EdgeKind → User → List User
ends_in v kind.Follow w = map half_key (v.out w)
ends_in v kind.Mention w = v.mentions w

-- what a rule sees of a view whose vertices these are
abbrev pub net_in : Rule → PartView → List User → Net
net_in r v us = record { along = r.along; ends = ends_in v; users = us; mark = r.mark; most = r.most }

-- what is read where a user offers its value along the edges of a kind, and along all edges
abbrev pub reads_by : Rule → PartView → EdgeKind → User → ℕ
reads_by r v k u = if is_some (r.along k 0) then 1 + length (ends_in v k u) else 0

abbrev pub reads_of : Rule → PartView → User → ℕ
reads_of r v u = reads_by r v kind.Follow u + reads_by r v kind.Mention u

-- marks in blocks of 256 places: each block with a mark is noted
pub record AreNoted (on any : List Bool) : Type 0 where
  pub noted : (i : ℕ) → slice_index_or on i false ≡ true → slice_index_or any (i / 256) false ≡ true
  pub room : (i : ℕ) → i < length on → i / 256 < length any
