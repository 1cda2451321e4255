-- How a turn computes the layers of its user, by place.
use Rattle.std.specs.Prelude.{◌≡◌, ◌<◌, ◌==◌, ◌&&◌, ◌||◌, ℕ, zero, suc, Bool, true, false, List, [], Option, None, length, slice_index_or}
use Rattle.std.specs.Prelude.{if◌then◌else◌}
use Rattle.kin_ids.specs.declared.ids.User.{User}
use Rattle.kin_ids.specs.Users.{same_user}
use Rattle.kin_ids.specs.Parts.{PartView}
use Rattle.kin_rules.specs.declared.pull_rules.Facts.{Facts}
use Rattle.kin_rules.specs.declared.pull_rules.Input.{Input}
use Rattle.kin_rules.specs.Going.{has_place}
use Rattle.kin_rules.specs.Layers.{LayerRule}
use Rattle.kin_pull.specs.Keeping.{next_of, shows}
use Rattle.kin_pull.specs.States.{KeptView, row_in, value_in, now_in, told_in, is_from, net_in}

-- the value of the turning user in a layer: the first one, or that of its column
abbrev pub column_at : {V : Type 0} → V → List V → ℕ → V
column_at first column zero = first
column_at first column (suc j) = slice_index_or column j first

-- the value at a place, where the turning user at place i has its column
abbrev pub turned_at : {V : Type 0} → V → KeptView V → List V → ℕ → ℕ → ℕ → V
turned_at first k column i j p = if p == i then column_at first column j else slice_index_or (row_in k j) p first

-- the input at a place
abbrev pub turned_input : {V : Type 0} → Facts → V → KeptView V → List V → ℕ → ℕ → ℕ → Input V
turned_input df first k column i j p = record { facts = slice_index_or k.facts p df; value = turned_at first k column i j p }

-- the layers of all users, where the turning user has its column
abbrev pub turned_in : {V : Type 0} → V → List User → KeptView V → List V → User → ℕ → User → V
turned_in first us k column u j x = if same_user x u then column_at first column j else value_in first us k j x

-- the first n layers of a column: each is what the rule makes of the layer below
pub record IsColumn {V : Type 0} (r : LayerRule V) (v : PartView) (us : List User) (k : KeptView V) (u : User) (n : ℕ)
    (column : List V) : Type 0 where
  pub long : length column ≡ n
  pub each : (j : ℕ) → j < n → column_at r.first column (suc j) ≡ next_of r (net_in r.side v us k) (turned_in r.first us k column u j) u

-- whether the change of a layer of the turning user shows, to those who know its facts of before or of now
abbrev pub shows_turned : {V : Type 0} → LayerRule V → List User → KeptView V → List V → User → ℕ → Bool
shows_turned r us k column u j = shows r (told_in us k u) (now_in us k u) true (value_in r.first us k j u) (column_at r.first column j)

-- what a turn leaves at the places: the column of the user at place i, and the layer from which on its readers are active
pub record IsTurnedOver {V : Type 0} (i : ℕ) (column : List V) (from : Option ℕ) (readers : List ℕ) (old new : KeptView V) : Type 0 where
  pub rows : length new.rows ≡ length old.rows
  pub longs : (j : ℕ) → length (slice_index_or new.rows j []) ≡ length (slice_index_or old.rows j [])
  pub each : (j p : ℕ) (d : V) → j < length old.rows → p < length (slice_index_or old.rows j [])
      → slice_index_or (slice_index_or new.rows j []) p d
      ≡ (if p == i then slice_index_or column j d else slice_index_or (slice_index_or old.rows j []) p d)
  pub facts : new.facts ≡ old.facts
  pub told : (length new.told ≡ length old.told) × ((p : ℕ) → slice_index_or new.told p None
      ≡ (if p == i then None else slice_index_or old.told p None))
  pub low_long : length new.low ≡ length old.low
  pub low : (p j : ℕ) → is_from (slice_index_or new.low p None) j ≡ (if p == i then false else is_from
      (slice_index_or old.low p None) j || (has_place readers p && is_from from j))
  pub none : slice_index_or new.low i None ≡ None
  pub mixed : new.mixed ≡ true
