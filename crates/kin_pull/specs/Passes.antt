-- How a settle computes a layer from the one below, by place.
use Rattle.std.specs.Prelude.{◌≡◌, ◌<◌, ◌≤◌, ◌&&◌, ℕ, Bool, true, false, List, [], Option, Some, None, IfSome, is_some, unwrap_or, length}
use Rattle.std.specs.Prelude.{slice_index_or}
use Rattle.std.specs.Prelude.{if◌then◌else◌}
use Rattle.std.specs.List.{list_any}
use Rattle.kin_ids.specs.declared.ids.User.{User}
use Rattle.kin_ids.specs.Users.{has_user}
use Rattle.kin_ids.specs.Parts.{PartView}
use Rattle.kin_rules.specs.declared.pull_rules.Facts.{Facts}
use Rattle.kin_rules.specs.declared.pull_rules.Input.{Input}
use Rattle.kin_rules.specs.declared.pull_rules.Side.{Side}
use Rattle.kin_rules.specs.Edges.{places_of}
use Rattle.kin_rules.specs.Layers.{LayerRule}
use Rattle.kin_rules.specs.LayerTables.{neighbours_seen}
use Rattle.kin_rules.specs.Places.{place}
use Rattle.kin_pull.specs.Keeping.{layer_in, next_of, shows}
use Rattle.kin_pull.specs.Settles.{reads_on, sum_over}
use Rattle.kin_pull.specs.States.{KeptView, row_in, row_of, value_in, now_in, told_in, net_in, opposite}

-- a layer of a user: the value that was computed again, or else the one that is kept
abbrev pub drawn_in : {V : Type 0} → V → List User → KeptView V → ℕ → List (Option V) → User → V
drawn_in first us k j drawn x = unwrap_or (slice_index_or drawn (place us x) None) (value_in first us k j x)

-- the input at a place
abbrev pub lent_at : {V : Type 0} → Facts → V → KeptView V → ℕ → List (Option V) → ℕ → Input V
lent_at df first k j drawn i = record {
  facts = slice_index_or k.facts i df;
  value = unwrap_or (slice_index_or drawn i None)
      (slice_index_or (row_in k j) i first);
}

-- whether the change of a user from what is kept to what was computed again shows
abbrev pub changes_in : {V : Type 0} → LayerRule V → List User → KeptView V → ℕ → List (Option V) → User → Bool
changes_in r us k j drawn x = shows r (told_in us k x) (now_in us k x) k.mixed (value_in r.first us k j x) (drawn_in r.first us k j drawn x)

-- whether a user is marked at its place
abbrev pub marked : List User → List Bool → User → Bool
marked us marks x = slice_index_or marks (place us x) false

-- whether a user reads one of these whose change shows
abbrev pub is_shown : {V : Type 0} → LayerRule V → PartView → List User → KeptView V → ℕ → List (Option V) → List User → User → Bool
is_shown r v us k j drawn tellers x = list_any (λ y. changes_in r us k j drawn y && has_user (neighbours_seen
    (opposite r.side) v y) x) tellers

-- the value of the layer above
abbrev pub above_in : {V : Type 0} → LayerRule V → PartView → List User → KeptView V → ℕ → List (Option V) → User → V
above_in r v us k j drawn x = next_of r (net_in r.side v us k) (drawn_in r.first us k j drawn) x

-- the values above of those who are marked, at their places
pub record IsAbove {V : Type 0} (r : LayerRule V) (v : PartView) (us : List User) (k : KeptView V) (j : ℕ) (drawn : List (Option V))
    (marks : List Bool) (above : List (Option V)) : Type 0 where
  pub long : length above ≡ length us
  pub each : (x : User) → has_user us x ≡ true → slice_index_or above (place us x) None
      ≡ (if marked us marks x then Some (above_in r v us k j drawn x) else None)

-- the layers of a draft are the rule's, up to n
pub record IsDraft {V : Type 0} (r : LayerRule V) (v : PartView) (us : List User) (k : KeptView V) (n : ℕ) (draft : List (List
    (Option V))) : Type 0 where
  pub long : length draft ≡ n
  pub rows : (j : ℕ) → j < n → length (slice_index_or draft j []) ≡ length us
  pub each : (j : ℕ) (x : User) → j ≤ n → drawn_in r.first us k j (row_of draft j) x ≡ layer_in r (net_in r.side v us k) j x

-- what is kept after a draft was taken over: its values stand over the kept ones, everybody has told, and nobody is active
pub record IsTaken {V : Type 0} (draft : List (List (Option V))) (old new : KeptView V) : Type 0 where
  pub rows : length new.rows ≡ length old.rows
  pub longs : (j : ℕ) → length (slice_index_or new.rows j []) ≡ length (slice_index_or old.rows j [])
  pub each : (j i : ℕ) (d : V) → slice_index_or (slice_index_or new.rows j []) i d
      ≡ unwrap_or (slice_index_or (slice_index_or draft j []) i None) (slice_index_or (slice_index_or old.rows j []) i d)
  pub facts : new.facts ≡ old.facts
  pub told : (length new.told ≡ length old.told) × ((i : ℕ) → slice_index_or new.told i None ≡ None)
  pub low : (length new.low ≡ length old.low) × ((i : ℕ) → slice_index_or new.low i None ≡ None)
  pub mixed : new.mixed ≡ false

-- what stands at a place of a layer once a draft is taken over: the value that was computed again, or else the one that is kept
abbrev pub drafted_at : {V : Type 0} → List (List (Option V)) → KeptView V → ℕ → ℕ → V → V
drafted_at draft k j i d = unwrap_or (slice_index_or (row_of draft j) i None) (slice_index_or (row_in k j) i d)

-- the places of the neighbours on a side of those users of whom they were looked up
pub record AreRead (s : Side) (v : PartView) (us : List User) (ends : List (Option (List ℕ))) : Type 0 where
  pub long : length ends ≡ length us
  pub each : (x : User) → has_user us x ≡ true
      → IfSome (slice_index_or ends (place us x) None) (λ row. row ≡ places_of us (neighbours_seen s v x))

-- whether the edges of a user were read
abbrev pub was_read : List User → List (Option (List ℕ)) → User → Bool
was_read us ends x = is_some (slice_index_or ends (place us x) None)

-- what was read of all whose edges on a side were read
abbrev pub read_of : Side → PartView → List User → List (Option (List ℕ)) → ℕ
read_of s v us ends = sum_over (λ x. if was_read us ends x then reads_on s v x else 0) us

-- everybody's shares
pub record AreSharesAt {V : Type 0} (share : Facts → V → ℕ) (first : V) (k : KeptView V) (j : ℕ) (drawn : List (Option V))
    (shares : List ℕ) : Type 0 where
  pub long : length shares ≡ length k.facts
  pub each : (p : ℕ) (df : Facts) → p < length k.facts → slice_index_or shares p 0
      ≡ share (slice_index_or k.facts p df) (unwrap_or (slice_index_or drawn p None) (slice_index_or (row_in k j) p first))
