-- Where a key stands among ascending keys, or would stand.
use Rattle.std.specs.Prelude.{◌≡◌, ◌<◌, ◌≤◌, ℕ, true, false, List, length, Result, MatchResult}
use Rattle.std.specs.List.{insert, list_any, position_or_len}
use Rattle.std.specs.List.Sorted.{IsStrictlySortedBy}
use Rattle.std.specs.BTreeMap.{is_at}
use Rattle.std.specs.declared.cmp.Ordering.{Ordering}

-- the key is one of these, and this is its place
pub record StandsAt {K : Type 0} (cmp : K → K → Ordering) (keys : List K) (key : K) (i : ℕ) : Type 0 where
  pub one : list_any (is_at (cmp key)) keys ≡ true
  pub place : position_or_len (is_at (cmp key)) keys ≡ i
  pub within : i < length keys

-- the key is none of these, and they would ascend with it at this place
pub record WouldStandAt {K : Type 0} (cmp : K → K → Ordering) (keys : List K) (key : K) (i : ℕ) : Type 0 where
  pub none : list_any (is_at (cmp key)) keys ≡ false
  pub within : i ≤ length keys
  pub ascend : IsStrictlySortedBy cmp (insert keys i key)

abbrev pub IsSpot : {K : Type 0} → (K → K → Ordering) → List K → K → Result ℕ ℕ → Type 0
IsSpot cmp keys key r = MatchResult r (StandsAt cmp keys key) (WouldStandAt cmp keys key)
