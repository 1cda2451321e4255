-- The numbers of the Bad records.
use Rattle.std.specs.Prelude.{ℕ, ◌≡◌, ◌+◌, List, [], ◌∷◌, All, if◌then◌else◌}
use Rattle.kin_ids.specs.declared.ops.Record.{Record}
use Rattle.kin_ids.specs.Operations.{is_bad}
use Rattle.kin_ids.specs.Sizes.{IsSmall}

-- those among records that follow position n, ascending
abbrev pub bad_numbers : ℕ → List Record → List ℕ
bad_numbers n [] = []
bad_numbers n (r ∷ rs) = if is_bad r then (n + 1) ∷ bad_numbers (n + 1) rs else bad_numbers (n + 1) rs

-- what a feed keeps: small records, and the numbers of those that are Bad
pub record IsFeed (records : List Record) (numbers : List ℕ) : Type 0 where
  pub bad : numbers ≡ bad_numbers 0 records
  pub small : All IsSmall records
