-- How many entries of a tag have which number.
use Rattle.std.specs.Prelude.{◌≡◌, ◌<◌, ◌==◌, ◌+◌, ℕ, nat_lt, List, [], All, count_by, filter, length, map, slice_index, slice_index_or, slice_set, if◌then◌else◌}
use Rattle.std.specs.List.{range_with_len}
use Rattle.kin_ids.specs.Users.{same_tag}
use Rattle.kin_rules.specs.declared.exposure_rules.UseK.{UseK}
use Rattle.kin_rules.specs.declared.numbers.KCount.{KCount}

-- the numbers of the entries of a tag
abbrev pub ks_of : List UseK → List ℕ → List ℕ
ks_of entries t = map (λ e. e.k) (filter (λ e. same_tag t e.tag) entries)

-- which numbers below n these are, and how often
abbrev pub counted : List ℕ → ℕ → List KCount
counted ks n = filter (λ c. nat_lt 0 c.users) (map (λ k. record { k = k; users = count_by (λ x. x == k) ks }) (range_with_len 0 n))

-- one more at a place, where there is such a place
abbrev pub counted_one : List ℕ → ℕ → List ℕ
counted_one counts k = if nat_lt k (length counts) then slice_set counts k (slice_index counts k + 1) else counts

-- the counts that aren't 0, each with its place
abbrev pub listed : List ℕ → List KCount
listed counts = filter (λ c. nat_lt 0 c.users) (map (λ k. record { k = k; users = slice_index counts k }) (range_with_len 0 (length counts)))

-- which of these numbers there are, ascending, and how often: counted up to a number past them all
abbrev pub IsTally : List ℕ → List KCount → Type 0
IsTally ks list = (n : ℕ) × All (λ k. k < n) ks × (list ≡ counted ks n)

-- of each tag the tally of its entries' numbers
pub record AreTallies (entries : List UseK) (tags : List (List ℕ)) (lists : List (List KCount)) : Type 0 where
  pub long : length lists ≡ length tags
  pub each : (i : ℕ) → i < length tags → IsTally (ks_of entries (slice_index_or tags i [])) (slice_index_or lists i [])
