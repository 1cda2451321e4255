-- Exposure: how many of those whom a user follows used a tag before it.
use Rattle.std.specs.Prelude.{◌≡◌, ◌≤◌, ℕ, ◌==◌, ◌&&◌, nat_lt, Bool, List, filter, map, count_by}
use Rattle.std.specs.List.{list_any, range_with_len, sum_by}
use Rattle.kin_ids.specs.declared.ids.User.{User}
use Rattle.kin_ids.specs.declared.stamps.Place.{Place}
use Rattle.kin_ids.specs.Users.{is_before, same_tag}
use Rattle.kin_ids.specs.Graph.{Graph, TagUse, is_use, outs}
use Rattle.kin_ids.specs.Follows.{IsSound}
use Rattle.kin_rules.specs.declared.numbers.KCount.{KCount}
use Rattle.kin_rules.specs.Counts.{tag_count}

-- whether w used t first before a place
abbrev pub used_before : Graph → List ℕ → Place → User → Bool
used_before g t at w = list_any (λ x. is_use w t x && is_before x.first at) g.uses

-- for a first use: how many users its user follows now whose first use of the tag stands before it
abbrev pub earlier_followed : Graph → TagUse → ℕ
earlier_followed g x = count_by (λ h. h.present && used_before g x.tag x.first h.other) (outs g x.user)

-- the number of users of t with the exposure k
abbrev pub exposure : Graph → List ℕ → ℕ → ℕ
exposure g t k = count_by (λ x. same_tag t x.tag && earlier_followed g x == k) g.uses

-- the exposures of a tag that some user has, ascending, each with the number of its users
abbrev pub exposures : Graph → List ℕ → List KCount
exposures g t = filter (λ c. nat_lt 0 c.users) (map (λ k. record { k = k; users = exposure g t k }) (range_with_len 0 (tag_count g t)))

-- where each edge and each first use stands once, no exposure reaches the number of the tag's users
abbrev pub ExposuresAreFew : Type 0
ExposuresAreFew = (g : Graph) → IsSound g → (t : List ℕ) (k : ℕ) → tag_count g t ≤ k → exposure g t k ≡ 0

-- there each user of a tag counts under one exposure
abbrev pub ExposuresAddUp : Type 0
ExposuresAddUp = (g : Graph) → IsSound g → (t : List ℕ) → sum_by (exposure g t) (range_with_len 0 (tag_count g t)) ≡ tag_count g t
