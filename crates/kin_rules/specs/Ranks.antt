-- Rank: each user passes half of its rank on, in equal shares, with a million of its own.
use Rattle.std.specs.Prelude.{◌≡◌, ◌<◌, ◌≤◌, ℕ, zero, suc, ◌+◌, ◌/◌, ◌^◌, min, true}
use Rattle.std.specs.List.{sum_by}
use Rattle.kin_ids.specs.declared.ids.User.{User}
use Rattle.kin_ids.specs.Users.{has_user}
use Rattle.kin_ids.specs.Graph.{Graph}
use Rattle.kin_rules.specs.Counts.{out_count, followers}

-- what y, at a rank of this value, gives each user whom it follows
abbrev pub share : Graph → User → ℕ → ℕ
share g y value = (1000000 + value / 2) / out_count g y

-- the rank of x in a layer: the shares of its followers one layer lower, at most 10^15
abbrev pub rank_at : Graph → ℕ → User → ℕ
rank_at g zero x = 0
rank_at g (suc r) x = min (10 ^ 15) (sum_by (λ y. share g y (rank_at g r y)) (followers g x))

-- the share of y in a layer
abbrev pub share_at : Graph → ℕ → User → ℕ
share_at g r y = share g y (rank_at g r y)

-- the rank of x: that of layer 8
abbrev pub rank : Graph → User → ℕ
rank g x = rank_at g 8 x

-- no rank passes 10^15
abbrev pub RanksAreCapped : Type 0
RanksAreCapped = (g : Graph) (r : ℕ) (x : User) → rank_at g r x ≤ 10 ^ 15

-- a follower follows somebody, so its share is a share among at least one
abbrev pub FollowersFollow : Type 0
FollowersFollow = (g : Graph) (x y : User) → has_user (followers g x) y ≡ true → 0 < out_count g y
