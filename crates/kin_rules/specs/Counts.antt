-- How many edges and users there are.
use Rattle.std.specs.Prelude.{◌≡◌, ℕ, List, length, filter, map, count_by}
use Rattle.kin_ids.specs.declared.ids.User.{User}
use Rattle.kin_ids.specs.Users.{has_user}
use Rattle.kin_ids.specs.Follows.{is_present}
use Rattle.kin_ids.specs.Graph.{Graph, outs, ins, tag_users}

-- the present follow edges into u
abbrev pub in_count : Graph → User → ℕ
in_count g u = count_by (λ h. h.present) (ins g u)

-- the present follow edges out of u
abbrev pub out_count : Graph → User → ℕ
out_count g u = count_by (λ h. h.present) (outs g u)

-- the users with a use of t
abbrev pub tag_count : Graph → List ℕ → ℕ
tag_count g t = length (tag_users g t)

-- the users who follow u now
abbrev pub followers : Graph → User → List User
followers g u = map (λ h. h.other) (filter (λ h. h.present) (ins g u))

-- the users whom u follows now
abbrev pub followees : Graph → User → List User
followees g u = map (λ h. h.other) (filter (λ h. h.present) (outs g u))

-- somebody follows u now where that edge is present
abbrev pub FollowersArePresent : Type 0
FollowersArePresent = (g : Graph) (u w : User) → has_user (followers g u) w ≡ is_present g w u
