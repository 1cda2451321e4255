-- How much of a drain is left.
use Rattle.std.specs.Prelude.{ℕ, zero, suc, ◌+◌, ◌-◌}
use Rattle.kin_hub.specs.Hubs.{HubView, cuts_in, committed_in}
use Rattle.kin_world.specs.Worlds.{WorldView}

-- how many commits the first n partitions miss
abbrev pub commits_left : HubView → ℕ → ℕ
commits_left hub zero = 0
commits_left hub (suc p) = commits_left hub p + (cuts_in hub - committed_in hub p)

-- how many events the drain of a world has
abbrev pub drain_left : WorldView → ℕ
drain_left w = commits_left w.hub w.parts + (cuts_in w.hub - w.mined)
