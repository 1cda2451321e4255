use Rattle.std.proofs.Common.{◌≡◌, ◌<◌, ◌++◌, ◌-◌, ℕ, [], map, length}
use Rattle.std.specs.Prelude.{slice_index_or}
use Rattle.kin_gen.specs.Feeds as feeds
use Rattle.kin_gen.proofs.feeds.feeds_of.Given as goal

-- the lines so far and those that are still to be dealt make each feed
abbrev pub invariant-loop-r : goal.invariant-loop-r
invariant-loop-r l = record {
  count : length l.texts.items ≡ 3;
  texts : (feed : ℕ) → feed < 3 → slice_index_or (map (λ t. t.items) l.texts.items) feed [] ++ feeds.dealt feed l.r (feeds.lines_from (feeds.user_count l.n) (l.n - l.r) l.draws) ≡ feeds.gen_feed l.seed l.n feed;
}
