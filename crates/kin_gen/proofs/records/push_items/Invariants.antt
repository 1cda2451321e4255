use Rattle.std.proofs.Common.{◌≡◌, ◌++◌, ◌-◌}
use Rattle.kin_gen.specs.Draws.{past}
use Rattle.kin_gen.specs.Feeds as feeds
use Rattle.kin_gen.proofs.records.push_items.Given as goal

-- what stands and what is still to come make the whole
abbrev pub invariant-loop-i : goal.invariant-loop-i
invariant-loop-i l = record {
  text : l.text.items ++ feeds.items l.users (l.count - l._i) l.draws ≡ l.initial.text.items ++ feeds.items l.users l.count l.initial.draws;
  draws : past (l.count - l._i) l.draws ≡ past l.count l.initial.draws;
}
