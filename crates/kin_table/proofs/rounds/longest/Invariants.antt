use Rattle.std.proofs.Common.{◌≡◌, ◌-◌, max, length}
use Rattle.std.specs.List.{range_with_len}
use Rattle.kin_ids.specs.Rounds.{longest}
use Rattle.kin_table.specs.Lists.{list_at}
use Rattle.kin_table.proofs.rounds.longest.Given as goal

abbrev pub invariant-loop-list : goal.invariant-loop-list
invariant-loop-list l =
    max l.most (longest (list_at l.lists) (range_with_len l.list-index (length l.lists - l.list-index)))
    ≡ longest (list_at l.lists) (range_with_len 0 (length l.lists))
