use Rattle.std.proofs.Common.{◌≡◌}
use Rattle.std.specs.Prelude.{map}
use Rattle.std.specs.List.{range_with_len}
use Rattle.kin_table.specs.Tables.{agreed_of, last_of}
use Rattle.kin_hub.specs.Cores.{chain_of, stamps_between}
use Rattle.kin_hub.specs.Cuts.{front_for}
use Rattle.kin_hub.proofs.cores.Core.since_cut.Given as goal

abbrev pub invariant-loop-i : goal.invariant-loop-i
invariant-loop-i l =
    l.lists.items ≡ map (λ i. front_for l.n (stamps_between (chain_of l.self 0 i) (last_of l.self.table i).to (agreed_of l.self.table i)))
    (range_with_len 0 l.i)
