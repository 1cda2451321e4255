use Rattle.std.proofs.Common.{◌≡◌, replicate}
use Rattle.kin_held.specs.Chains.{no_chain}
use Rattle.kin_held.proofs.by_node.Held.new.Given as goal

abbrev pub invariant-loop-node : goal.invariant-loop-node
invariant-loop-node l = l.chains.items ≡ replicate l._node no_chain
