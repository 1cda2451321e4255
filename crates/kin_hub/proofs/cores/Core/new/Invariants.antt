use Rattle.std.proofs.Common.{◌≡◌, replicate}
use Rattle.kin_held.specs.Chains.{no_chain}
use Rattle.kin_hub.proofs.cores.Core.new.Given as goal

abbrev pub invariant-loop-part : goal.invariant-loop-part
invariant-loop-part l = l.helds.items ≡ replicate l._part (replicate l.nodes no_chain)
