use Rattle.std.proofs.Common.{◌≡◌, ◌<◌, ℕ, get_or}
use Rattle.kin_held.specs.Chains.{chain_at}
use Rattle.kin_hub.specs.Cores.{kept_inc}
use Rattle.kin_hub.proofs.cores.read.Given as goal

abbrev pub invariant-loop-i : goal.invariant-loop-i
invariant-loop-i l = record {
  incs : (k : ℕ) → k < l.i → get_or l.incs k (record { 0 = 0 }) ≡ kept_inc (chain_at l.held k);
  tops : (k : ℕ) → k < l.i → get_or l.tops k 0 ≡ (chain_at l.held k).top;
}
