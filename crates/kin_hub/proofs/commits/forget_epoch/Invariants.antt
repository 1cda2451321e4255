use Rattle.std.proofs.Common.{◌≡◌, ℕ, ◌<◌, ◌≤◌, length}
use Rattle.kin_held.specs.Chains.{chain_at}
use Rattle.kin_held.specs.Takes.{chain_past}
use Rattle.kin_table.specs.Vectors.{end_at}
use Rattle.kin_hub.proofs.commits.forget_epoch.Given as goal

abbrev pub invariant-loop-i : goal.invariant-loop-i
invariant-loop-i l =
    (length l.held ≡ length l.initial.held) × ((k : ℕ) → k < l.i → chain_at l.held k ≡ chain_past (chain_at l.initial.held k)
    (end_at l.ends k).to) × ((k : ℕ) → l.i ≤ k → chain_at l.held k ≡ chain_at l.initial.held k)
