use Rattle.std.proofs.Common.{◌≡◌, ℕ, List, map, take}
use Rattle.kin_rules.specs.ExposureLists.{counted, ks_of}
use Rattle.kin_rules.proofs.exposure_lists.exposure_lists.Given as goal

abbrev pub invariant-loop-i : goal.invariant-loop-i
invariant-loop-i l = (f : List ℕ → ℕ) → l.tag_users ≡ map f l.tags → l.lists.items ≡ map (λ t. counted (ks_of l.entries t) (f t)) (take l.i l.tags)
