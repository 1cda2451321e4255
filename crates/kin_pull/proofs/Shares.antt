-- Inputs by their shares.
use Rattle.std.proofs.Common.{◌<◌, ℕ, suc, All, List, [], ◌∷◌, map, length, Option, arith, sym, ap₂, refl}
use Rattle.kin_rules.specs.declared.pull_rules.Facts.{Facts}
use Rattle.kin_rules.specs.Layers.{AreShares}
use Rattle.kin_pull.specs.Passes.{AreSharesAt, lent_at}
use Rattle.kin_pull.specs.States.{KeptView}

-- the shares at places are those of the inputs there
pub shares-lent : {V : Type 0} (share : Facts → V → ℕ) (df : Facts) (first : V) (k : KeptView V) (j : ℕ) (drawn : List (Option V))
    (shares ends : List ℕ)
    → All (λ i. i < length k.facts) ends → AreSharesAt share first k j drawn shares
    → AreShares share (map (lent_at df first k j drawn) ends) shares ends
shares-lent share df first k j drawn shares [] below all = refl
shares-lent share df first k j drawn shares (e ∷ es) below all =
    let one = all.each e df (below 0 0 (omega arith)) in
    let old = shares-lent share df first k j drawn shares es (λ i d lt. below (suc i) d (omega (arith, lt))) all in
    ap₂ (λ (n : ℕ) (ns : List ℕ). n ∷ ns) (sym one) old
