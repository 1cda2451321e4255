-- Hops and closeness are rules.
use Rattle.std.proofs.Common.{◌≡◌, ◌≤◌, ◌<◌, ◌+◌, ℕ, Some, is_some, arith, refl}
use Rattle.kin_rules.specs.declared.kinds.EdgeKind.{EdgeKind}
use Rattle.kin_rules.specs.declared.kinds.EdgeKind.TheVariants as kind
use Rattle.kin_rules.specs.declared.push_rules.Distance.{Distance}
use Rattle.kin_rules.specs.declared.push_rules.Distance.TheVariants as distance
use Rattle.kin_ids.specs.declared.ids.User.{User}
use Rattle.kin_rules.specs.Walks.{IsRule, Under}
use Rattle.kin_rules.specs.Instances.{hops, close, distance_rule}

hops-by_kind : (k : EdgeKind) (v w : ℕ) → is_some (hops k v) ≡ is_some (hops k w)
hops-by_kind kind.Follow v w = refl
hops-by_kind kind.Mention v w = refl

hops-monotone : (k : EdgeKind) (v w : ℕ) → v ≤ w → Under (hops k v) (hops k w)
hops-monotone kind.Follow v w h = omega (arith, h)
hops-monotone kind.Mention v w h = tt

hops-grows : (k : EdgeKind) (v n : ℕ) → hops k v ≡ Some n → (v < n) × (n ≤ v + 1)
hops-grows kind.Follow v n h = let e : v + 1 ≡ n = cc in (omega (arith, e), omega (arith, e))
hops-grows kind.Mention v n h = absurd cc

pub hops-laws : IsRule hops 1
hops-laws = record { by_kind = hops-by_kind; monotone = hops-monotone; grows = hops-grows; some = omega arith; few = omega arith }

close-by_kind : (k : EdgeKind) (v w : ℕ) → is_some (close k v) ≡ is_some (close k w)
close-by_kind kind.Follow v w = refl
close-by_kind kind.Mention v w = refl

close-monotone : (k : EdgeKind) (v w : ℕ) → v ≤ w → Under (close k v) (close k w)
close-monotone kind.Follow v w h = omega (arith, h)
close-monotone kind.Mention v w h = omega (arith, h)

close-grows : (k : EdgeKind) (v n : ℕ) → close k v ≡ Some n → (v < n) × (n ≤ v + 3)
close-grows kind.Follow v n h = let e : v + 3 ≡ n = cc in (omega (arith, e), omega (arith, e))
close-grows kind.Mention v n h = let e : v + 1 ≡ n = cc in (omega (arith, e), omega (arith, e))

pub close-laws : IsRule close 3
close-laws = record { by_kind = close-by_kind; monotone = close-monotone; grows = close-grows; some = omega arith; few = omega arith }

pub distance-laws : (d : Distance) (landmark : User) → IsRule (distance_rule d landmark).along (distance_rule d landmark).most
distance-laws distance.Hops landmark = hops-laws
distance-laws distance.Close landmark = close-laws
