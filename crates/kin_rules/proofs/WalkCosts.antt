-- What walks cost.
use Rattle.std.proofs.Common.{◌≡◌, ◌≤◌, ◌<◌, ◌+◌, ◌*◌, ℕ, List, [], ◌∷◌, Option, Some, None, length, arith, refl}
use Rattle.kin_rules.specs.declared.kinds.EdgeKind.{EdgeKind}
use Rattle.kin_rules.specs.Walks.{Net, Step, AtMost, Under, passed, cost, IsRule}
use Rattle.kin_rules.specs.Kept.{starts}

pub at_most-more : (o : Option ℕ) (m n : ℕ) → m ≤ n → AtMost o m → AtMost o n
at_most-more None m n h k = k
at_most-more (Some x) m n h k = omega (arith, h, k)

pub under-trans : (o p q : Option ℕ) → Under o p → Under p q → Under o q
under-trans o p None h k = tt
under-trans o None (Some n) h k = absurd k
under-trans o (Some m) (Some n) h k = at_most-more o m n k h

-- an offer from a lesser value is no greater
pub passed-under : (along : EdgeKind → ℕ → Option ℕ) (most : ℕ) → IsRule along most → (k : EdgeKind) (o p : Option ℕ) → Under o p → Under (passed (along k) o) (passed (along k) p)
passed-under along most r k o None h = tt
passed-under along most r k None (Some n) h = absurd h
passed-under along most r k (Some m) (Some n) h = r.monotone k m n h

-- the cost of a walk grows by each edge
pub cost-grows : (net : Net) → IsRule net.along net.most → (s : Step) (ws : List Step) (n : ℕ) → cost net (s ∷ ws) ≡ Some n → (m : ℕ) × (cost net ws ≡ Some m) × (m < n) × (n ≤ m + net.most)
cost-grows net r s ws n h = here (cost net ws) h
  where
    here : (o : Option ℕ) → passed (net.along s.kind) o ≡ Some n → (m : ℕ) × (o ≡ Some m) × (m < n) × (n ≤ m + net.most)
    here None h = absurd cc
    here (Some m) h = let g = r.grows s.kind m n h in (m, refl, g.0, g.1)

pub cost-short : (net : Net) → IsRule net.along net.most → (ws : List Step) (n : ℕ) → cost net ws ≡ Some n → n ≤ net.most * length (starts ws)
cost-short net r [] n h = let e : 0 ≡ n = cc in omega (arith, e)
cost-short net r (s ∷ ws) n h =
    let g = cost-grows net r s ws n h in
    let k : g.0 ≤ net.most * length (starts ws) = cost-short net r ws g.0 g.1 in
    let up : n ≤ g.0 + net.most = g.3 in
    omega (arith, k, up)
