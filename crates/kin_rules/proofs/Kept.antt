-- Values that users keep: what offers leave, and that values at rest are the least costs.
use Rattle.std.proofs.Common.{◌≡◌, ◌≤◌, ◌+◌, ◌*◌, ◌||◌, ◌∙◌, ℕ, Bool, true, false, List, [], ◌∷◌, Option, Some, None, length, if◌then◌else◌, arith, refl, sym, subst}
use Rattle.std.proofs.lemmas.Bool.{both_ways}
use Rattle.std.proofs.Math.Nat.{mul-le-mul_left}
use Rattle.kin_ids.specs.declared.ids.User.{User}
use Rattle.kin_ids.specs.Users.{same_user, has_user}
use Rattle.kin_ids.proofs.Same.{same_user-true, same_user-refl}
use Rattle.kin_rules.specs.declared.kinds.EdgeKind.{EdgeKind}
use Rattle.kin_rules.specs.Walks.{Net, Step, AtMost, Under, passed, cost, IsEdge, IsWalk, IsWhole, IsRule}
use Rattle.kin_rules.specs.Costs.{least_cost, IsLeastCost}
use Rattle.kin_rules.specs.Kept.{starts, Within, Low, IsKept, AreKept, IsAtRest, HasStart, lowered, RestIsLeast}
use Rattle.kin_rules.proofs.WalkCosts.{at_most-more, under-trans, passed-under, cost-grows, cost-short}
use Rattle.kin_rules.proofs.Simple.{pigeons}
use Rattle.kin_rules.proofs.LeastCosts.{between, least-law}

at-rest-passed : (net : Net) (f : User → Option ℕ) (w : User) → IsAtRest net f w → (k : EdgeKind) (u : User) → IsEdge net k w u → Under (f u) (passed (net.along k) (f w))
at-rest-passed net f w rest k u e = here (f w) refl
  where
    here : (o : Option ℕ) → f w ≡ o → Under (f u) (passed (net.along k) o)
    here None is = tt
    here (Some n) is = rest k u n is e

-- at rest every walk costs at least the value of its end
pub rest-under : (net : Net) (f : User → Option ℕ) → IsRule net.along net.most → AtMost (f net.mark) 0 → ((w : User) → IsAtRest net f w) → (u : User) (ws : List Step) → IsWalk net u ws → Under (f u) (cost net ws)
rest-under net f r start rest u [] w = subst (λ (x : User). AtMost (f x) 0) (sym w) start
rest-under net f r start rest u (s ∷ ws) w =
    under-trans (f u) (passed (net.along s.kind) (f s.start)) (passed (net.along s.kind) (cost net ws)) (at-rest-passed net f s.start (rest s.start) s.kind u w.0)
    (passed-under net.along net.most r s.kind (f s.start) (cost net ws) (rest-under net f r start rest s.start ws w.1))

-- every value leaves room for one edge more below the bound
pub kept-few : (net : Net) (f : User → Option ℕ) → IsRule net.along net.most → (u : User) (n : ℕ) → IsKept net f u n → n + net.most ≤ net.most * length net.users
kept-few net f r u n k =
    let short = cost-short net r k.path n k.costs in
    let some : length (u ∷ starts k.path) ≤ length net.users = pigeons (u ∷ starts k.path) net.users k.once k.within in
    let all : length (starts k.path) + 1 ≤ length net.users = omega (arith, some) in
    let times : net.most * (length (starts k.path) + 1) ≤ net.most * length net.users = mul-le-mul_left net.most all in
    omega (arith, short, times)

-- a user whose value an offer would lower isn't on the walk that offers
pub not-on : (net : Net) (f : User → Option ℕ) → IsRule net.along net.most → (u : User) (n : ℕ) (x : User) (ws : List Step) (c : ℕ) → cost net ws ≡ Some c → c ≤ n → Low net f x ws → (AtMost (f u) n → ⊥) → has_user (x ∷ starts ws) u ≡ false
not-on net f r u n x [] c is h low above = here (same_user u x) refl
  where
    here : (b : Bool) → same_user u x ≡ b → (b || false) ≡ false
    here true e = absurd (above (at_most-more (f u) 0 n (omega arith) (subst (λ (y : User). AtMost (f y) 0) (sym (same_user-true u x e)) low)))
    here false e = refl
not-on net f r u n x (s ∷ ws) c is h low above =
    let g = cost-grows net r s ws c is in
    here (same_user u x) refl (not-on net f r u n s.start ws g.0 g.1 (omega (arith, g.2, h)) low.1 above)
  where
    here : (b : Bool) → same_user u x ≡ b → has_user (s.start ∷ starts ws) u ≡ false → (b || has_user (s.start ∷ starts ws) u) ≡ false
    here true e k =
        let at : AtMost (f x) c = subst (λ (o : Option ℕ). Under (f x) o) is low.0 in
        absurd (above (at_most-more (f u) c n h (subst (λ (y : User). AtMost (f y) c) (sym (same_user-true u x e)) at)))
    here false e k = k

lower : (f : User → Option ℕ) (u : User) (m : ℕ) → (AtMost (f u) m → ⊥) → (x : User) (o : Option ℕ) → Under (f x) o → Under (lowered f u m x) o
lower f u m above x None k = tt
lower f u m above x (Some n) k = here (same_user u x) refl
  where
    less : (o : Option ℕ) → (AtMost o m → ⊥) → AtMost o n → m ≤ n
    less None above k = absurd k
    less (Some y) above k = at-least y above k
      where
        at-least : (y : ℕ) → (y ≤ m → ⊥) → y ≤ n → m ≤ n
        at-least y above k = omega (arith, above, k)

    here : (b : Bool) → same_user u x ≡ b → AtMost (if b then Some m else f x) n
    here true e = less (f u) above (subst (λ (y : User). AtMost (f y) n) (sym (same_user-true u x e)) k)
    here false e = k

pub low-lower : (net : Net) (f : User → Option ℕ) (u : User) (m : ℕ) → (AtMost (f u) m → ⊥) → (x : User) (ws : List Step) → Low net f x ws → Low net (lowered f u m) x ws
low-lower net f u m above x [] low = lower f u m above x (Some 0) low
low-lower net f u m above x (s ∷ ws) low = (lower f u m above x (cost net (s ∷ ws)) low.0, low-lower net f u m above s.start ws low.1)

pub lowered-here : (f : User → Option ℕ) (u : User) (m : ℕ) → lowered f u m u ≡ Some m
lowered-here f u m = rw (same_user-refl u) refl

-- a lesser offer along an edge keeps the values' meaning
pub offer-keeps : (net : Net) (f : User → Option ℕ) → IsRule net.along net.most → (k : EdgeKind) (w u : User) (n m : ℕ) → AreKept net f → IsEdge net k w u → has_user net.users u ≡ true → f w ≡ Some n → net.along k n ≡ Some m
    → (AtMost (f u) m → ⊥) → AreKept net (lowered f u m)
offer-keeps net f r k w u n m facts edge there is offer above x q e = here (same_user u x) refl e
  where
    here : (b : Bool) → same_user u x ≡ b → (if b then Some m else f x) ≡ Some q → IsKept net (lowered f u m) x q
    here true d e =
        let old = facts w n is in
        let path : List Step = record { start = w; kind = k } ∷ old.path in
        let costs : cost net path ≡ Some m = rw old.costs offer in
        let much : m ≡ q = cc in
        let grown = r.grows k n m offer in
        let out : has_user (w ∷ starts old.path) u ≡ false = not-on net f r u m w old.path n old.costs (omega (arith, grown.0)) old.low above in
        let first : Under (lowered f u m u) (cost net path) = rw (costs, lowered-here f u m) (omega arith) in
        let done : IsKept net (lowered f u m) u m = record {
          path = path;
          walk = (edge, old.walk);
          costs = costs;
          once = (out, old.once);
          low = (first, low-lower net f u m above w old.path old.low);
          within = (there, old.within);
        } in
        subst (λ (y : User). IsKept net (lowered f u m) y q) (same_user-true u x d) (subst (λ (c : ℕ). IsKept net (lowered f u m) u c) much done)
    here false d e =
        let old = facts x q e in
        record { path = old.path; walk = old.walk; costs = old.costs; once = old.once; low = low-lower net f u m above x old.path old.low; within = old.within }

-- values that are read alike are kept alike
pub low-alike : (net : Net) (f g : User → Option ℕ) → ((x : User) → f x ≡ g x) → (x : User) (ws : List Step) → Low net f x ws → Low net g x ws
low-alike net f g same x [] low = rw (← same x) low
low-alike net f g same x (s ∷ ws) low = (subst (λ (o : Option ℕ). Under o (cost net (s ∷ ws))) (same x) low.0, low-alike net f g same s.start ws low.1)

pub kept-alike : (net : Net) (f g : User → Option ℕ) → ((x : User) → f x ≡ g x) → AreKept net f → AreKept net g
kept-alike net f g same facts u n e =
    let old = facts u n (same u ∙ e) in
    record { path = old.path; walk = old.walk; costs = old.costs; once = old.once; low = low-alike net f g same u old.path old.low; within = old.within }

-- a walk to u at a cost of at most n
abbrev pub Reached : Net → User → ℕ → Type 0
Reached net u n = (ws : List Step) × (c : ℕ) × IsWalk net u ws × (cost net ws ≡ Some c) × (c ≤ n) × (has_user net.users net.mark ≡ true)

-- values that walks reach, at rest, are the least costs
pub reached-least : (net : Net) (f : User → Option ℕ) → IsRule net.along net.most → IsWhole net → HasStart net f → ((w : User) → IsAtRest net f w) → (u : User) → ((n : ℕ) → f u ≡ Some n → Reached net u n) → f u ≡ least_cost net u
reached-least net f r whole start rest u from = here (has_user net.users net.mark) refl
  where
    law : IsLeastCost net u (least_cost net u)
    law = least-law net r whole u

    here : (b : Bool) → has_user net.users net.mark ≡ b → f u ≡ least_cost net u
    here false gone = none (f u) refl
      where
        none : (o : Option ℕ) → f u ≡ o → f u ≡ least_cost net u
        none None e = e ∙ sym (law.outside gone)
        none (Some n) e = let w = from n e in absurd (both_ways (has_user net.users net.mark) gone w.5)
    here true there = between (f u) (least_cost net u) up down
      where
        up : (n : ℕ) → f u ≡ Some n → AtMost (least_cost net u) n
        up n e =
            let w = from n e in
            at_most-more (least_cost net u) w.1 n w.4 (subst (λ (o : Option ℕ). Under (least_cost net u) o) w.3 (law.under there w.0 w.2))

        down : (n : ℕ) → least_cost net u ≡ Some n → AtMost (f u) n
        down n e =
            let w = law.walked n e in
            subst (λ (o : Option ℕ). Under (f u) o) w.costs (rest-under net f r (start there) rest u w.path w.walk)

pub mark-there : (net : Net) (u : User) (ws : List Step) → IsWalk net u ws → Within (u ∷ starts ws) net.users → has_user net.users net.mark ≡ true
mark-there net u [] w h = subst (λ (y : User). has_user net.users y ≡ true) w h.0
mark-there net u (s ∷ ws) w h = mark-there net s.start ws w.1 h.1

pub rest-law : RestIsLeast
rest-law net f r whole kept start rest u = reached-least net f r whole start rest u from
  where
    from : (n : ℕ) → f u ≡ Some n → Reached net u n
    from n e = let k = kept u n e in (k.path, n, k.walk, k.costs, omega arith, mark-there net u k.path k.walk k.within)
