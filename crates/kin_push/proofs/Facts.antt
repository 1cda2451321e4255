-- The facts through offers, and at the end of a turn.
use Rattle.std.proofs.Common.{◌≡◌, ◌≤◌, ◌<◌, ◌+◌, ◌*◌, ◌||◌, ◌∙◌, ◌⊎◌, inl, inr, ℕ, Bool, true, false, List, [], ◌∷◌, Option, Some, None}
use Rattle.std.proofs.Common.{if◌then◌else◌, arith, refl, sym, subst}
use Rattle.std.proofs.lemmas.Bool.{both_ways}
use Rattle.std.proofs.lemmas.Bool.Decides.{nat_tests}
use Rattle.std.proofs.Math.Nat.{mul-le-mul_right}
use Rattle.kin_ids.specs.declared.ids.User.{User}
use Rattle.kin_ids.specs.Users.{same_user, has_user}
use Rattle.kin_ids.proofs.Same.{same_user-true, same_user-refl, same_user-sym}
use Rattle.kin_rules.specs.declared.kinds.EdgeKind.{EdgeKind}
use Rattle.kin_rules.specs.Walks.{Net, Step, AtMost, Under, cost, IsEdge, IsWhole, IsRule}
use Rattle.kin_rules.specs.Costs.{bound}
use Rattle.kin_rules.specs.Kept.{Low, IsKept, AreKept, IsAtRest}
use Rattle.kin_rules.proofs.WalkCosts.{at_most-more, under-trans}
use Rattle.kin_rules.proofs.Kept.{kept-few, not-on}
use Rattle.kin_push.specs.Potential.{counted, sum_over, potential}
use Rattle.kin_push.specs.Facts.{exceeds, IsOn, Fell}
use Rattle.kin_push.specs.Offers.{Stays, Takes, IsPushed, IsTaken, IsAtRestBy, IsSent, IsTurning}
use Rattle.kin_push.specs.Turns.{IsMoved}

pub exceeds-above : (o : Option ℕ) (m : ℕ) → exceeds o m ≡ true → AtMost o m → ⊥
exceeds-above None m e k = k
exceeds-above (Some n) m e k = let lt : m < n = grind (arith, nat_tests, e) in omega (arith, lt, k)

pub exceeds-not : (o : Option ℕ) (m : ℕ) → exceeds o m ≡ false → AtMost o m
exceeds-not None m e = absurd cc
exceeds-not (Some n) m e = grind (arith, nat_tests, e)

exceeds-same : (m : ℕ) → exceeds (Some m) m ≡ false
exceeds-same m = grind (arith, nat_tests)

pub under-self : (o : Option ℕ) → Under o o
under-self None = tt
under-self (Some n) = omega arith

-- an offer of m lies under what it lowers
exceeds-under : (o : Option ℕ) (m : ℕ) → exceeds o m ≡ true → Under (Some m) o
exceeds-under None m e = tt
exceeds-under (Some n) m e = let lt : m < n = grind (arith, nat_tests, e) in omega (arith, lt)

fell-under : (o p : Option ℕ) → Fell o p → Under p o
fell-under o p h = rw h.1 (exceeds-under o h.0 h.2)

exceeds-up : (o p : Option ℕ) (m : ℕ) → Under p o → exceeds p m ≡ true → exceeds o m ≡ true
exceeds-up None p m u e = refl
exceeds-up (Some n) None m u e = absurd u
exceeds-up (Some n) (Some q) m u e = let lt : m < q = grind (arith, nat_tests, e) in let le : q ≤ n = u in grind (arith, nat_tests, lt, le)

-- one more offer of the same value

pub pushed-none : (ends : List User) (m : ℕ) (f : User → Option ℕ) (a : User → Bool) → IsPushed ends m f a f a
pushed-none ends m f a = record { each = λ x. inl (refl, refl) }

pub one-of : (x e : User) → has_user (e ∷ []) x ≡ true → x ≡ e
one-of x e k = split (same_user x e) refl k
  where
    split : (t : Bool) → same_user x e ≡ t → (t || false) ≡ true → x ≡ e
    split true is k = same_user-true x e is
    split false is k = absurd cc

pub pushed-more : (ends : List User) (e : User) (m : ℕ) (f : User → Option ℕ) (a : User → Bool) (g : User → Option ℕ) (b : User → Bool)
    (h : User → Option ℕ) (c : User → Bool)
    → has_user ends e ≡ true → IsPushed ends m f a g b → IsPushed (e ∷ []) m g b h c → IsPushed ends m f a h c
pushed-more ends e m f a g b h c there p q = record { each = λ x. here x (p.each x) (q.each x) }
  where
    here : (x : User) → Stays (f x) (a x) (g x) (b x) ⊎ ((has_user ends x ≡ true) × Takes m (f x) (g x) (b x))
        → Stays (g x) (b x) (h x) (c x) ⊎ ((has_user (e ∷ []) x ≡ true) × Takes m (g x) (h x) (c x))
        → Stays (f x) (a x) (h x) (c x) ⊎ ((has_user ends x ≡ true) × Takes m (f x) (h x) (c x))
    here x (inl s) (inl t) = inl (t.0 ∙ s.0, t.1 ∙ s.1)
    here x (inr s) (inl t) = inr (s.0, (s.1.0, t.0 ∙ s.1.1, t.1 ∙ s.1.2))
    here x (inl s) (inr t) = inr (
      subst (λ (y : User). has_user ends y ≡ true) (sym (one-of x e t.0)) there,
      (subst (λ (o : Option ℕ). exceeds o m ≡ true) s.0 t.1.0, t.1.1, t.1.2),
    )
    here x (inr s) (inr t) = absurd (both_ways (exceeds (g x) m)
        (subst (λ (o : Option ℕ). exceeds o m ≡ false) (sym s.1.1) (exceeds-same m)) t.1.0)

pub pushed-under : (ends : List User) (m : ℕ) (f : User → Option ℕ) (a : User → Bool) (g : User → Option ℕ) (b : User → Bool)
    → IsPushed ends m f a g b → (x : User) → Under (g x) (f x)
pushed-under ends m f a g b p x = here (p.each x)
  where
    here : Stays (f x) (a x) (g x) (b x) ⊎ ((has_user ends x ≡ true) × Takes m (f x) (g x) (b x)) → Under (g x) (f x)
    here (inl s) = subst (λ (o : Option ℕ). Under o (f x)) (sym s.0) (under-self (f x))
    here (inr s) = subst (λ (o : Option ℕ). Under o (f x)) (sym s.1.1) (exceeds-under (f x) m s.1.0)

-- who takes the offer, told by each user's value and mark
pub took : (u : User) (n : ℕ) (f : User → Option ℕ) (a : User → Bool) (g : User → Option ℕ) (b : User → Bool) → exceeds (f u) n ≡ true
    → ((x : User) → g x ≡ (if same_user u x then Some n else f x)) → ((x : User) → b x ≡ (if same_user u x then true else a x))
    → IsPushed (u ∷ []) n f a g b
took u n f a g b over values active = record { each = λ x. here x (same_user u x) refl (values x) (active x) }
  where
    here : (x : User) (t : Bool) → same_user u x ≡ t → g x ≡ (if t then Some n else f x) → b x ≡ (if t then true else a x)
        → Stays (f x) (a x) (g x) (b x) ⊎ ((has_user (u ∷ []) x ≡ true) × Takes n (f x) (g x) (b x))
    here x true e p q =
        let back : same_user x u ≡ true = same_user-sym x u ∙ e in
        inr (rw back refl, (subst (λ (y : User). exceeds (f y) n ≡ true) (same_user-true u x e) over, p, q))
    here x false e p q = inl (p, q)

pub under-at : (o p : Option ℕ) (n : ℕ) → Under o p → AtMost p n → AtMost o n
under-at o p n h k = under-trans o p (Some n) h k

pub low-under : (net : Net) (f g : User → Option ℕ) → ((x : User) → Under (g x) (f x)) → (x : User) (ws : List Step) → Low net f x ws
    → Low net g x ws
low-under net f g less x [] low = under-at (g x) (f x) 0 (less x) low
low-under net f g less x (s ∷ ws) low = (
  under-trans (g x) (f x) (cost net (s ∷ ws)) (less x) low.0,
  low-under net f g less s.start ws
      low.1,
)

-- sums

pub sum-le : (f g : User → ℕ) (vs : List User) → ((x : User) → g x ≤ f x) → sum_over g vs ≤ sum_over f vs
sum-le f g [] less = omega arith
sum-le f g (v ∷ vs) less = omega (arith, less v, sum-le f g vs less)

pub sum-falls : (f g : User → ℕ) (u : User) (r : ℕ) (vs : List User) → ((x : User) → g x ≤ f x) → g u + r ≤ f u → has_user vs u ≡ true
    → sum_over g vs + r ≤ sum_over f vs
sum-falls f g u r [] less falls there = absurd cc
sum-falls f g u r (v ∷ vs) less falls there = here (same_user u v) refl there (sum-falls f g u r vs less falls)
  where
    here : (b : Bool) → same_user u v ≡ b → (b || has_user vs u) ≡ true → (has_user vs u ≡ true → sum_over g vs + r ≤ sum_over f vs)
        → (g v + sum_over g vs) + r ≤ f v + sum_over f vs
    here true e h more =
        let at : g v + r ≤ f v = subst (λ (y : User). g y + r ≤ f y) (same_user-true u v e) falls in
        omega (arith, at, sum-le f g vs less)
    here false e h more = omega (arith, less v, more h)

-- what a user may still read
abbrev pub owed : Net → (User → ℕ) → (User → Option ℕ) → (User → Bool) → User → ℕ
owed net reads f active u = (counted (bound net) (f u) + (if active u then 1 else 0)) * reads u

-- an offer along edges out of u

-- a kept value is at most the cost of its walk
kept-low : (net : Net) (f : User → Option ℕ) (u : User) (n : ℕ) → IsKept net f u n → AtMost (f u) n
kept-low net f u n k = here k.path k.costs k.low
  where
    here : (ws : List Step) → cost net ws ≡ Some n → Low net f u ws → AtMost (f u) n
    here [] e low = let is : 0 ≡ n = cc in subst (λ (m : ℕ). AtMost (f u) m) is low
    here (s ∷ ws) e low = subst (λ (o : Option ℕ). Under (f u) o) e low.0

kept-pushed : (net : Net) (f : User → Option ℕ) → IsRule net.along net.most → IsWhole net
    → (k : EdgeKind) (u x : User) (n m : ℕ) (g : User → Option ℕ) → IsKept net f u n → net.along k n ≡ Some m → IsEdge net k u x
    → exceeds (f x) m ≡ true → g x ≡ Some m → ((y : User) → Under (g y) (f y)) → IsKept net g x m
kept-pushed net f r whole k u x n m g old offer edge over took less =
    let path : List Step = record { start = u; kind = k } ∷ old.path in
    let costs : cost net path ≡ Some m = rw old.costs offer in
    let grown = r.grows k n m offer in
    let first : Under (g x) (cost net path) = rw (costs, took) (omega arith) in
    record {
      path = path;
      walk = (edge, old.walk);
      costs = costs;
      once = (not-on net f r x m u old.path n old.costs (omega (arith, grown.0)) old.low (exceeds-above (f x) m over), old.once);
      low = (first, low-under net f g less u old.path old.low);
      within = ((whole k u x edge).1, old.within);
    }

-- offers of the value of u turn it
module _ (net : Net) (r : IsRule net.along net.most) (k : EdgeKind) (u : User) (n m : ℕ) (f : User → Option ℕ) (a : User → Bool)
    (g : User → Option ℕ) (b : User → Bool)
    (s : IsOn net f a) (is : f u ≡ Some n) (act : a u ≡ true) (offer : net.along k n ≡ Some m) (p : IsPushed (net.ends k u) m f a g b) where
  less : (x : User) → Under (g x) (f x)
  less = pushed-under (net.ends k u) m f a g b p

  walk-of-u : IsKept net f u n
  walk-of-u = s.acting.kept u n is

  kept : AreKept net g
  kept x q e = here (p.each x)
    where
      here : Stays (f x) (a x) (g x) (b x) ⊎ ((has_user (net.ends k u) x ≡ true) × Takes m (f x) (g x) (b x)) → IsKept net g x q
      here (inl t) =
          let old = s.acting.kept x q (sym t.0 ∙ e) in
          record {
            path = old.path;
            walk = old.walk;
            costs = old.costs;
            once = old.once;
            low = low-under net f g less x old.path old.low;
            within = old.within;
          }
      here (inr t) =
          let both : Some m ≡ Some q = sym t.1.1 ∙ e in
          let same : m ≡ q = cc in
          subst (λ (c : ℕ). IsKept net g x c) same (kept-pushed net f r s.whole k u x n m g walk-of-u offer t.0 t.1.0 t.1.1 less)

  rest : (w : User) → IsAtRest net g w ⊎ (b w ≡ true)
  rest w = here (p.each w) (s.acting.rest w)
    where
      here : Stays (f w) (a w) (g w) (b w) ⊎ ((has_user (net.ends k u) w ≡ true) × Takes m (f w) (g w) (b w)) → IsAtRest net f w
          ⊎ (a w ≡ true) → IsAtRest net g w ⊎ (b w ≡ true)
      here (inl t) (inl at) = inl (λ j x q e edge. under-trans (g x) (f x) (net.along j q) (less x) (at j x q (sym t.0 ∙ e) edge))
      here (inl t) (inr on) = inr (t.1 ∙ on)
      here (inr t) _ = inr t.1.2

  within : (w : User) → b w ≡ true → has_user net.users w ≡ true
  within w on = here (p.each w)
    where
      here : Stays (f w) (a w) (g w) (b w) ⊎ ((has_user (net.ends k u) w ≡ true) × Takes m (f w) (g w) (b w)) → has_user net.users w ≡ true
      here (inl t) = s.within w (sym t.1 ∙ on)
      here (inr t) = (s.whole k u w t.0).1

  values : (x : User) → IsSent net u x (f x) (g x)
  values x = here (p.each x)
    where
      here : Stays (f x) (a x) (g x) (b x) ⊎ ((has_user (net.ends k u) x ≡ true) × Takes m (f x) (g x) (b x)) → IsSent net u x (f x) (g x)
      here (inl t) = inl t.0
      here (inr t) = inr ((k, t.0), (m, t.1.1, t.1.0))

  actives : (x : User) → b x ≡ true → (a x ≡ true) ⊎ Fell (f x) (g x)
  actives x on = here (p.each x)
    where
      here : Stays (f x) (a x) (g x) (b x) ⊎ ((has_user (net.ends k u) x ≡ true) × Takes m (f x) (g x) (b x)) → (a x ≡ true)
          ⊎ Fell (f x) (g x)
      here (inl t) = inl (sym t.1 ∙ on)
      here (inr t) = inr (m, t.1.1, t.1.0)

  value : Stays (f u) (a u) (g u) (b u) ⊎ ((has_user (net.ends k u) u ≡ true) × Takes m (f u) (g u) (b u)) → g u ≡ f u
  value (inl t) = t.0
  value (inr t) =
      let grown = r.grows k n m offer in
      let low : AtMost (f u) m = at_most-more (f u) n m (omega (arith, grown.0)) (kept-low net f u n walk-of-u) in
      absurd (exceeds-above (f u) m t.1.0 low)

  active : Stays (f u) (a u) (g u) (b u) ⊎ ((has_user (net.ends k u) u ≡ true) × Takes m (f u) (g u) (b u)) → b u ≡ true
  active (inl t) = t.1 ∙ act
  active (inr t) = t.1.2

  pays : (reads : User → ℕ) (x : User) → Stays (f x) (a x) (g x) (b x) ⊎ ((has_user (net.ends k u) x ≡ true) × Takes m (f x) (g x) (b x))
      → owed net reads g b x ≤ owed net reads f a x
  pays reads x (inl t) = rw (t.0, t.1) (omega arith)
  pays reads x (inr t) = rw (t.1.1, t.1.2) (mul-le-mul_right (reads x) (counts (f x) refl))
    where
      counts : (o : Option ℕ) → f x ≡ o → m + 1 ≤ counted (bound net) (f x) + (if a x then 1 else 0)
      counts None e =
          let few = kept-few net g r x m (kept x m t.1.1) in
          let up : m + 1 ≤ counted (bound net) (f x) = rw e (omega (arith, few, r.some)) in
          omega (arith, up)
      counts (Some q) e =
          let over : exceeds (Some q) m ≡ true = rw e at t.1.0 in
          let lt : m < q = grind (arith, nat_tests, over) in
          let up : m + 1 ≤ counted (bound net) (f x) = rw e (omega (arith, lt)) in
          omega (arith, up)

  pub push-turns : IsTurning net u f a g b
  push-turns = record {
    on = record {
      whole = s.whole;
      small = s.small;
      acting = record {
        kept = kept;
        start = λ there. under-at (g net.mark) (f net.mark) 0 (less net.mark) (s.acting.start there);
        rest =
            rest;
      };
      within = within;
    };
    values = values;
    actives = actives;
    value = value (p.each u);
    active = active (p.each u);
    paid = λ (reads : User → ℕ). sum-le (owed net reads f a) (owed net reads g b) net.users (λ x. pays reads x (p.each x));
  }

-- the parts of a turn

pub turning-none : (net : Net) (u : User) (f : User → Option ℕ) (a : User → Bool) → IsOn net f a → a u ≡ true → IsTurning net u f a f a
turning-none net u f a s act = record {
  on = s;
  values = λ x. inl refl;
  actives = λ x on. inl on;
  value = refl;
  active = act;
  paid = λ (reads : User → ℕ). omega arith;
}

pub sent-under : (net : Net) (u x : User) (o p : Option ℕ) → IsSent net u x o p → Under p o
sent-under net u x o p (inl e) = subst (λ (q : Option ℕ). Under q o) (sym e) (under-self o)
sent-under net u x o p (inr t) = fell-under o p t.1

fell-later : (o p q : Option ℕ) → Under p o → Fell p q → Fell o q
fell-later o p q less t = (t.0, t.1, exceeds-up o p t.0 less t.2)

pub turning-then : (net : Net) (u : User) (f : User → Option ℕ) (a : User → Bool) (g : User → Option ℕ) (b : User → Bool)
    (h : User → Option ℕ) (c : User → Bool) → IsTurning net u f a g b → IsTurning net u g b h c → IsTurning net u f a h c
turning-then net u f a g b h c s t = record {
  on = t.on;
  values = λ x. values x (s.values x) (t.values x);
  actives = λ x on. actives x (t.actives x on);
  value = t.value ∙ s.value;
  active = t.active;
  paid = λ (reads : User → ℕ). omega (arith, s.paid reads, t.paid reads);
}
  where
    values : (x : User) → IsSent net u x (f x) (g x) → IsSent net u x (g x) (h x) → IsSent net u x (f x) (h x)
    values x (inl p) (inl q) = inl (q ∙ p)
    values x (inl p) (inr q) = inr (q.0, subst (λ (o : Option ℕ). Fell o (h x)) p q.1)
    values x (inr p) (inl q) = inr (p.0, subst (λ (o : Option ℕ). Fell (f x) o) (sym q) p.1)
    values x (inr p) (inr q) = inr (p.0, fell-later (f x) (g x) (h x) (fell-under (f x) (g x) p.1) q.1)

    less : (x : User) → Under (g x) (f x)
    less x = sent-under net u x (f x) (g x) (s.values x)

    fallen : (x : User) → Fell (f x) (g x) → IsSent net u x (g x) (h x) → Fell (f x) (h x)
    fallen x p (inl q) = subst (λ (o : Option ℕ). Fell (f x) o) (sym q) p
    fallen x p (inr q) = fell-later (f x) (g x) (h x) (less x) q.1

    first : (x : User) → (a x ≡ true) ⊎ Fell (f x) (g x) → (a x ≡ true) ⊎ Fell (f x) (h x)
    first x (inl p) = inl p
    first x (inr p) = inr (fallen x p (t.values x))

    actives : (x : User) → (b x ≡ true) ⊎ Fell (g x) (h x) → (a x ≡ true) ⊎ Fell (f x) (h x)
    actives x (inl p) = first x (s.actives x p)
    actives x (inr p) = inr (fell-later (f x) (g x) (h x) (less x) p)

pub rested-pushed : (net : Net) (k : EdgeKind) (u : User) (n m : ℕ) (f g : User → Option ℕ) → f u ≡ Some n → net.along k n ≡ Some m
    → g u ≡ f u → IsTaken (net.ends k u) m g → IsAtRestBy net g k u
rested-pushed net k u n m f g is offer stays taken x q e edge =
    let both : Some n ≡ Some q = sym is ∙ (sym stays ∙ e) in
    let same : n ≡ q = cc in
    subst (λ (j : ℕ). Under (g x) (net.along k j)) same (subst (λ (o : Option ℕ). Under (g x) o) (sym offer) (taken x edge))

pub rested-none : (net : Net) (k : EdgeKind) (u : User) (n : ℕ) (f : User → Option ℕ) → f u ≡ Some n → net.along k n ≡ None
    → IsAtRestBy net f k u
rested-none net k u n f is none x q e edge =
    let both : Some n ≡ Some q = sym is ∙ e in
    let same : n ≡ q = cc in
    subst (λ (j : ℕ). Under (f x) (net.along k j)) same (subst (λ (o : Option ℕ). Under (f x) o) (sym none) tt)

pub rested-later : (net : Net) (k : EdgeKind) (u : User) (f : User → Option ℕ) (a : User → Bool) (g : User → Option ℕ) (b : User → Bool)
    → IsTurning net u f a g b → IsAtRestBy net f k u → IsAtRestBy net g k u
rested-later net k u f a g b t rest x n e edge = under-trans (g x) (f x) (net.along k n) (sent-under net u x (f x) (g x) (t.values x))
    (rest x n (sym t.value ∙ e) edge)

-- the end of a turn
pub record IsTurned (net : Net) (u : User) (f : User → Option ℕ) (a : User → Bool) (g : User → Option ℕ) (b : User → Bool) : Type 0 where
  pub on : IsOn net g b
  pub moved : IsMoved net u f a g b
  pub paid : (reads : User → ℕ) → potential net reads g b + reads u ≤ potential net reads f a

pub turn-ends : (net : Net) (u : User) (f : User → Option ℕ) (a : User → Bool) (g : User → Option ℕ) (b c : User → Bool)
    → IsTurning net u f a g b → IsAtRest net g u
    → ((x : User) → c x ≡ (if same_user u x then false else b x)) → IsTurned net u f a g c
turn-ends net u f a g b c t rest gone = record {
  on = record {
    whole = t.on.whole;
    small = t.on.small;
    acting = record {
      kept = t.on.acting.kept;
      start = t.on.acting.start;
      rest = λ w. rests w (same_user u w) refl (gone w)
          (t.on.acting.rest w);
    };
    within = λ w on. t.on.within w (stays w on);
  };
  moved = record { values = t.values; actives = λ x on. t.actives x (stays x on); turned = off };
  paid = paid;
}
  where
    off : c u ≡ false
    off = subst (λ (d : Bool). c u ≡ (if d then false else b u)) (same_user-refl u) (gone u)

    stays : (x : User) → c x ≡ true → b x ≡ true
    stays x on = here (same_user u x) (gone x)
      where
        here : (d : Bool) → c x ≡ (if d then false else b x) → b x ≡ true
        here true e = absurd (both_ways (c x) e on)
        here false e = sym e ∙ on

    rests : (w : User) (d : Bool) → same_user u w ≡ d → c w ≡ (if d then false else b w) → IsAtRest net g w ⊎ (b w ≡ true)
        → IsAtRest net g w ⊎ (c w ≡ true)
    rests w true is e _ = inl (subst (λ (y : User). IsAtRest net g y) (same_user-true u w is) rest)
    rests w false is e (inl at) = inl at
    rests w false is e (inr on) = inr (e ∙ on)

    paid : (reads : User → ℕ) → potential net reads g c + reads u ≤ potential net reads f a
    paid reads = omega (
      arith,
      t.paid reads,
      sum-falls (owed net reads g b) (owed net reads g c) u (reads u) net.users
          (λ x. less x (c x) refl (b x) refl) here (t.on.within u t.active),
    )
      where
        less : (x : User) (p : Bool) → c x ≡ p → (q : Bool) → b x ≡ q → owed net reads g c x ≤ owed net reads g b x
        less x true is true was = rw (is, was) (omega arith)
        less x true is false was = absurd (both_ways (b x) was (stays x is))
        less x false is true was = rw (is, was) (mul-le-mul_right (reads x) (omega arith))
        less x false is false was = rw (is, was) (omega arith)

        here : owed net reads g c u + reads u ≤ owed net reads g b u
        here = rw (off, t.active) (omega arith)
