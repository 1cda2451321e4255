-- Walks without loops: every walk has one that costs no more.
use Rattle.std.proofs.Common.{◌≡◌, ◌≤◌, ◌<◌, ◌||◌, ◌⊎◌, inl, inr, ℕ, Bool, true, false, not, List, [], ◌∷◌, Option, Some, None, length, filter, cond, arith, refl, sym, subst}
use Rattle.std.proofs.lemmas.Bool.{or_cases, or_right, both_ways}
use Rattle.kin_ids.specs.declared.ids.User.{User}
use Rattle.kin_ids.specs.Users.{same_user, has_user}
use Rattle.kin_ids.specs.Follows.{IsOnce}
use Rattle.kin_ids.proofs.Same.{same_user-true}
use Rattle.kin_rules.specs.Walks.{Net, Step, Under, passed, cost, IsWalk, IsWhole, IsRule}
use Rattle.kin_rules.specs.Kept.{starts, Within}
use Rattle.kin_rules.proofs.WalkCosts.{cost-grows}

-- a list without repeats, all within another, is no longer
without : User → List User → List User
without x vs = filter (λ y. not (same_user x y)) vs

no-longer : (x : User) (vs : List User) → length (without x vs) ≤ length vs
unfolding without
no-longer x [] = omega arith
no-longer x (v ∷ vs) = here (same_user x v) (no-longer x vs)
  where
    here : (b : Bool) → length (without x vs) ≤ length vs → length (cond (not b) (v ∷ without x vs) (without x vs)) ≤ length (v ∷ vs)
    here true k = omega (arith, k)
    here false k = omega (arith, k)

shorter : (x : User) (vs : List User) → has_user vs x ≡ true → length (without x vs) < length vs
unfolding without
shorter x [] h = absurd cc
shorter x (v ∷ vs) h = here (same_user x v) h (no-longer x vs) (shorter x vs)
  where
    here : (b : Bool) → (b || has_user vs x) ≡ true → length (without x vs) ≤ length vs → (has_user vs x ≡ true → length (without x vs) < length vs)
        → length (cond (not b) (v ∷ without x vs) (without x vs)) < length (v ∷ vs)
    here true h k more = omega (arith, k)
    here false h k more = omega (arith, more h)

stays : (x y : User) (vs : List User) → same_user x y ≡ false → has_user vs y ≡ true → has_user (without x vs) y ≡ true
unfolding without
stays x y [] d h = absurd cc
stays x y (v ∷ vs) d h = here (same_user x v) refl (or_cases (same_user y v) (has_user vs y) h) (stays x y vs d)
  where
    here : (b : Bool) → same_user x v ≡ b → (same_user y v ≡ true) ⊎ (has_user vs y ≡ true) → (has_user vs y ≡ true → has_user (without x vs) y ≡ true) → has_user (cond (not b) (v ∷ without x vs) (without x vs)) y ≡ true
    here true e (inl k) more = absurd (both_ways (same_user x y) d (subst (λ (z : User). same_user x z ≡ true) (sym (same_user-true y v k)) e))
    here true e (inr k) more = more k
    here false e (inl k) more = rw k refl
    here false e (inr k) more = or_right (same_user y v) (has_user (without x vs) y) (more k)

others : (x : User) (xs vs : List User) → has_user xs x ≡ false → Within xs vs → Within xs (without x vs)
others x [] vs d w = tt
others x (y ∷ ys) vs d w = here (same_user x y) refl d (λ k. others x ys vs k w.1)
  where
    here : (b : Bool) → same_user x y ≡ b → (b || has_user ys x) ≡ false → (has_user ys x ≡ false → Within ys (without x vs)) → Within (y ∷ ys) (without x vs)
    here true e h more = absurd cc
    here false e h more = (stays x y vs e w.0, more h)

pub pigeons : (xs vs : List User) → IsOnce same_user xs → Within xs vs → length xs ≤ length vs
pigeons [] vs n w = omega arith
pigeons (x ∷ xs) vs n w = omega (arith, shorter x vs w.0, pigeons xs (without x vs) n.1 (others x xs vs n.0 w.1))

-- a walk without its loops
pub record Simple (net : Net) (u : User) (c : ℕ) : Type 0 where
  pub path : List Step
  pub walk : IsWalk net u path
  pub least : ℕ
  pub costs : cost net path ≡ Some least
  pub less : least ≤ c
  pub once : IsOnce same_user (u ∷ starts path)
  pub within : Within (u ∷ starts path) net.users

cut : (net : Net) → IsRule net.along net.most → (u x : User) (ws : List Step) (c : ℕ) → IsWalk net x ws → cost net ws ≡ Some c → IsOnce same_user (x ∷ starts ws) → Within (x ∷ starts ws) net.users → has_user (x ∷ starts ws) u ≡ true → Simple net u c
cut net r u x [] c w is once within h = here (or_cases (same_user u x) false h)
  where
    here : (same_user u x ≡ true) ⊎ (false ≡ true) → Simple net u c
    here (inl e) = subst (λ (y : User). Simple net y c) (sym (same_user-true u x e)) (record { path = []; walk = w; least = c; costs = is; less = omega arith; once = once; within = within })
    here (inr e) = absurd cc
cut net r u x (s ∷ ws) c w is once within h =
    let g = cost-grows net r s ws c is in
    here (or_cases (same_user u x) (has_user (s.start ∷ starts ws) u) h) (λ k. more g.0 g.2 (cut net r u s.start ws g.0 w.1 g.1 once.1 within.1 k))
  where
    more : (d : ℕ) → d < c → Simple net u d → Simple net u c
    more d lt k = record { path = k.path; walk = k.walk; least = k.least; costs = k.costs; less = omega (arith, lt, k.less); once = k.once; within = k.within }

    here : (same_user u x ≡ true) ⊎ (has_user (s.start ∷ starts ws) u ≡ true) → (has_user (s.start ∷ starts ws) u ≡ true → Simple net u c) → Simple net u c
    here (inl e) k = subst (λ (y : User). Simple net y c) (sym (same_user-true u x e)) (record { path = s ∷ ws; walk = w; least = c; costs = is; less = omega arith; once = once; within = within })
    here (inr e) k = k e

pub simple : (net : Net) → IsRule net.along net.most → IsWhole net → has_user net.users net.mark ≡ true → (u : User) (ws : List Step) (c : ℕ) → IsWalk net u ws → cost net ws ≡ Some c → Simple net u c
simple net r whole there u [] c w is =
    record { path = []; walk = w; least = c; costs = is; less = omega arith; once = (refl, tt); within = (subst (λ (y : User). has_user net.users y ≡ true) (sym w) there, tt) }
simple net r whole there u (s ∷ ws) c w is =
    let g = cost-grows net r s ws c is in
    let old : Simple net s.start g.0 = simple net r whole there s.start ws g.0 w.1 g.1 in
    let offers : net.along s.kind g.0 ≡ Some c = subst (λ (o : Option ℕ). passed (net.along s.kind) o ≡ Some c) g.1 is in
    here g.0 g.2 offers old (has_user (s.start ∷ starts old.path) u) refl
  where
    here : (d : ℕ) → d < c → net.along s.kind d ≡ Some c → (old : Simple net s.start d) → (b : Bool) → has_user (s.start ∷ starts old.path) u ≡ b → Simple net u c
    here d lt offers old true e =
        let k = cut net r u s.start old.path old.least old.walk old.costs old.once old.within e in
        record { path = k.path; walk = k.walk; least = k.least; costs = k.costs; less = omega (arith, lt, k.less, old.less); once = k.once; within = k.within }
    here d lt offers old false e = offered (net.along s.kind old.least) refl (subst (λ (o : Option ℕ). Under (net.along s.kind old.least) o) offers (r.monotone s.kind old.least d old.less))
      where
        offered : (o : Option ℕ) → net.along s.kind old.least ≡ o → Under o (Some c) → Simple net u c
        offered None q k = absurd k
        offered (Some m) q k = record {
          path = s ∷ old.path;
          walk = (w.0, old.walk);
          least = m;
          costs = subst (λ (o : Option ℕ). passed (net.along s.kind) o ≡ Some m) (sym old.costs) q;
          less = k;
          once = (e, old.once);
          within = ((whole s.kind s.start u w.0).1, old.within);
        }
