-- The least number that passes a test.
use Rattle.std.proofs.Common.{◌≡◌, ◌≤◌, ◌<◌, ◌==◌, ◌||◌, ◌⊎◌, inl, inr, ℕ, zero, suc, Bool, true, false, Option, Some, None, if◌then◌else◌, arith, refl, subst}
use Rattle.std.proofs.lemmas.Bool.{or_cases, or_left, or_right, both_ways}
use Rattle.std.proofs.lemmas.Bool.Decides.{nat_tests}
use Rattle.std.specs.Prelude.{nat_lt}
use Rattle.kin_rules.specs.Walks.{AtMost}
use Rattle.kin_rules.specs.Costs.{any_below, least_below}

pub any-found : (test : ℕ → Bool) (n : ℕ) → any_below test n ≡ true → (d : ℕ) × (d < n) × (test d ≡ true)
any-found test zero h = absurd cc
any-found test (suc n) h = here (or_cases (test n) (any_below test n) h) (any-found test n)
  where
    here : (test n ≡ true) ⊎ (any_below test n ≡ true) → (any_below test n ≡ true → (d : ℕ) × (d < n) × (test d ≡ true)) → (d : ℕ) × (d < suc n) × (test d ≡ true)
    here (inl k) more = (n, omega arith, k)
    here (inr k) more = let m = more k in (m.0, omega (arith, m.1), m.2)

pub any-there : (test : ℕ → Bool) (n d : ℕ) → d < n → test d ≡ true → any_below test n ≡ true
any-there test zero d h k = absurd (omega (arith, h))
any-there test (suc n) d h k = here (d == n) refl (any-there test n d)
  where
    here : (b : Bool) → (d == n) ≡ b → (d < n → test d ≡ true → any_below test n ≡ true) → (test n || any_below test n) ≡ true
    here true e more = let same : d ≡ n = grind (arith, nat_tests, e) in or_left (test n) (any_below test n) (subst (λ (m : ℕ). test m ≡ true) same k)
    here false e more = or_right (test n) (any_below test n) (more (grind (arith, nat_tests, e, h)) k)

pub least-found : (test : ℕ → Bool) (n c : ℕ) → least_below test n ≡ Some c → (c < n) × (test c ≡ true) × ((d : ℕ) → d < c → test d ≡ true → ⊥)
least-found test zero c h = absurd cc
least-found test (suc n) c h = here (any_below test n) refl (test n) refl h (least-found test n c)
  where
    here : (b : Bool) → any_below test n ≡ b → (a : Bool) → test n ≡ a → (if b then least_below test n else (if a then Some n else None)) ≡ Some c
        → (least_below test n ≡ Some c → (c < n) × (test c ≡ true) × ((d : ℕ) → d < c → test d ≡ true → ⊥)) → (c < suc n) × (test c ≡ true) × ((d : ℕ) → d < c → test d ≡ true → ⊥)
    here true e a q h more = let m = more h in (omega (arith, m.0), m.1, m.2)
    here false e false q h more = absurd cc
    here false e true q h more =
        let same : n ≡ c = cc in
        (omega (arith, same), subst (λ (x : ℕ). test x ≡ true) same q, λ d lt k. both_ways (any_below test n) e (any-there test n d (omega (arith, same, lt)) k))

pub lost : (test : ℕ → Bool) (n c : ℕ) → c < n → test c ≡ true → least_below test n ≡ None → ⊥
lost test zero c lt k e = omega (arith, lt)
lost test (suc n) c lt k e = here (any_below test n) refl (test n) refl e (lost test n)
  where
    here : (b : Bool) → any_below test n ≡ b → (a : Bool) → test n ≡ a → (if b then least_below test n else (if a then Some n else None)) ≡ None
        → ((d : ℕ) → d < n → test d ≡ true → least_below test n ≡ None → ⊥) → ⊥
    here true h a q e more = let w = any-found test n h in more w.0 w.1 w.2 e
    here false h true q e more = absurd cc
    here false h false q e more = split (c == n) refl
      where
        split : (b : Bool) → (c == n) ≡ b → ⊥
        split true p = let same : c ≡ n = grind (arith, nat_tests, p) in both_ways (test n) q (subst (λ (m : ℕ). test m ≡ true) same k)
        split false p = let less : c < n = grind (arith, nat_tests, p, lt) in both_ways (any_below test n) h (any-there test n c less k)

pub least-there : (test : ℕ → Bool) (n c : ℕ) → c < n → test c ≡ true → AtMost (least_below test n) c
least-there test n c lt k = here (least_below test n) refl
  where
    found : (m : ℕ) → ((d : ℕ) → d < m → test d ≡ true → ⊥) → m ≤ c
    found m never = at (nat_lt c m) refl
      where
        at : (b : Bool) → nat_lt c m ≡ b → m ≤ c
        at true q = absurd (never c (grind (arith, nat_tests, q)) k)
        at false q = grind (arith, nat_tests, q)

    here : (o : Option ℕ) → least_below test n ≡ o → AtMost o c
    here None e = absurd (lost test n c lt k e)
    here (Some m) e = found m (least-found test n m e).2
