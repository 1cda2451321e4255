-- Values that rest on edges are the least costs, where nothing offers less.
use Rattle.std.proofs.Common.{◌≡◌, ◌≤◌, ◌<◌, ◌⊎◌, inl, inr, ℕ, zero, suc, true, List, [], ◌∷◌, Option, Some, None, arith, refl, sym, subst}
use Rattle.kin_ids.specs.declared.ids.User.{User}
use Rattle.kin_ids.specs.Users.{has_user}
use Rattle.kin_rules.specs.Walks.{Net, Step, AtMost, Under, passed, cost, IsWalk, IsRule}
use Rattle.kin_rules.specs.Support.{IsSupported, AreSupported, SupportIsLeast}
use Rattle.kin_rules.proofs.Kept.{Reached, reached-least}

-- by the value, from below
below : (net : Net) (f : User → Option ℕ) → IsRule net.along net.most → AreSupported net f → (top : ℕ) (u : User) (n : ℕ) → n < top → f u ≡ Some n → Reached net u n
below net f r kept zero u n lt is = absurd (omega (arith, lt))
below net f r kept (suc top) u n lt is = here (kept u n is) (below net f r kept top)
  where
    here : ((u ≡ net.mark) × (has_user net.users u ≡ true)) ⊎ IsSupported net f u n → ((x : User) (m : ℕ) → m < top → f x ≡ Some m → Reached net x m) → Reached net u n
    here (inl t) more = ([], 0, t.0, refl, omega arith, subst (λ (y : User). has_user net.users y ≡ true) t.0 t.1)
    here (inr s) more = offered (net.along s.kind s.value) refl s.offers
      where
        offered : (o : Option ℕ) → net.along s.kind s.value ≡ o → AtMost o n → Reached net u n
        offered None e h = absurd h
        offered (Some m) e h =
            let grown = r.grows s.kind s.value m e in
            let old = more s.start s.value (omega (arith, grown.0, h, lt)) s.has_value in
            let up : Under (net.along s.kind old.1) (Some m) = subst (λ (o : Option ℕ). Under (net.along s.kind old.1) o) e (r.monotone s.kind old.1 s.value old.4) in
            next old.0 old.1 old.2 old.3 old.5 (net.along s.kind old.1) refl up
          where
            next : (ws : List Step) (c : ℕ) → IsWalk net s.start ws → cost net ws ≡ Some c → has_user net.users net.mark ≡ true → (o : Option ℕ) → net.along s.kind c ≡ o → Under o (Some m) → Reached net u n
            next ws c w costs there None q k = absurd k
            next ws c w costs there (Some d) q k =
                (record { start = s.start; kind = s.kind } ∷ ws, d, (s.edge, w), subst (λ (o : Option ℕ). passed (net.along s.kind) o ≡ Some d) (sym costs) q, omega (arith, k, h), there)

reached : (net : Net) (f : User → Option ℕ) → IsRule net.along net.most → AreSupported net f → (top : ℕ) (u : User) (n : ℕ) → n ≤ top → f u ≡ Some n → Reached net u n
reached net f r kept top u n le is = below net f r kept (suc top) u n (omega (arith, le)) is

pub support-law : SupportIsLeast
support-law net f r whole kept start rest u = reached-least net f r whole start rest u (λ n e. reached net f r kept n u n (omega arith) e)
