-- The least cost is that of all walks.
use Rattle.std.proofs.Common.{◌≡◌, ◌≤◌, ◌<◌, ◌+◌, ◌*◌, ◌==◌, ◌||◌, ◌&&◌, ◌∙◌, ◌⊎◌, inl, inr, ℕ, zero, suc, Bool, true, false, List, [], ◌∷◌, Option, Some, None, length, if◌then◌else◌, arith, refl, sym, subst, ap}
use Rattle.std.proofs.lemmas.Bool.{or_cases, or_left, or_right, and_parts, and_from, both_ways}
use Rattle.std.proofs.lemmas.Bool.Decides.{nat_tests}
use Rattle.std.proofs.Math.Nat.{mul-le-mul_left}
use Rattle.std.specs.List.{list_any}
use Rattle.kin_ids.specs.declared.ids.User.{User}
use Rattle.kin_ids.specs.Users.{same_user, has_user}
use Rattle.kin_ids.proofs.Same.{same_user-true, same_user-refl}
use Rattle.kin_rules.specs.declared.kinds.EdgeKind.{EdgeKind}
use Rattle.kin_rules.specs.declared.kinds.EdgeKind.TheVariants as kind
use Rattle.kin_rules.specs.Walks.{Net, Step, AtMost, Under, passed, cost, IsEdge, IsWalk, IsWhole, IsRule}
use Rattle.kin_rules.specs.Costs.{gives, any_below, least_below, by_edge, is_walked, bound, least_cost, Walked, IsLeastCost, LeastIsOne, CostIsLeast}
use Rattle.kin_rules.specs.Kept.{starts}
use Rattle.kin_rules.proofs.WalkCosts.{at_most-more, cost-grows, cost-short}
use Rattle.kin_rules.proofs.Simple.{simple, pigeons}
use Rattle.kin_rules.proofs.Least.{any-found, any-there, least-found, least-there}

-- is_walked and walks
user-found : (test : User → Bool) (vs : List User) → list_any test vs ≡ true → (w : User) × (test w ≡ true)
user-found test [] h = absurd cc
user-found test (v ∷ vs) h = here (or_cases (test v) (list_any test vs) h) (user-found test vs)
  where
    here : (test v ≡ true) ⊎ (list_any test vs ≡ true) → (list_any test vs ≡ true → (w : User) × (test w ≡ true)) → (w : User) × (test w ≡ true)
    here (inl k) more = (v, k)
    here (inr k) more = more k

user-there : (test : User → Bool) (vs : List User) (w : User) → has_user vs w ≡ true → test w ≡ true → list_any test vs ≡ true
user-there test [] w h k = absurd cc
user-there test (v ∷ vs) w h k = here (or_cases (same_user w v) (has_user vs w) h) (user-there test vs w)
  where
    here : (same_user w v ≡ true) ⊎ (has_user vs w ≡ true) → (has_user vs w ≡ true → test w ≡ true → list_any test vs ≡ true) → (test v || list_any test vs) ≡ true
    here (inl e) more = or_left (test v) (list_any test vs) (subst (λ (x : User). test x ≡ true) (same_user-true w v e) k)
    here (inr e) more = or_right (test v) (list_any test vs) (more e k)

gives-is : (o : Option ℕ) (c : ℕ) → gives o c ≡ true → o ≡ Some c
gives-is None c h = absurd cc
gives-is (Some n) c h = let e : n ≡ c = grind (arith, nat_tests) in ap Some e

is-gives : (o : Option ℕ) (c : ℕ) → o ≡ Some c → gives o c ≡ true
is-gives o c h = subst (λ (x : Option ℕ). gives x c ≡ true) (sym h) (grind (arith, nat_tests))

start-walk : (net : Net) (u : User) (c : ℕ) → (same_user u net.mark && c == 0) ≡ true → Walked net u c
start-walk net u c h =
    let b = and_parts (same_user u net.mark) (c == 0) h in
    let e : 0 ≡ c = grind (arith, nat_tests, b.1) in
    record { path = []; walk = same_user-true u net.mark b.0; costs = ap Some e }

edge-walk : (net : Net) (before : User → ℕ → Bool) (u : User) (c : ℕ) (k : EdgeKind) (w : User) → ((x : User) (d : ℕ) → before x d ≡ true → Walked net x d) → by_edge net before u c k w ≡ true → Walked net u c
edge-walk net before u c k w old h =
    let b = and_parts (has_user (net.ends k w) u) (any_below (λ d. gives (net.along k d) c && before w d) c) h in
    let f = any-found (λ d. gives (net.along k d) c && before w d) c b.1 in
    let g = and_parts (gives (net.along k f.0) c) (before w f.0) f.2 in
    let o = old w f.0 g.1 in
    let costs : cost net (record { start = w; kind = k } ∷ o.path) ≡ Some c = rw o.costs (gives-is (net.along k f.0) c g.0) in
    record { path = record { start = w; kind = k } ∷ o.path; walk = (b.0, o.walk); costs = costs }

abbrev one_more : Net → (User → ℕ → Bool) → User → ℕ → User → Bool
one_more net before u c w = by_edge net before u c kind.Follow w || by_edge net before u c kind.Mention w

pub walked-walk : (net : Net) (n : ℕ) (u : User) (c : ℕ) → is_walked net n u c ≡ true → Walked net u c
walked-walk net zero u c h = start-walk net u c h
walked-walk net (suc n) u c h = here (or_cases (same_user u net.mark && c == 0) (list_any (one_more net (is_walked net n) u c) net.users) h) (walked-walk net n)
  where
    here : ((same_user u net.mark && c == 0) ≡ true) ⊎ (list_any (one_more net (is_walked net n) u c) net.users ≡ true) → ((x : User) (d : ℕ) → is_walked net n x d ≡ true → Walked net x d) → Walked net u c
    here (inl k) old = start-walk net u c k
    here (inr k) old = let w = user-found (one_more net (is_walked net n) u c) net.users k in by w.0 (or_cases (by_edge net (is_walked net n) u c kind.Follow w.0) (by_edge net (is_walked net n) u c kind.Mention w.0) w.1)
      where
        by : (w : User) → (by_edge net (is_walked net n) u c kind.Follow w ≡ true) ⊎ (by_edge net (is_walked net n) u c kind.Mention w ≡ true) → Walked net u c
        by w (inl q) = edge-walk net (is_walked net n) u c kind.Follow w old q
        by w (inr q) = edge-walk net (is_walked net n) u c kind.Mention w old q

at-start : (net : Net) (u : User) → u ≡ net.mark → (same_user u net.mark && 0 == 0) ≡ true
at-start net u h = subst (λ (x : User). (same_user u x && 0 == 0) ≡ true) h (rw (same_user-refl u) refl)

start-walked : (net : Net) (n : ℕ) (u : User) → u ≡ net.mark → is_walked net n u 0 ≡ true
start-walked net zero u h = at-start net u h
start-walked net (suc n) u h = or_left (same_user u net.mark && 0 == 0) (list_any (one_more net (is_walked net n) u 0) net.users) (at-start net u h)

by-edge-there : (net : Net) (before : User → ℕ → Bool) (u : User) (c : ℕ) (k : EdgeKind) (w : User) (d : ℕ) → IsEdge net k w u → before w d ≡ true → d < c → net.along k d ≡ Some c → by_edge net before u c k w ≡ true
by-edge-there net before u c k w d e b lt g =
    and_from (has_user (net.ends k w) u) (any_below (λ d. gives (net.along k d) c && before w d) c) e
    (any-there (λ d. gives (net.along k d) c && before w d) c d lt (and_from (gives (net.along k d) c) (before w d) (is-gives (net.along k d) c g) b))

one-more-there : (net : Net) (before : User → ℕ → Bool) (u : User) (c : ℕ) (k : EdgeKind) (w : User) → by_edge net before u c k w ≡ true → one_more net before u c w ≡ true
one-more-there net before u c kind.Follow w h = or_left (by_edge net before u c kind.Follow w) (by_edge net before u c kind.Mention w) h
one-more-there net before u c kind.Mention w h = or_right (by_edge net before u c kind.Follow w) (by_edge net before u c kind.Mention w) h

pub walk-walked : (net : Net) → IsRule net.along net.most → IsWhole net → (n : ℕ) (u : User) (ws : List Step) (c : ℕ) → IsWalk net u ws → cost net ws ≡ Some c → c ≤ n → is_walked net n u c ≡ true
walk-walked net r whole n u [] c w is h =
    let e : 0 ≡ c = cc in
    subst (λ (m : ℕ). is_walked net n u m ≡ true) e (start-walked net n u w)
walk-walked net r whole zero u (s ∷ ws) c w is h = let g = cost-grows net r s ws c is in absurd (omega (arith, g.2, h))
walk-walked net r whole (suc n) u (s ∷ ws) c w is h =
    let g = cost-grows net r s ws c is in
    let old : is_walked net n s.start g.0 ≡ true = walk-walked net r whole n s.start ws g.0 w.1 g.1 (omega (arith, g.2, h)) in
    let offers : net.along s.kind g.0 ≡ Some c = subst (λ (o : Option ℕ). passed (net.along s.kind) o ≡ Some c) g.1 is in
    or_right (same_user u net.mark && c == 0) (list_any (one_more net (is_walked net n) u c) net.users)
    (user-there (one_more net (is_walked net n) u c) net.users s.start (whole s.kind s.start u w.0).0
    (one-more-there net (is_walked net n) u c s.kind s.start (by-edge-there net (is_walked net n) u c s.kind s.start g.0 w.0 old g.2 offers)))

-- a walk costs at least the least number at which one is found
least-under : (net : Net) → IsRule net.along net.most → IsWhole net → has_user net.users net.mark ≡ true → (u : User) (ws : List Step) → IsWalk net u ws
    → Under (least_below (λ c. is_walked net c u c) (bound net)) (cost net ws)
least-under net r whole there u ws w = here (cost net ws) refl
  where
    here : (o : Option ℕ) → cost net ws ≡ o → Under (least_below (λ c. is_walked net c u c) (bound net)) o
    here None e = tt
    here (Some c) e =
        let k = simple net r whole there u ws c w e in
        let short = cost-short net r k.path k.least k.costs in
        let some : length (u ∷ starts k.path) ≤ length net.users = pigeons (u ∷ starts k.path) net.users k.once k.within in
        let all : length (starts k.path) + 1 ≤ length net.users = omega (arith, some) in
        let times : net.most * (length (starts k.path) + 1) ≤ net.most * length net.users = mul-le-mul_left net.most all in
        let lt : k.least < bound net = omega (arith, short, times, r.some) in
        at_most-more (least_below (λ c. is_walked net c u c) (bound net)) k.least c k.less
        (least-there (λ c. is_walked net c u c) (bound net) k.least lt (walk-walked net r whole k.least u k.path k.least k.walk k.costs (omega arith)))

pub least-law : CostIsLeast
unfolding least_cost
least-law net r whole u = here (has_user net.users net.mark) refl
  where
    here : (b : Bool) → has_user net.users net.mark ≡ b → IsLeastCost net u (if b then least_below (λ c. is_walked net c u c) (bound net) else None)
    here false gone = record { outside = λ _. refl; walked = λ c h. absurd cc; under = λ there ws w. absurd (both_ways (has_user net.users net.mark) gone there) }
    here true there = record {
      outside = λ gone. absurd (both_ways (has_user net.users net.mark) gone there);
      walked = λ c h. walked-walk net c u c (least-found (λ c. is_walked net c u c) (bound net) c h).1;
      under = λ _ ws w. least-under net r whole there u ws w;
    }

-- values that are each at most the other are the same
pub between : (o p : Option ℕ) → ((n : ℕ) → o ≡ Some n → AtMost p n) → ((n : ℕ) → p ≡ Some n → AtMost o n) → o ≡ p
between None None h k = refl
between None (Some n) h k = absurd (k n refl)
between (Some n) None h k = absurd (h n refl)
between (Some n) (Some m) h k = let up : m ≤ n = h n refl in let down : n ≤ m = k m refl in let e : n ≡ m = omega (arith, up, down) in ap Some e

pub one-law : LeastIsOne
one-law net u least other a b = split (has_user net.users net.mark) refl
  where
    split : (m : Bool) → has_user net.users net.mark ≡ m → least ≡ other
    split false gone = a.outside gone ∙ sym (b.outside gone)
    split true there = between least other
        (λ n e. let w = a.walked n e in subst (λ (o : Option ℕ). Under other o) w.costs (b.under there w.path w.walk))
        (λ n e. let w = b.walked n e in subst (λ (o : Option ℕ). Under least o) w.costs (a.under there w.path w.walk))
