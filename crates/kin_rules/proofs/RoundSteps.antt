-- What rounds of offers leave: whoever isn't at rest stands in a list.
use Rattle.std.proofs.Common.{◌≡◌, ◌≤◌, ◌<◌, ◌+◌, ◌-◌, ◌*◌, ◌==◌, ◌&&◌, ◌||◌, ◌⊎◌, inl, inr, ℕ, zero, suc, Bool, true, false, List, [], ◌∷◌, Option, Some, None, length, get_or, set, map, replicate, eqb, eq-eqb, if◌then◌else◌, arith, refl, sym, ◌∙◌, ap, subst}
use Rattle.std.specs.Prelude.{nat_lt}
use Rattle.std.specs.List.Sorted.{IsStrictlySortedBy}
use Rattle.std.proofs.lemmas.Bool.{or_cases, or_left, or_right, both_ways, eqb-true}
use Rattle.std.proofs.lemmas.Bool.Decides.{nat_tests}
use Rattle.std.proofs.lemmas.List.{length-set, length-replicate}
use Rattle.std.proofs.Math.Nat.{mul-le-mul_right}
use Rattle.kin_ids.specs.declared.ids.User.{User}
use Rattle.kin_ids.specs.Users.{same_user, has_user, user_cmp}
use Rattle.kin_ids.proofs.Same.{same_user-true, same_user-refl}
use Rattle.kin_graph.specs.Rows.{is_none}
use Rattle.kin_rules.specs.declared.kinds.EdgeKind.{EdgeKind}
use Rattle.kin_rules.specs.declared.kinds.EdgeKind.TheVariants as kind
use Rattle.kin_rules.specs.declared.rounds.Offers.{Offers}
use Rattle.kin_rules.specs.Walks.{Net, AtMost, Under, IsEdge, IsWhole, IsRule}
use Rattle.kin_rules.specs.Costs.{least_cost}
use Rattle.kin_rules.specs.Kept.{IsKept, IsAtRest, lowered}
use Rattle.kin_rules.specs.Places.{place}
use Rattle.kin_rules.specs.Edges.{AreEnds}
use Rattle.kin_rules.specs.Spreads.{IsSpread}
use Rattle.kin_rules.specs.Rounds.{Tally, value_at, exceeds, falls, put, listed, offered, offered_all, pushed, has_cost, turned, turned_all, shifted, round, is_quiet, blank_tally}
use Rattle.kin_rules.specs.Going.{has_place, value_of, list_at, IsListed, Going}
use Rattle.kin_rules.proofs.WalkCosts.{under-trans}
use Rattle.kin_rules.proofs.Kept.{kept-few, lowered-here}
use Rattle.kin_rules.proofs.Spreads.{spread-alike, spread-weaker, offer-spreads, rest-spreads, quiet-least}
use Rattle.kin_rules.proofs.Places.{place-lt, has-get}
use Rattle.kin_rules.proofs.PlacedValues.{place-apart, get_or-none, value-set, place-at, has_place-append}

under-refl : (o : Option ℕ) → Under o o
under-refl None = tt
under-refl (Some n) = omega arith

put-keeps : (b : Bool) (q : ℕ) (ps : List ℕ) (p : ℕ) → has_place ps p ≡ true → has_place (put b q ps) p ≡ true
put-keeps true q ps p h = has_place-append ps q p ∙ or_left (has_place ps p) (eqb p q) h
put-keeps false q ps p h = h

put-there : (p : ℕ) (ps : List ℕ) → has_place (put true p ps) p ≡ true
put-there p ps = has_place-append ps p p ∙ or_right (has_place ps p) (eqb p p) (eq-eqb p p refl)

listed-keeps : (d q : ℕ) (t : Tally) (e p : ℕ) → has_place (list_at t e) p ≡ true → has_place (list_at (listed d q t) e) p ≡ true
listed-keeps d q t zero p h = put-keeps (d == 0) q t.one p h
listed-keeps d q t (suc zero) p h = put-keeps (d == 1) q t.two p h
listed-keeps d q t (suc (suc zero)) p h = put-keeps (nat_lt 1 d) q t.three p h
listed-keeps d q t (suc (suc (suc e))) p h = h

listed-there : (d p : ℕ) (t : Tally) → d ≤ 2 → has_place (list_at (listed d p t) d) p ≡ true
listed-there zero p t h = put-there p t.one
listed-there (suc zero) p t h = put-there p t.two
listed-there (suc (suc zero)) p t h = put-there p t.three
listed-there (suc (suc (suc d))) p t h = absurd (omega (arith, h))

-- in a round of the cost c, with the places that have yet to turn in it
abbrev pub WaitsIn : List User → ℕ → List ℕ → Tally → User → Type 0
WaitsIn us c rest t x = ((value_of us t x ≡ Some c) × (has_place rest (place us x) ≡ true)) ⊎ IsListed us (c + 1) t x

pub record Phase (net : Net) (c : ℕ) (rest : List ℕ) (t : Tally) : Type 0 where
  pub fits : length t.values ≡ length net.users
  pub spread : IsSpread net (value_of net.users t) (WaitsIn net.users c rest t)

pub record Offered (net : Net) (c : ℕ) (rest : List ℕ) (w u : User) (m : ℕ) (old new : Tally) : Type 0 where
  pub phase : Phase net c rest new
  pub value : value_of net.users new w ≡ Some c
  pub taken : AtMost (value_of net.users new u) m
  pub fell : (x : User) → Under (value_of net.users new x) (value_of net.users old x)

pub record OfferedAll (net : Net) (c : ℕ) (rest : List ℕ) (w : User) (us : List User) (m : ℕ) (old new : Tally) : Type 0 where
  pub phase : Phase net c rest new
  pub value : value_of net.users new w ≡ Some c
  pub taken : (u : User) → has_user us u ≡ true → AtMost (value_of net.users new u) m
  pub fell : (x : User) → Under (value_of net.users new x) (value_of net.users old x)

exceeds-false : (o : Option ℕ) (m : ℕ) → exceeds o m ≡ false → AtMost o m
exceeds-false None m h = absurd cc
exceeds-false (Some n) m h = grind (arith, nat_tests)

exceeds-true : (o : Option ℕ) (m : ℕ) → exceeds o m ≡ true → AtMost o m → ⊥
exceeds-true None m h k = k
exceeds-true (Some n) m h k = let l : m < n = grind (arith, nat_tests, h) in omega (arith, l, k)

above-under : (o : Option ℕ) (m : ℕ) → (AtMost o m → ⊥) → Under (Some m) o
above-under None m h = tt
above-under (Some n) m h = let k : n ≤ m → ⊥ = h in omega (arith, k)

-- the user at a place takes an offer, and is listed
abbrev pub taken-by : ℕ → ℕ → ℕ → Tally → Tally
taken-by d m p t = listed d p (record t { values = set t.values p (Some m) })

in-range : (i n : ℕ) → i < n → nat_lt i n ≡ true
in-range i n h = grind (arith, nat_tests)

-- rounds leave as many values as there were
pub length-offered : (d m p : ℕ) (t : Tally) → length (offered d m p t).values ≡ length t.values
length-offered d m p t = here (falls t m p)
  where
    here : (b : Bool) → length (if b then listed d p (record t { values = set t.values p (Some m) }) else t).values ≡ length t.values
    here true = length-set t.values p (Some m)
    here false = refl

length-offered_all : (d m : ℕ) (ps : List ℕ) (t : Tally) → length (offered_all d m ps t).values ≡ length t.values
length-offered_all d m [] t = refl
length-offered_all d m (p ∷ ps) t = length-offered_all d m ps (offered d m p t) ∙ length-offered d m p t

length-pushed : (c : ℕ) (o : Option ℕ) (ps : List ℕ) (t : Tally) → length (pushed c o ps t).values ≡ length t.values
length-pushed c None ps t = refl
length-pushed c (Some m) ps t = length-offered_all (m - (c + 1)) m ps t

length-turned : (follows mentions : List (List ℕ)) (o : Offers) (p : ℕ) (t : Tally) → length (turned follows mentions o p t).values ≡ length t.values
length-turned follows mentions o p t = here (has_cost (value_at t p) o.cost)
  where
    here : (b : Bool) → length (if b then pushed o.cost o.mention (get_or mentions p []) (pushed o.cost o.follow (get_or follows p []) t) else t).values ≡ length t.values
    here true = length-pushed o.cost o.mention (get_or mentions p []) (pushed o.cost o.follow (get_or follows p []) t) ∙ length-pushed o.cost o.follow (get_or follows p []) t
    here false = refl

length-turned_all : (follows mentions : List (List ℕ)) (o : Offers) (ps : List ℕ) (t : Tally) → length (turned_all follows mentions o ps t).values ≡ length t.values
length-turned_all follows mentions o [] t = refl
length-turned_all follows mentions o (p ∷ ps) t = length-turned_all follows mentions o ps (turned follows mentions o p t) ∙ length-turned follows mentions o p t

pub length-round : (follows mentions : List (List ℕ)) (o : Offers) (t : Tally) → length (round follows mentions o t).values ≡ length t.values
length-round follows mentions o t = length-turned_all follows mentions o t.one (shifted t)

module _ (net : Net) (r : IsRule net.along net.most) (whole : IsWhole net) (c : ℕ) where
  abbrev value : Tally → User → Option ℕ
  value t x = value_of net.users t x

  module _ (rest : List ℕ) (k : EdgeKind) (w : User) (m : ℕ) (offer : net.along k c ≡ Some m) where
    more : c < m
    more = (r.grows k c m offer).0

    most : m ≤ c + 3
    most = let g = (r.grows k c m offer).1 in let f = r.few in omega (arith, g, f)

    -- one offer that falls
    took : (u : User) (t : Tally) → Phase net c rest t → IsEdge net k w u → value t w ≡ Some c → has_user net.users u ≡ true → (AtMost (value t u) m → ⊥)
        → Offered net c rest w u m t (taken-by (m - (c + 1)) m (place net.users u) t)
    took u t p edge is there above = record {
      phase = record {
        fits = length-set t.values (place net.users u) (Some m) ∙ p.fits;
        spread = spread-alike net (lowered (value t) u m) (value new) (WaitsIn net.users c rest new) (λ x. sym (same x))
            (offer-spreads net (value t) (WaitsIn net.users c rest t) (WaitsIn net.users c rest new) k w u c m r whole p.spread edge is offer above keeps mine);
      };
      value = other w apart ∙ is;
      taken = subst (λ (o : Option ℕ). AtMost o m) (sym here) (omega arith);
      fell = λ x. falling x (same_user u x) refl;
    }
      where
        new : Tally
        new = taken-by (m - (c + 1)) m (place net.users u) t

        same : (x : User) → value (taken-by (m - (c + 1)) m (place net.users u) t) x ≡ lowered (value t) u m x
        same x = value-set net.users t.values u m p.fits there x

        other : (x : User) → same_user u x ≡ false → value (taken-by (m - (c + 1)) m (place net.users u) t) x ≡ value t x
        other x e = same x ∙ rw e refl

        here : value (taken-by (m - (c + 1)) m (place net.users u) t) u ≡ Some m
        here = same u ∙ lowered-here (value t) u m

        apart : same_user u w ≡ false
        apart = off (same_user u w) refl
          where
            off : (b : Bool) → same_user u w ≡ b → b ≡ false
            off true e = absurd (above (subst (λ (o : Option ℕ). AtMost o m) (sym (subst (λ (y : User). value t y ≡ Some c) (sym (same_user-true u w e)) is)) (let l = more in omega (arith, l))))
            off false e = refl

        keeps : (x : User) → same_user u x ≡ false → WaitsIn net.users c rest t x → WaitsIn net.users c rest (taken-by (m - (c + 1)) m (place net.users u) t) x
        keeps x e (inl h) = inl (other x e ∙ h.0, h.1)
        keeps x e (inr h) = inr (h.0, other x e ∙ h.1, listed-keeps (m - (c + 1)) (place net.users u) (record t { values = set t.values (place net.users u) (Some m) }) h.0 (place net.users x) h.2)

        mine : WaitsIn net.users c rest (taken-by (m - (c + 1)) m (place net.users u) t) u
        mine =
            let l = more in
            let h = most in
            let sum : m ≡ (c + 1) + (m - (c + 1)) = omega (arith, l) in
            inr (m - (c + 1), here ∙ ap Some sum, listed-there (m - (c + 1)) (place net.users u) (record t { values = set t.values (place net.users u) (Some m) }) (omega (arith, l, h)))

        falling : (x : User) (b : Bool) → same_user u x ≡ b → Under (value (taken-by (m - (c + 1)) m (place net.users u) t) x) (value t x)
        falling x true e = subst (λ (y : User). Under (value (taken-by (m - (c + 1)) m (place net.users u) t) y) (value t y)) (same_user-true u x e) (subst (λ (o : Option ℕ). Under o (value t u)) (sym here) (above-under (value t u) m above))
        falling x false e = subst (λ (o : Option ℕ). Under o (value t x)) (sym (other x e)) (under-refl (value t x))

    pub offered-phase : (u : User) (t : Tally) → Phase net c rest t → IsEdge net k w u → value t w ≡ Some c → Offered net c rest w u m t (offered (m - (c + 1)) m (place net.users u) t)
    offered-phase u t p edge is = split (exceeds (value t u) m) refl
      where
        there : has_user net.users u ≡ true
        there = (whole k w u edge).1

        inside : nat_lt (place net.users u) (length t.values) ≡ true
        inside = let l = place-lt net.users u there in let f = p.fits in in-range (place net.users u) (length t.values) (omega (arith, l, f))

        split : (b : Bool) → exceeds (value t u) m ≡ b → Offered net c rest w u m t (offered (m - (c + 1)) m (place net.users u) t)
        split true e = rw (inside, e) (took u t p edge is there (exceeds-true (value t u) m e))
        split false e = rw (inside, e) (record { phase = p; value = is; taken = exceeds-false (value t u) m e; fell = λ x. under-refl (value t x) })

    pub offered_all-phase : (us : List User) (t : Tally) → ((x : User) → has_user us x ≡ true → IsEdge net k w x) → Phase net c rest t → value t w ≡ Some c
        → OfferedAll net c rest w us m t (offered_all (m - (c + 1)) m (map (place net.users) us) t)
    offered_all-phase [] t edges p is = record { phase = p; value = is; taken = λ u h. absurd cc; fell = λ x. under-refl (value t x) }
    offered_all-phase (u ∷ us) t edges p is =
        let first = offered-phase u t p (edges u (or_left (same_user u u) (has_user us u) (same_user-refl u))) is in
        let all = offered_all-phase us (offered (m - (c + 1)) m (place net.users u) t) (λ x h. edges x (or_right (same_user x u) (has_user us x) h)) first.phase first.value in
        let last = value (offered_all (m - (c + 1)) m (map (place net.users) us) (offered (m - (c + 1)) m (place net.users u) t)) in
        record {
          phase = all.phase;
          value = all.value;
          taken = λ x h. one x last first.taken all.fell all.taken (or_cases (same_user x u) (has_user us x) h);
          fell = λ x. under-trans (last x) (value (offered (m - (c + 1)) m (place net.users u) t) x) (value t x) (all.fell x) (first.fell x);
        }
      where
        one : (x : User) (last : User → Option ℕ) → AtMost (value (offered (m - (c + 1)) m (place net.users u) t) u) m → ((y : User) → Under (last y) (value (offered (m - (c + 1)) m (place net.users u) t) y))
            → ((y : User) → has_user us y ≡ true → AtMost (last y) m) → (same_user x u ≡ true) ⊎ (has_user us x ≡ true) → AtMost (last x) m
        one x last took fell all (inl e) = subst (λ (y : User). AtMost (last y) m) (sym (same_user-true x u e)) (under-trans (last u) (value (offered (m - (c + 1)) m (place net.users u) t) u) (Some m) (fell u) took)
        one x last took fell all (inr h) = all x h

-- all edges of one kind out of w have offered
pub record Pushed (net : Net) (c : ℕ) (rest : List ℕ) (k : EdgeKind) (w : User) (old new : Tally) : Type 0 where
  pub phase : Phase net c rest new
  pub value : value_of net.users new w ≡ Some c
  pub taken : (u : User) → IsEdge net k w u → Under (value_of net.users new u) (net.along k c)
  pub fell : (x : User) → Under (value_of net.users new x) (value_of net.users old x)

has_cost-true : (o : Option ℕ) (c : ℕ) → has_cost o c ≡ true → o ≡ Some c
has_cost-true None c h = absurd cc
has_cost-true (Some n) c h = let e : n ≡ c = grind (arith, nat_tests, h) in ap Some e

has_cost-false : (c : ℕ) → has_cost (Some c) c ≡ false → ⊥
has_cost-false c h = grind (arith, nat_tests)

some-inside : (vs : List (Option ℕ)) (p c : ℕ) → get_or vs p None ≡ Some c → p < length vs
some-inside [] p c h = absurd cc
some-inside (v ∷ vs) zero c h = omega arith
some-inside (v ∷ vs) (suc p) c h = let l = some-inside vs p c h in omega (arith, l)

module _ (net : Net) (law : IsRule net.along net.most) (whole : IsWhole net) (sorted : IsStrictlySortedBy user_cmp net.users)
    (follows mentions : List (List ℕ)) (out : AreEnds net.users (net.ends kind.Follow) follows) (said : AreEnds net.users (net.ends kind.Mention) mentions) (c : ℕ) where
  pub pushed-phase : (rest : List ℕ) (k : EdgeKind) (w : User) (row : List ℕ) (us : List User) → row ≡ map (place net.users) us → ((u : User) → has_user us u ≡ has_user (net.ends k w) u)
      → (t : Tally) → Phase net c rest t → value_of net.users t w ≡ Some c → Pushed net c rest k w t (pushed c (net.along k c) row t)
  pushed-phase rest k w row us is-row members t p is = subst (λ (ps : List ℕ). Pushed net c rest k w t (pushed c (net.along k c) ps t)) (sym is-row) (split (net.along k c) refl)
    where
      split : (o : Option ℕ) → net.along k c ≡ o → Pushed net c rest k w t (pushed c o (map (place net.users) us) t)
      split None e = record { phase = p; value = is; taken = λ u h. subst (λ (o : Option ℕ). Under (value_of net.users t u) o) (sym e) tt; fell = λ x. under-refl (value_of net.users t x) }
      split (Some m) e =
          let all = offered_all-phase net law whole c rest k w m e us t (λ x h. sym (members x) ∙ h) p is in
          record {
            phase = all.phase;
            value = all.value;
            taken = λ u h. subst (λ (o : Option ℕ). Under (value_of net.users (offered_all (m - (c + 1)) m (map (place net.users) us) t) u) o) (sym e) (all.taken u (members u ∙ h));
            fell = all.fell;
          }

  abbrev offers : Offers
  offers = record { cost = c; follow = net.along kind.Follow c; mention = net.along kind.Mention c }

  -- who has offered waits no longer
  drop : (p : ℕ) (rest : List ℕ) (t : Tally) (x : User) → (eqb (place net.users x) p ≡ true → ⊥) → WaitsIn net.users c (p ∷ rest) t x → WaitsIn net.users c rest t x
  drop p rest t x apart (inr h) = inr h
  drop p rest t x apart (inl h) = inl (h.0, one (eqb (place net.users x) p) apart h.1)
    where
      one : (b : Bool) → (b ≡ true → ⊥) → (b || has_place rest (place net.users x)) ≡ true → has_place rest (place net.users x) ≡ true
      one true e k = absurd (e refl)
      one false e k = k

  -- after its turn a user waits no longer
  user-turned : (rest : List ℕ) (w : User) (t : Tally) → has_user net.users w ≡ true → Phase net c (place net.users w ∷ rest) t → value_of net.users t w ≡ Some c
      → Phase net c rest (pushed c (net.along kind.Mention c) (get_or mentions (place net.users w) []) (pushed c (net.along kind.Follow c) (get_or follows (place net.users w) []) t))
  user-turned rest w t there p is =
      let a = out w there in
      let b = said w there in
      let first = pushed-phase (place net.users w ∷ rest) kind.Follow w (get_or follows (place net.users w) []) a.0 a.1 a.2 t p is in
      let last = pushed-phase (place net.users w ∷ rest) kind.Mention w (get_or mentions (place net.users w) []) b.0 b.1 b.2 half first.phase first.value in
      record {
        fits = last.phase.fits;
        spread = rest-spreads net (value_of net.users new) (WaitsIn net.users c (place net.users w ∷ rest) new) (WaitsIn net.users c rest new) w last.phase.spread (at first last) gone;
      }
    where
      half : Tally
      half = pushed c (net.along kind.Follow c) (get_or follows (place net.users w) []) t

      new : Tally
      new = pushed c (net.along kind.Mention c) (get_or mentions (place net.users w) []) (pushed c (net.along kind.Follow c) (get_or follows (place net.users w) []) t)

      gone : (x : User) → same_user w x ≡ false → WaitsIn net.users c (place net.users w ∷ rest) new x → WaitsIn net.users c rest new x
      gone x e waits = drop (place net.users w) rest new x (λ q. place-apart net.users w x there e (eqb-true (place net.users x) (place net.users w) q)) waits

      at : Pushed net c (place net.users w ∷ rest) kind.Follow w t half → Pushed net c (place net.users w ∷ rest) kind.Mention w half new → IsAtRest net (value_of net.users new) w
      at first last k u n has edge = by k edge
        where
          same : n ≡ c
          same = let e : Some n ≡ Some c = sym has ∙ last.value in cc

          by : (k : EdgeKind) → IsEdge net k w u → Under (value_of net.users new u) (net.along k n)
          by kind.Follow edge = subst (λ (q : ℕ). Under (value_of net.users new u) (net.along kind.Follow q)) (sym same)
              (under-trans (value_of net.users new u) (value_of net.users half u) (net.along kind.Follow c) (last.fell u) (first.taken u edge))
          by kind.Mention edge = subst (λ (q : ℕ). Under (value_of net.users new u) (net.along kind.Mention q)) (sym same) (last.taken u edge)

  pub turned-phase : (rest : List ℕ) (p : ℕ) (t : Tally) → Phase net c (p ∷ rest) t → Phase net c rest (turned follows mentions offers p t)
  turned-phase rest p t phase = split (has_cost (value_at t p) c) refl
    where
      stale : has_cost (value_at t p) c ≡ false → (x : User) → WaitsIn net.users c (p ∷ rest) t x → WaitsIn net.users c rest t x
      stale off x (inr h) = inr h
      stale off x (inl h) = drop p rest t x (λ q. has_cost-false c (subst (λ (o : Option ℕ). has_cost o c ≡ false) (subst (λ (i : ℕ). value_at t i ≡ Some c) (eqb-true (place net.users x) p q) h.0) off)) (inl h)

      zero-user : User
      zero-user = record { 0 = 0 }

      split : (b : Bool) → has_cost (value_at t p) c ≡ b
          → Phase net c rest (if b then pushed c (net.along kind.Mention c) (get_or mentions p []) (pushed c (net.along kind.Follow c) (get_or follows p []) t) else t)
      split false e = record { fits = phase.fits; spread = spread-weaker net (value_of net.users t) (WaitsIn net.users c (p ∷ rest) t) (WaitsIn net.users c rest t) (stale e) phase.spread }
      split true e =
          let is = has_cost-true (value_at t p) c e in
          let inside = some-inside t.values p c is in
          let f = phase.fits in
          let lt : p < length net.users = omega (arith, inside, f) in
          subst (λ (q : ℕ). Phase net c (q ∷ rest) t → value_at t q ≡ Some c → Phase net c rest (pushed c (net.along kind.Mention c) (get_or mentions q []) (pushed c (net.along kind.Follow c) (get_or follows q []) t)))
          (place-at net.users p zero-user sorted lt)
          (λ ph has. user-turned rest (get_or net.users p zero-user) t (has-get net.users p zero-user lt) ph has) phase is

  pub turned_all-phase : (ps : List ℕ) (t : Tally) → Phase net c ps t → Phase net c [] (turned_all follows mentions offers ps t)
  turned_all-phase [] t p = p
  turned_all-phase (q ∷ ps) t p = turned_all-phase ps (turned follows mentions offers q t) (turned-phase ps q t p)

  moved : (t : Tally) (x : User) → IsListed net.users c t x → WaitsIn net.users c t.one (shifted t) x
  moved t x (zero, is, h) = inl (is ∙ ap Some (omega arith), h)
  moved t x (suc zero, is, h) = inr (0, is ∙ ap Some (omega arith), h)
  moved t x (suc (suc zero), is, h) = inr (1, is ∙ ap Some (omega arith), h)
  moved t x (suc (suc (suc d)), is, h) = absurd cc

  none-waits : (t : Tally) (x : User) → WaitsIn net.users c [] t x → IsListed net.users (c + 1) t x
  none-waits t x (inl h) = let e : false ≡ true = h.1 in absurd cc
  none-waits t x (inr h) = h

  -- a round leads from each cost to the next
  pub round-going : (t : Tally) → Going net net.users c t → Going net net.users (c + 1) (round follows mentions offers t)
  round-going t g =
      let p : Phase net c t.one (shifted t) = record {
        fits = g.fits;
        spread = spread-weaker net (value_of net.users t) (IsListed net.users c t) (WaitsIn net.users c t.one (shifted t)) (moved t) g.spread;
      } in
      let q = turned_all-phase t.one (shifted t) p in
      record {
        fits = q.fits;
        spread = spread-weaker net (value_of net.users (round follows mentions offers t)) (WaitsIn net.users c [] (round follows mentions offers t)) (IsListed net.users (c + 1) (round follows mentions offers t))
            (none-waits (round follows mentions offers t)) q.spread;
      }

module _ (net : Net) (law : IsRule net.along net.most) (whole : IsWhole net) (c : ℕ) where
  quiet-none : (t : Tally) → is_quiet t ≡ true → (x : User) → IsListed net.users c t x → ⊥
  quiet-none t q x (d, is, h) = empty t.one t.two t.three q d h
    where
      empty : (a b e : List ℕ) → (is_none a && (is_none b && is_none e)) ≡ true → (d : ℕ) → has_place (list_at (record t { one = a; two = b; three = e }) d) (place net.users x) ≡ true → ⊥
      empty (y ∷ a) b e q d h = absurd (first q)
        where
          first : ((length (y ∷ a) == 0) && (is_none b && is_none e)) ≡ true → ⊥
          first k = grind (arith, nat_tests)
      empty [] (y ∷ b) e q d h = absurd (first q)
        where
          first : ((length (y ∷ b) == 0) && is_none e) ≡ true → ⊥
          first k = grind (arith, nat_tests)
      empty [] [] (y ∷ e) q d h = absurd (first q)
        where
          first : (length (y ∷ e) == 0) ≡ true → ⊥
          first k = grind (arith, nat_tests)
      empty [] [] [] q zero h = absurd cc
      empty [] [] [] q (suc zero) h = absurd cc
      empty [] [] [] q (suc (suc zero)) h = absurd cc
      empty [] [] [] q (suc (suc (suc d))) h = absurd cc

  -- where nobody is listed the values are the least costs
  pub quiet-done : (t : Tally) → Going net net.users c t → is_quiet t ≡ true → (u : User) → value_of net.users t u ≡ least_cost net u
  quiet-done t g q u = quiet-least net (value_of net.users t) (IsListed net.users c t) law whole g.spread (quiet-none t q) u

  past-none : (t : Tally) → Going net net.users c t → 3 * length net.users ≤ c → (x : User) → IsListed net.users c t x → ⊥
  past-none t g past x (d, is, h) =
      let few = kept-few net (value_of net.users t) law x (c + d) (g.spread.kept x (c + d) is) in
      let some = law.some in
      let up : net.most * length net.users ≤ 3 * length net.users = mul-le-mul_right (length net.users) law.few in
      omega (arith, few, some, up, past)

  -- past all costs nobody is listed
  pub past-done : (t : Tally) → Going net net.users c t → 3 * length net.users ≤ c → (u : User) → value_of net.users t u ≡ least_cost net u
  past-done t g past u = quiet-least net (value_of net.users t) (IsListed net.users c t) law whole g.spread (past-none t g past) u

-- at first nobody has a value, where the landmark is no vertex
pub start-blank : (net : Net) → has_user net.users net.mark ≡ false → Going net net.users 0 (blank_tally (length net.users))
start-blank net gone = record {
  fits = length-replicate {A = Option ℕ} (length net.users) None;
  spread = record {
    kept = λ u n is. absurd (let q : None ≡ Some n = sym (none u) ∙ is in cc);
    start = λ h. absurd (both_ways (has_user net.users net.mark) gone h);
    rest = λ w. inl (λ k u n is edge. absurd (let q : None ≡ Some n = sym (none w) ∙ is in cc));
  };
}
  where
    none : (x : User) → value_of net.users (blank_tally (length net.users)) x ≡ None
    none x = get_or-none (length net.users) (place net.users x)

abbrev begun-at : Net → Tally
begun-at net = taken-by 0 0 (place net.users net.mark) (blank_tally (length net.users))

-- else the landmark has 0, and is listed
pub start-going : (net : Net) → has_user net.users net.mark ≡ true → Going net net.users 0 (offered 0 0 (place net.users net.mark) (blank_tally (length net.users)))
start-going net there = rw (inside, none net.mark) (record {
  fits = length-set (replicate {A = Option ℕ} (length net.users) None) (place net.users net.mark) (Some 0) ∙ length-replicate {A = Option ℕ} (length net.users) None;
  spread = record {
    kept = λ u n is. kept u n is (same_user net.mark u) refl;
    start = λ h. subst (λ (o : Option ℕ). AtMost o 0) (sym mine) (omega arith);
    rest = λ w. rest w (same_user net.mark w) refl;
  };
})
  where
    none : (x : User) → value_of net.users (blank_tally (length net.users)) x ≡ None
    none x = get_or-none (length net.users) (place net.users x)

    inside : nat_lt (place net.users net.mark) (length (replicate {A = Option ℕ} (length net.users) None)) ≡ true
    inside = let l = place-lt net.users net.mark there in let f = length-replicate {A = Option ℕ} (length net.users) None in in-range (place net.users net.mark) (length (replicate {A = Option ℕ} (length net.users) None)) (omega (arith, l, f))

    same : (x : User) → value_of net.users (begun-at net) x ≡ (if same_user net.mark x then Some 0 else None)
    same x = value-set net.users (replicate {A = Option ℕ} (length net.users) None) net.mark 0 (length-replicate {A = Option ℕ} (length net.users) None) there x ∙ ap (λ (o : Option ℕ). if same_user net.mark x then Some 0 else o) (none x)

    has : (u : User) → same_user net.mark u ≡ true → value_of net.users (begun-at net) u ≡ Some 0
    has u q = same u ∙ rw q refl

    mine : value_of net.users (begun-at net) net.mark ≡ Some 0
    mine = same net.mark ∙ rw (same_user-refl net.mark) refl

    kept : (u : User) (n : ℕ) → value_of net.users (begun-at net) u ≡ Some n → (b : Bool) → same_user net.mark u ≡ b → IsKept net (value_of net.users (begun-at net)) u n
    kept u n is false q = absurd (let h : None ≡ Some n = sym (same u ∙ rw q refl) ∙ is in cc)
    kept u n is true q =
        let h : Some 0 ≡ Some n = sym (same u ∙ rw q refl) ∙ is in
        record {
          path = [];
          walk = sym (same_user-true net.mark u q);
          costs = h;
          once = (refl, tt);
          low = subst (λ (o : Option ℕ). AtMost o 0) (sym (has u q)) (omega arith);
          within = (subst (λ (y : User). has_user net.users y ≡ true) (same_user-true net.mark u q) there, tt);
        }

    rest : (w : User) (b : Bool) → same_user net.mark w ≡ b → IsAtRest net (value_of net.users (begun-at net)) w ⊎ IsListed net.users 0 (begun-at net) w
    rest w false q = inl (λ k u n is edge. absurd (let h : None ≡ Some n = sym (same w ∙ rw q refl) ∙ is in cc))
    rest w true q =
        inr (
          0,
          has w q,
          subst (λ (y : User). has_place (list_at (begun-at net) 0) (place net.users y) ≡ true) (same_user-true net.mark w q)
              (listed-there 0 (place net.users net.mark) (record (blank_tally (length net.users)) { values = set (replicate {A = Option ℕ} (length net.users) None) (place net.users net.mark) (Some 0) }) (omega arith)),
        )
