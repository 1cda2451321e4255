-- What holds when an epoch begins.
use Rattle.std.proofs.Common.{◌≡◌, ◌≤◌, ◌<◌, ◌+◌, ◌*◌, ◌^◌, ◌||◌, ◌&&◌, ◌∙◌, ◌⊎◌, inl, inr, ℕ, Bool, true, false, not, List, [], ◌∷◌}
use Rattle.std.proofs.Common.{Option, Some, None, is_some, length, get_or, if◌then◌else◌, arith, refl, sym, subst, ap}
use Rattle.std.proofs.Math.Nat.{mul-le-mul, mul-le-mul_right}
use Rattle.std.proofs.lemmas.Bool.{or_cases, or_left, or_right, and_parts, both_ways}
use Rattle.kin_ids.specs.declared.ids.User.{User}
use Rattle.kin_ids.specs.Users.{same_user, has_user}
use Rattle.kin_ids.specs.Parts.{PartView}
use Rattle.kin_ids.proofs.Same.{same_user-true, same_user-refl}
use Rattle.kin_graph.specs.Deltas.{DeltaLists}
use Rattle.kin_changes.specs.Told.{EdgesLaw}
use Rattle.kin_changes.specs.Views.{AreLed, empty_view}
use Rattle.kin_rules.specs.declared.kinds.EdgeKind.{EdgeKind}
use Rattle.kin_rules.specs.declared.kinds.EdgeKind.TheVariants as kind
use Rattle.kin_rules.specs.Walks.{Rule, Net, Step, AtMost, Under, passed, cost, IsWalk, IsWhole, IsRule}
use Rattle.kin_rules.specs.Kept.{starts, Within, Low, IsKept, AreKept, IsAtRest, HasStart}
use Rattle.kin_rules.specs.Costs.{bound}
use Rattle.kin_rules.proofs.Places.{place-absent}
use Rattle.kin_rules.proofs.WalkCosts.{under-trans}
use Rattle.kin_rules.proofs.Kept.{mark-there}
use Rattle.kin_push.specs.Begins.{starts_by, is_started, lands, had, BeginLaw, EmptyLaw}
use Rattle.kin_push.specs.Facts.{IsOn}
use Rattle.kin_push.specs.Potential.{counted, sum_over, potential}
use Rattle.kin_push.specs.States.{PushState, net_in, ends_in, reads_of, value_in, is_active}
use Rattle.kin_push.proofs.Edges.{adds, edge-led, adds-start, start-adds, view-whole}
use Rattle.kin_push.proofs.Facts.{owed, sum-le, under-self}

-- walks in a view that grew

cost-same : (r : Rule) (was is : PartView) (us vs : List User) (ws : List Step) → cost (net_in r was us) ws ≡ cost (net_in r is vs) ws
cost-same r was is us vs [] = refl
cost-same r was is us vs (s ∷ ws) = ap (λ (o : Option ℕ). passed (r.along s.kind) o) (cost-same r was is us vs ws)

low-led : (r : Rule) (was is : PartView) (us vs : List User) (f g : User → Option ℕ) → ((x : User) → Under (g x) (f x))
    → (u : User) (ws : List Step) → Low (net_in r was us) f u ws → Low (net_in r is vs) g u ws
low-led r was is us vs f g less u [] low = under-trans (g u) (f u) (Some 0) (less u) low
low-led r was is us vs f g less u (s ∷ ws) low = (
  under-trans (g u) (f u) (cost (net_in r is vs) (s ∷ ws)) (less u)
      (subst (λ (o : Option ℕ). Under (f u) o) (cost-same r was is us vs (s ∷ ws)) low.0),
  low-led r was is us vs f g less s.start ws
      low.1,
)

walk-led : EdgesLaw → (r : Rule) (was is : PartView) (ds : List DeltaLists) → AreLed was is ds
    → (us vs : List User) (u : User) (ws : List Step) → IsWalk (net_in r was us) u ws → IsWalk (net_in r is vs) u ws
walk-led law r was is ds led us vs u [] w = w
walk-led law r was is ds led us vs u (s ∷ ws) w = (
  edge-led law was is ds led s.kind s.start u ∙ or_left (has_user (ends_in was s.kind s.start) u) (adds ds s.kind s.start u) w.0,
  walk-led law r was is ds led us vs s.start ws w.1,
)

-- the users on a walk to a vertex are vertices
walk-within : (net : Net) → IsWhole net → (u : User) (ws : List Step) → IsWalk net u ws → has_user net.users u ≡ true
    → Within (u ∷ starts ws) net.users
walk-within net whole u [] w there = (there, tt)
walk-within net whole u (s ∷ ws) w there = (there, walk-within net whole s.start ws w.1 (whole s.kind s.start u w.0).0)

zero-under : (o : Option ℕ) → Under (Some 0) o
zero-under None = tt
zero-under (Some n) = omega arith

some-users : (vs : List User) (x : User) → has_user vs x ≡ true → 0 < length vs
some-users [] x h = absurd cc
some-users (v ∷ vs) x h = omega arith

-- the facts
module _ (r : Rule) (laws : IsRule r.along r.most) (law : EdgesLaw) (was is : PartView) (ds : List DeltaLists) (led : AreLed was is ds)
    (us vs : List User) (whole : IsWhole (net_in r is vs))
    (f g : User → Option ℕ) (b : User → Bool) (kept : AreKept (net_in r was us) f) (start : HasStart (net_in r was us) f)
    (rest : (w : User) → IsAtRest (net_in r was us) f w)
    (values : (x : User) → g x ≡ (if lands r vs f && same_user x r.mark then Some 0 else f x))
    (active : (w : User) → b w ≡ (is_started r ds w || (lands r vs f && same_user w r.mark)))
    (room : (n : ℕ) → f r.mark ≡ Some n → has_user vs r.mark ≡ true) where
  abbrev Lands : User → Type 0
  Lands x = (lands r vs f ≡ true) × (x ≡ r.mark) × (g x ≡ Some 0) × (b x ≡ true)

  abbrev Keeps : User → Type 0
  Keeps x = (g x ≡ f x) × (b x ≡ is_started r ds x)

  -- the landmark, or as before
  case : (x : User) → Lands x ⊎ Keeps x
  case x = here (lands r vs f) refl (same_user x r.mark) refl (values x) (active x)
    where
      or-true : (a : Bool) → (a || true) ≡ true
      or-true true = refl
      or-true false = refl

      or-false : (a : Bool) → (a || false) ≡ a
      or-false true = refl
      or-false false = refl

      here : (l : Bool) → lands r vs f ≡ l → (s : Bool) → same_user x r.mark ≡ s → g x ≡ (if l && s then Some 0 else f x)
          → b x ≡ (is_started r ds x || (l && s)) → Lands x ⊎ Keeps x
      here true e true s p q = inl (e, same_user-true x r.mark s, p, q ∙ or-true (is_started r ds x))
      here true e false s p q = inr (p, q ∙ or-false (is_started r ds x))
      here false e s _ p q = inr (p, q ∙ or-false (is_started r ds x))

  none-before : lands r vs f ≡ true → (f r.mark ≡ None) × (has_user vs r.mark ≡ true)
  none-before h =
      let t = and_parts (has_user vs r.mark) (not (is_some (f r.mark))) h in
      (here (f r.mark) t.1, t.0)
    where
      here : (o : Option ℕ) → not (is_some o) ≡ true → o ≡ None
      here None e = refl
      here (Some n) e = absurd cc

  less : (x : User) → Under (g x) (f x)
  less x = here (case x)
    where
      here : Lands x ⊎ Keeps x → Under (g x) (f x)
      here (inl t) = subst (λ (o : Option ℕ). Under o (f x)) (sym t.2) (zero-under (f x))
      here (inr t) = subst (λ (o : Option ℕ). Under o (f x)) (sym t.0) (under-self (f x))

  -- whoever has a walk at some value is a vertex
  end-there : (u : User) (n : ℕ) (ws : List Step) → f u ≡ Some n → IsWalk (net_in r is vs) u ws → has_user vs u ≡ true
  end-there u n [] e w = subst (λ (y : User). has_user vs y ≡ true) (sym w) (room n (ap f (sym w) ∙ e))
  end-there u n (s ∷ ws) e w = (whole s.kind s.start u w.0).1

  begins-kept : AreKept (net_in r is vs) g
  begins-kept u n e = here (case u)
    where
      here : Lands u ⊎ Keeps u → IsKept (net_in r is vs) g u n
      here (inl t) =
          let two : Some 0 ≡ Some n = sym t.2 ∙ e in
          let same : 0 ≡ n = cc in
          record {
            path = [];
            walk = t.1;
            costs = ap Some same;
            once = (refl, tt);
            low = subst (λ (o : Option ℕ). AtMost o 0) (sym t.2) (omega arith);
            within = (subst (λ (y : User). has_user vs y ≡ true) (sym t.1) (none-before t.0).1, tt);
          }
      here (inr t) =
          let had : f u ≡ Some n = sym t.0 ∙ e in
          let k = kept u n had in
          let walk : IsWalk (net_in r is vs) u k.path = walk-led law r was is ds led us vs u k.path k.walk in
          record {
            path = k.path;
            walk = walk;
            costs = sym (cost-same r was is us vs k.path) ∙ k.costs;
            once = k.once;
            low = low-led r was is us vs f g less u k.path k.low;
            within = walk-within (net_in r is vs) whole u k.path walk (end-there u n k.path had walk);
          }

  begins-start : HasStart (net_in r is vs) g
  begins-start there = here (f r.mark) refl
    where
      here : (o : Option ℕ) → f r.mark ≡ o → AtMost (g r.mark) 0
      here None e =
          let landed : lands r vs f ≡ true = rw (there, e) refl in
          let given : (if lands r vs f && same_user r.mark r.mark then Some 0 else f r.mark) ≡ Some 0 = rw (landed, same_user-refl r.mark)
          refl in
          subst (λ (o : Option ℕ). AtMost o 0) (sym (values r.mark ∙ given)) (omega arith)
      here (Some n) e =
          let k = kept r.mark n e in
          under-trans (g r.mark) (f r.mark) (Some 0) (less r.mark) (start (mark-there (net_in r was us) r.mark k.path k.walk k.within))

  started : (k : EdgeKind) (w : User) → starts_by r ds k w ≡ true → is_started r ds w ≡ true
  started kind.Follow w h = or_left (starts_by r ds kind.Follow w) (starts_by r ds kind.Mention w) h
  started kind.Mention w h = or_right (starts_by r ds kind.Follow w) (starts_by r ds kind.Mention w) h

  -- a new edge that the rule uses makes its start active
  fresh : (k : EdgeKind) (w u : User) (n m : ℕ) → r.along k n ≡ Some m → adds ds k w u ≡ true → is_started r ds w ≡ true
  fresh k w u n m e add =
      let used : is_some (r.along k 0) ≡ true = laws.by_kind k 0 n ∙ ap is_some e in
      started k w (rw (used, adds-start ds k w u add) refl)

  begins-rest : (w : User) → IsAtRest (net_in r is vs) g w ⊎ (b w ≡ true)
  begins-rest w = split (b w) refl
    where
      idle : b w ≡ false → IsAtRest (net_in r is vs) g w
      idle off k u n e edge = here (case w)
        where
          new : (o : Option ℕ) → r.along k n ≡ o → adds ds k w u ≡ true → b w ≡ is_started r ds w → Under (g u) o
          new None e add same = tt
          new (Some m) e add same = absurd (both_ways (b w) off (same ∙ fresh k w u n m e add))

          by : f w ≡ Some n → b w ≡ is_started r ds w → (has_user (ends_in was k w) u ≡ true) ⊎ (adds ds k w u ≡ true)
              → Under (g u) (r.along k n)
          by had same (inl old) = under-trans (g u) (f u) (r.along k n) (less u) (rest w k u n had old)
          by had same (inr add) = new (r.along k n) refl add same

          here : Lands w ⊎ Keeps w → Under (g u) (r.along k n)
          here (inl t) = absurd (both_ways (b w) off t.3)
          here (inr t) = by (sym t.0 ∙ e) t.1 (or_cases (has_user (ends_in was k w) u) (adds ds k w u)
              (sym (edge-led law was is ds led k w u) ∙ edge))

      split : (a : Bool) → b w ≡ a → IsAtRest (net_in r is vs) g w ⊎ (b w ≡ true)
      split true e = inr e
      split false e = inl (idle e)

  started-there : (w : User) → is_started r ds w ≡ true → has_user vs w ≡ true
  started-there w on = kinds (or_cases (starts_by r ds kind.Follow w) (starts_by r ds kind.Mention w) on)
    where
      by : (k : EdgeKind) → starts_by r ds k w ≡ true → has_user vs w ≡ true
      by kind.Follow h =
          let s = start-adds ds kind.Follow w (and_parts (is_some (r.along kind.Follow 0)) _ h).1 in
          (whole kind.Follow w s.0 (edge-led law was is ds led kind.Follow w s.0
          ∙ or_right (has_user (ends_in was kind.Follow w) s.0) (adds ds kind.Follow w s.0) s.1)).0
      by kind.Mention h =
          let s = start-adds ds kind.Mention w (and_parts (is_some (r.along kind.Mention 0)) _ h).1 in
          (whole kind.Mention w s.0 (edge-led law was is ds led kind.Mention w s.0
          ∙ or_right (has_user (ends_in was kind.Mention w) s.0) (adds ds kind.Mention w s.0) s.1)).0

      kinds : (starts_by r ds kind.Follow w ≡ true) ⊎ (starts_by r ds kind.Mention w ≡ true) → has_user vs w ≡ true
      kinds (inl h) = by kind.Follow h
      kinds (inr h) = by kind.Mention h

  begins-within : (w : User) → b w ≡ true → has_user vs w ≡ true
  begins-within w on = here (case w)
    where
      here : Lands w ⊎ Keeps w → has_user vs w ≡ true
      here (inl t) = subst (λ (y : User). has_user vs y ≡ true) (sym t.1) (none-before t.0).1
      here (inr t) = started-there w (sym t.1 ∙ on)

  pub begins-on : length vs ≤ 2 ^ 27 → IsOn (net_in r is vs) g b
  begins-on small = record {
    whole = whole;
    small = small;
    acting = record
        { kept = begins-kept; start = begins-start; rest = begins-rest };
    within = begins-within;
  }

  pub begins-owes : (reads : User → ℕ) → potential (net_in r is vs) reads g b ≤ sum_over
      (λ u. ((if is_started r ds u then 1 else 0) + counted (bound (net_in r is vs)) (f u)) * reads u) vs
  begins-owes reads = sum-le (λ u. ((if is_started r ds u then 1 else 0) + counted (bound (net_in r is vs)) (f u)) * reads u)
      (owed (net_in r is vs) reads g b) vs (λ x. here x (case x))
    where
      here : (x : User) → Lands x ⊎ Keeps x → owed (net_in r is vs) reads g b x ≤
          ((if is_started r ds x then 1 else 0) + counted (bound (net_in r is vs)) (f x)) * reads x
      here x (inl t) =
          let none : f x ≡ None = subst (λ (y : User). f y ≡ None) (sym t.1) (none-before t.0).0 in
          let many : 1 * 1 ≤ r.most * length vs = mul-le-mul laws.some (some-users vs r.mark (none-before t.0).1) in
          rw (t.2, t.3, none) (mul-le-mul_right (reads x) (omega (arith, many)))
      here x (inr t) = rw (t.0, t.1) (mul-le-mul_right (reads x) (omega arith))

-- a user above all of a list is none of them
above : List User → ℕ
above [] = 0
above (u ∷ us) = u.0 + above us

above-none : (us : List User) (x : User) → above us < x.0 → has_user us x ≡ false
unfolding above
above-none [] x h = refl
above-none (u ∷ us) x h = here (same_user x u) refl (above-none us x (omega (arith, h)))
  where
    here : (b : Bool) → same_user x u ≡ b → has_user us x ≡ false → (b || has_user us x) ≡ false
    here true e more = let same : x.0 ≡ u.0 = ap (λ (y : User). y.0) (same_user-true x u e) in absurd (omega (arith, same, h))
    here false e more = more

-- another user than this one and all of a list
beyond : List User → User → User
beyond us mark = record { 0 = above us + mark.0 + 1 }

beyond-apart : (us : List User) (mark : User) → beyond us mark ≡ mark → ⊥
unfolding beyond
beyond-apart us mark h = let is : above us + mark.0 + 1 ≡ mark.0 = ap (λ (y : User). y.0) h in omega (arith, is)

beyond-none : (us : List User) (mark : User) → has_user us (beyond us mark) ≡ false
unfolding beyond
beyond-none us mark = above-none us (beyond us mark) (omega arith)

-- The landmark is a vertex where it has a value: else whoever is no vertex would have that value too, as one of them is neither the
-- landmark nor the end of an edge.
mark-room : (net : Net) (s : PushState) (f : User → Option ℕ) → ((u : User) → value_in s u ≡ f u)
    → ((u : User) (n : ℕ) → f u ≡ Some n → (ws : List Step) × IsWalk net u ws) → IsWhole net → net.users ≡ s.users
    → (n : ℕ) → f net.mark ≡ Some n → has_user s.users net.mark ≡ true
mark-room net s f same walks whole us n e = split (has_user s.users net.mark) refl
  where
    other : User
    other = beyond s.users net.mark

    out : has_user s.users other ≡ false
    out = beyond-none s.users net.mark

    no-walk : (ws : List Step) → IsWalk net other ws → ⊥
    no-walk [] w = beyond-apart s.users net.mark w
    no-walk (t ∷ ws) w = both_ways (has_user s.users other) out (subst (λ (xs : List User). has_user xs other ≡ true) us
        (whole t.kind t.start other w.0).1)

    split : (b : Bool) → has_user s.users net.mark ≡ b → b ≡ true
    split true h = refl
    split false h =
        let alike : value_in s other ≡ value_in s net.mark = ap (λ (i : ℕ). get_or s.values i None)
        (place-absent s.users other out ∙ sym (place-absent s.users net.mark h)) in
        let w = walks other n (sym (same other) ∙ alike ∙ same net.mark ∙ e) in
        absurd (no-walk w.0 w.1)

pub begin-law : EdgesLaw → BeginLaw
begin-law law r was is ds starts before wide after b = record {
  on = subst (λ (xs : List User). IsOn (net_in r is xs) (value_in after) (is_active after)) (sym b.entered.users)
      (begins-on r b.rule law was is ds b.led before.users wide.users whole (value_in before) (value_in after) (is_active after)
      b.on.acting.kept b.on.acting.start rest values active room b.small);
  active = λ u. subst (λ (xs : List User). is_active after u ≡ (is_started r ds u || (lands r xs (value_in before) && same_user u r.mark)))
      (sym b.entered.users) (active u);
  values = λ u. subst (λ (xs : List User). value_in after u ≡ (if lands r xs (value_in before) && same_user u r.mark then Some 0 else
      value_in before u)) (sym b.entered.users) (values u);
  owes = subst (λ (xs : List User). potential (net_in r is xs) (reads_of r is) (value_in after) (is_active after) ≤ sum_over
      (λ u. had r ds (bound (net_in r is xs)) before u * reads_of r is u) xs) (sym b.entered.users)
      (begins-owes r b.rule law was is ds b.led before.users wide.users whole (value_in before) (value_in after) (is_active after)
      b.on.acting.kept b.on.acting.start rest values active room (reads_of r is));
}
  where
    whole : IsWhole (net_in r is wide.users)
    whole = view-whole r is wide.users b.led.after b.vertices

    rest : (w : User) → IsAtRest (net_in r was before.users) (value_in before) w
    rest w = here (b.on.acting.rest w)
      where
        here : IsAtRest (net_in r was before.users) (value_in before) w ⊎ (is_active before w ≡ true)
            → IsAtRest (net_in r was before.users) (value_in before) w
        here (inl at) = at
        here (inr on) = absurd (both_ways (is_active before w) (b.quiet w) on)

    landed : lands r wide.users (value_in wide) ≡ lands r wide.users (value_in before)
    landed = ap (λ (o : Option ℕ). has_user wide.users r.mark && not (is_some o)) (b.values r.mark)

    values : (x : User) → value_in after x ≡ (if lands r wide.users (value_in before) && same_user x r.mark then Some 0 else value_in
        before x)
    values x = b.entered.values x ∙ ap (λ (l : Bool). if l && same_user x r.mark then Some 0 else value_in wide x) landed
        ∙ ap (λ (o : Option ℕ). if lands r wide.users (value_in before) && same_user x r.mark then Some 0 else o) (b.values x)

    active : (w : User) → is_active after w ≡ (is_started r ds w || (lands r wide.users (value_in before) && same_user w r.mark))
    active w = b.entered.active w ∙ ap (λ (a : Bool). a || (lands r wide.users (value_in wide) && same_user w r.mark)) (b.starts w)
        ∙ ap (λ (l : Bool). is_started r ds w || (l && same_user w r.mark)) landed

    room : (n : ℕ) → value_in before r.mark ≡ Some n → has_user wide.users r.mark ≡ true
    room n e = mark-room (net_in r is wide.users) wide (value_in before) b.values
        (λ u m h. let k = b.on.acting.kept u m h in (k.path, walk-led law r was is ds b.led before.users wide.users u k.path k.walk)) whole
        refl n e

pub empty-law : EmptyLaw
empty-law r = record {
  whole = none;
  small = omega arith;
  acting = record { kept = λ u n e. absurd cc; start = λ there. absurd cc; rest = λ w. inl (λ k u n e edge. absurd cc) };
  within = λ w on. absurd cc;
}
  where
    none : (k : EdgeKind) (w u : User) → has_user (ends_in empty_view k w) u ≡ true → (has_user [] w ≡ true) × (has_user [] u ≡ true)
    none kind.Follow w u e = absurd cc
    none kind.Mention w u e = absurd cc
