-- What keeps the facts, over functions.
use Rattle.std.proofs.Common.{◌≡◌, ◌<◌, ◌≤◌, ◌+◌, ◌∙◌, ◌⊎◌, inl, inr, ◌&&◌, ◌||◌, not, add-one, ℕ, zero, suc, Bool, true, false, List, []}
use Rattle.std.proofs.Common.{◌∷◌, cond, arith, refl, sym, subst, ap, ap₂}
use Rattle.std.specs.List.{list_any}
use Rattle.std.proofs.lemmas.Bool.{or_left, or_right, or_parts, both_ways}
use Rattle.kin_ids.specs.declared.ids.User.{User}
use Rattle.kin_ids.specs.Users.{same_user, has_user}
use Rattle.kin_ids.proofs.Same.{same_user-true, same_user-refl}
use Rattle.kin_rules.specs.declared.pull_rules.Facts.{Facts}
use Rattle.kin_rules.specs.declared.pull_rules.Input.{Input}
use Rattle.kin_rules.specs.Layers.{LayerRule, IsLayerRule, AreAlikeInputs, inputs_of}
use Rattle.kin_pull.specs.Keeping.{PullNet, Keeping, IsJoined, IsStanding, IsCounted, IsAtRest, IdleLaw, RestLaw, layer_in, next_of, shows}
use Rattle.kin_pull.specs.Settles.{IsPassed, PassLaw, changes, is_due}
use Rattle.kin_pull.specs.Turns.{IsTurn, TurnLaw}

-- inputs of the same users are alike where each of them is
pub alike-each : {V : Type 0} (r : LayerRule V) (c d : User → Facts) (f g : User → V) (ys : List User)
    → ((y : User) → has_user ys y ≡ true → ((c y).user ≡ (d y).user) × (r.alike (c y) (f y) (d y) (g y) ≡ true))
    → AreAlikeInputs r (inputs_of c f ys) (inputs_of d g ys)
alike-each r c d f g [] h = tt
alike-each r c d f g (y ∷ ys) h =
    let this = h y (or_left (same_user y y) (has_user ys y) (same_user-refl y)) in
    (this.0, this.1, alike-each r c d f g ys (λ z i. h z (or_right (same_user z y) (has_user ys z) i)))

-- inputs with the same facts and values
pub inputs-same : {V : Type 0} (c d : User → Facts) (f g : User → V) (ys : List User) → ((y : User) → has_user ys y ≡ true
    → (c y ≡ d y) × (f y ≡ g y)) → inputs_of c f ys ≡ inputs_of d g ys
inputs-same c d f g [] h = refl
inputs-same {V} c d f g (y ∷ ys) h =
    let this = h y (or_left (same_user y y) (has_user ys y) (same_user-refl y)) in
    ap₂ (λ (a : Facts) (v : V). record { facts = a; value = v } ∷ inputs_of c f ys) this.0 this.1
    ∙ ap (λ (is : List (Input V)). record { facts = d y; value = g y } ∷ is) (inputs-same c d f g ys (λ z i. h z (or_right
    (same_user z y) (has_user ys z) i)))

-- what doesn't show
pub shows-not : {V : Type 0} (r : LayerRule V) (told now : Facts) (mixed : Bool) (v w : V) → shows r told now mixed v w ≡ false
    → (r.alike told v now w ≡ true) × (mixed ≡ true → r.alike now v now w ≡ true)
shows-not r told now mixed v w h = here (r.alike told v now w) refl (r.alike now v now w) refl mixed refl h
  where
    here : (a : Bool) → r.alike told v now w ≡ a → (b : Bool) → r.alike now v now w ≡ b → (m : Bool) → mixed ≡ m
        → not (a && (not m || b)) ≡ false → (r.alike told v now w ≡ true) × (mixed ≡ true → r.alike now v now w ≡ true)
    here true e true d m k h = (e, λ _. d)
    here true e false d false k h = (e, λ on. absurd (both_ways mixed k on))
    here true e false d true k h = absurd cc
    here false e b d m k h = absurd cc

-- nothing shows where the facts were told and the value is the same
pub shows-none : {V : Type 0} (r : LayerRule V) → IsLayerRule r → (told now : Facts) (mixed : Bool) (v w : V) → told ≡ now → v ≡ w
    → shows r told now mixed v w ≡ false
shows-none {V} r laws told now mixed v w e h =
    subst (λ (a : Facts). shows r a now mixed v w ≡ false) (sym e) (subst (λ (x : V). shows r now now mixed v x
    ≡ false) h (rw (laws.same now v) (here mixed)))
  where
    here : (m : Bool) → not (not m || true) ≡ false
    here true = refl
    here false = refl

-- a test that nobody of them passes
pub off-each : (p : User → Bool) (us : List User) (y : User) → list_any p us ≡ false → has_user us y ≡ true → p y ≡ false
off-each p [] y h there = absurd cc
off-each p (u ∷ us) y h there = let parts = or_parts (p u) (list_any p us) h in here (same_user y u) refl there parts.0
    (off-each p us y parts.1)
  where
    here : (b : Bool) → same_user y u ≡ b → (b || has_user us y) ≡ true → p u ≡ false → (has_user us y ≡ true → p y ≡ false) → p y ≡ false
    here true e k off more = subst (λ (z : User). p z ≡ false) (sym (same_user-true y u e)) off
    here false e k off more = more k

and-off : (a b : Bool) → (a && b) ≡ false → b ≡ true → a ≡ false
and-off true true h k = h
and-off false b h k = refl
and-off true false h k = absurd cc

module _ {V : Type 0} (r : LayerRule V) (laws : IsLayerRule r) (net : PullNet) (joined : IsJoined net) (top : ℕ) (e : Keeping V)
    (stands : IsStanding r net top e) where
  abbrev Chosen : User → Facts → Type 0
  Chosen y c = (c ≡ e.told y) ⊎ ((e.mixed ≡ true) × (c ≡ net.facts y))

  chosen-named : (c : Facts) (y : User) → Chosen y c → c.user ≡ (net.facts y).user
  chosen-named c y (inl k) = ap (λ (q : Facts). q.user) k ∙ (stands.named y ∙ sym (joined.named y))
  chosen-named c y (inr k) = ap (λ (q : Facts). q.user) k.1

  -- an input whose change doesn't show is alike, whichever facts it was counted with
  hidden-alike : (m : Bool) → (e.mixed ≡ true → m ≡ true) → (v w : V) (c : Facts) (y : User)
      → shows r (e.told y) (net.facts y) m v w ≡ false → Chosen y c → r.alike c v (net.facts y) w ≡ true
  hidden-alike m more v w c y h (inl k) = subst (λ (q : Facts). r.alike q v (net.facts y) w
      ≡ true) (sym k) (shows-not r (e.told y) (net.facts y) m v w h).0
  hidden-alike m more v w c y h (inr k) = subst (λ (q : Facts). r.alike q v (net.facts y) w
      ≡ true) (sym k.1) ((shows-not r (e.told y) (net.facts y) m v w h).1 (more k.0))

  -- facts that were told are those of now
  chosen-known : (c : Facts) (y : User) → e.fresh y ≡ false → Chosen y c → c ≡ net.facts y
  chosen-known c y off (inl k) = k ∙ stands.known y off
  chosen-known c y off (inr k) = k.1

  pub at-rest : (j : ℕ) (x : User) → j < top → e.active (suc j) x ≡ false → ((y : User) → has_user (net.inputs x) y ≡ true
      → e.fresh y ≡ false) → IsAtRest r net e.layers j x
  at-rest j x below off none =
      let is = stands.rest j x below off in
      is.value ∙ ap (r.next (net.facts x)) (inputs-same is.chosen net.facts (e.layers j) (e.layers j) (net.inputs x) (λ y i.
      (chosen-known (is.chosen y) y (none y i) (is.of y), refl)))

  pub idle-layers : ((y : User) → e.fresh y ≡ false) → ((j : ℕ) (x : User) → j < top → e.active (suc j) x ≡ false) → (j : ℕ) (x : User)
      → j ≤ top → e.layers j x ≡ layer_in r net j x
  idle-layers none idle zero x below = stands.first x
  idle-layers none idle (suc j) x below =
      let lt : j < top = omega (arith, below) in
      at-rest j x lt (idle j x lt) (λ y i. none y)
      ∙ ap (r.next (net.facts x)) (inputs-same net.facts net.facts (e.layers j) (layer_in r net j) (net.inputs x) (λ y i.
      (refl, idle-layers none idle j y (omega (arith, below)))))

  -- a layer that isn't computed again
  module _ (us : List User) (within : (x y : User) → has_user (net.inputs x) y ≡ true
      → has_user us y ≡ true) (j : ℕ) (below : j < top) (values above : User → V) (passed : IsPassed r net e us j values above) where
    still : (x : User) → is_due r net e us j values x ≡ false → e.layers (suc j) x ≡ next_of r net values x
    still x off =
        let parts = or_parts (e.active (j + 1) x) (list_any (λ y. changes r net e j values y && has_user (net.readers y) x) us) off in
        let is : IsCounted r net e j x = stands.rest j x below (subst (λ (n : ℕ). e.active n x ≡ false) (add-one j) parts.0) in
        is.value ∙ laws.inputs (net.facts x) (inputs_of is.chosen (e.layers j) (net.inputs x)) (inputs_of net.facts values (net.inputs x))
        (alike-each r is.chosen net.facts (e.layers j) values (net.inputs x)
        (λ y i. (
          chosen-named (is.chosen y) y (is.of y),
          hidden-alike e.mixed (λ k. k) (e.layers j y) (values y) (is.chosen y) y
              (and-off (changes r net e j values y) (has_user (net.readers y) x) (off-each (λ z. changes r net e j values z && has_user
              (net.readers z) x) us y parts.1 (within x y i)) (sym (joined.both x y) ∙ i)) (is.of y),
        )))

    pub pass-next : (x : User) → above x ≡ next_of r net values x
    pass-next x = here (is_due r net e us j values x) refl
      where
        here : (b : Bool) → is_due r net e us j values x ≡ b → above x ≡ next_of r net values x
        here true k = passed.computed x k
        here false k = passed.kept x k ∙ still x k

pub idle-law : (V : Type 0) → IdleLaw V
idle-law V r net top e laws joined stands none idle = idle-layers r laws net joined top e stands none idle

pub rest-law : (V : Type 0) → RestLaw V
rest-law V r net top e laws joined stands = at-rest r laws net joined top e stands

pub pass-law : (V : Type 0) → PassLaw V
pass-law V r net top e us j values above laws joined within stands below passed lower x =
    pass-next r laws net joined top e stands us within j below values above passed x
    ∙ ap (r.next (net.facts x)) (inputs-same net.facts net.facts values (layer_in r net j) (net.inputs x) (λ y i. (refl, lower y)))

-- a turn
module _ {V : Type 0} (r : LayerRule V) (laws : IsLayerRule r) (net : PullNet) (joined : IsJoined net) (top : ℕ) (u : User)
    (e new : Keeping V) (stands : IsStanding r net top e) (t : IsTurn r net top u e new) where
  mine : (x : User) → same_user u x ≡ true → u ≡ x
  mine x = same_user-true u x

  first : (x : User) (b : Bool) → same_user u x ≡ b → new.layers 0 x ≡ r.first
  first x true k = subst (λ (z : User). new.layers 0 z ≡ r.first) (mine x k) t.first
  first x false k = t.others 0 x k ∙ stands.first x

  told : (x : User) (b : Bool) → same_user u x ≡ b → new.told x ≡ cond b (net.facts x) (e.told x)
  told x true k = subst (λ (z : User). new.told z ≡ net.facts z) (mine x k) t.tells
  told x false k = t.tell x k

  named : (x : User) (b : Bool) → (cond b (net.facts x) (e.told x)).user ≡ x
  named x true = joined.named x
  named x false = stands.named x

  known : (x : User) (b : Bool) → same_user u x ≡ b → new.fresh x ≡ false → new.told x ≡ net.facts x
  known x true k h = told x true k
  known x false k h = told x false k ∙ stands.known x (sym (t.still x k) ∙ h)

  own : (j : ℕ) → j < top → IsCounted r net new j u
  own j below = record { chosen = net.facts; of = λ y. inr (t.mixed, refl); value = t.own j below }

  other : (j : ℕ) (x : User) → same_user u x ≡ false → IsCounted r net e j x → (has_user (net.readers u) x ≡ false)
      ⊎ (shows r (e.told u) (net.facts u) true (e.layers j u) (new.layers j u) ≡ false) → IsCounted r net new j x
  other j x apart is quiet = record {
    chosen = λ y. cond (same_user u y) (net.facts y) (is.chosen y);
    of = λ y. of y (same_user u y) refl (is.of y);
    value = t.others (suc j) x apart ∙ (is.value ∙ laws.inputs (net.facts x) (inputs_of is.chosen (e.layers j) (net.inputs x)) (inputs_of
        (λ y. cond (same_user u y) (net.facts y) (is.chosen y)) (new.layers j) (net.inputs x))
        (alike-each r is.chosen (λ y. cond (same_user u y) (net.facts y) (is.chosen y)) (e.layers j) (new.layers j) (net.inputs x)
        (λ y i. each y i (same_user u y) refl)));
  }
    where
      of : (y : User) (b : Bool) → same_user u y ≡ b → (is.chosen y ≡ e.told y) ⊎ ((e.mixed ≡ true) × (is.chosen y ≡ net.facts y))
          → (cond b (net.facts y) (is.chosen y) ≡ new.told y) ⊎ ((new.mixed ≡ true) × (cond b (net.facts y) (is.chosen y) ≡ net.facts y))
      of y true k _ = inr (t.mixed, refl)
      of y false k (inl c) = inl (c ∙ sym (t.tell y k))
      of y false k (inr c) = inr (t.mixed, c.1)

      hidden : has_user (net.readers u) x ≡ true → (has_user (net.readers u) x ≡ false)
          ⊎ (shows r (e.told u) (net.facts u) true (e.layers j u) (new.layers j u) ≡ false)
          → shows r (e.told u) (net.facts u) true (e.layers j u) (new.layers j u) ≡ false
      hidden on (inl off) = absurd (both_ways (has_user (net.readers u) x) off on)
      hidden on (inr q) = q

      each : (y : User) → has_user (net.inputs x) y ≡ true → (b : Bool) → same_user u y ≡ b
          → ((is.chosen y).user ≡ (cond b (net.facts y) (is.chosen y)).user) × (r.alike (is.chosen y) (e.layers j y) (cond b
          (net.facts y) (is.chosen y)) (new.layers j y) ≡ true)
      each y i false k = (
        refl,
        subst (λ (v : V). r.alike (is.chosen y) (e.layers j y) (is.chosen y) v
            ≡ true) (sym (t.others j y k)) (laws.same (is.chosen y) (e.layers j y)),
      )
      each y i true k =
          let reads : has_user (net.readers u) x ≡ true = subst (λ (z : User). has_user (net.readers z) x
          ≡ true) (sym (mine y k)) (sym (joined.both x y) ∙ i) in
          let q : shows r (e.told y) (net.facts y) true (e.layers j y) (new.layers j y) ≡ false
          = subst (λ (z : User). shows r (e.told z) (net.facts z) true (e.layers j z) (new.layers j z)
          ≡ false) (mine y k) (hidden reads quiet) in (
            chosen-named r laws net joined top e stands (is.chosen y) y (is.of y),
            hidden-alike r laws net joined top e stands true
                (λ _. refl) (e.layers j y) (new.layers j y) (is.chosen y) y q (is.of y),
          )

  rest : (j : ℕ) (x : User) → j < top → new.active (suc j) x ≡ false → (b : Bool) → same_user u x ≡ b → IsCounted r net new j x
  rest j x below off true k = subst (λ (z : User). IsCounted r net new j z) (mine x k) (own j below)
  rest j x below off false k = let q = t.quiet j x below k off in other j x k (stands.rest j x below q.0) q.1

  pub turn-stands : IsStanding r net top new
  turn-stands = record {
    first = λ x. first x (same_user u x) refl;
    named = λ x. ap (λ (q : Facts). q.user) (told x (same_user u x) refl) ∙ named x (same_user u x);
    known = λ x h. known x (same_user u x) refl h;
    rest = λ j x below off. rest j x below off (same_user u x) refl;
  }

pub turn-law : (V : Type 0) → TurnLaw V
turn-law V r net top u e new laws joined stands t = turn-stands r laws net joined top u e new stands t
