-- Whoever deltas tell of is a vertex of the view to which they lead.
use Rattle.std.proofs.Common.{◌≡◌, ◌<◌, ◌∙◌, ◌||◌, ◌&&◌, ◌==◌, not, ℕ, Bool, true, false, List, [], ◌∷◌, length, Option, Some, None}
use Rattle.std.proofs.Common.{is_some, refl, ap}
use Rattle.std.specs.List.{list_any}
use Rattle.std.proofs.lemmas.Bool.{both_ways, or_parts, or_from, and_from}
use Rattle.kin_ids.specs.declared.ids.User.{User}
use Rattle.kin_ids.specs.declared.ops.Half.{Half}
use Rattle.kin_ids.specs.declared.ops.Use.{Use}
use Rattle.kin_ids.specs.Users.{same_user, same_tag}
use Rattle.kin_ids.specs.Parting.{user_part}
use Rattle.kin_ids.specs.Parts.{PartView, if_here}
use Rattle.kin_ids.proofs.Same.{same_user-refl, same_tag-refl}
use Rattle.kin_store.specs.declared.pairs.Pair.{Pair}
use Rattle.kin_store.specs.Lists.{half_to, use_of}
use Rattle.kin_graph.specs.declared.deltas.UseRow.{UseRow}
use Rattle.kin_graph.specs.Deltas.{DeltaLists, is_now, is_gone, pair_in, HasJust}
use Rattle.kin_graph.specs.Rows.{is_none}
use Rattle.kin_graph.specs.Views.{is_vertex}
use Rattle.kin_changes.specs.Told.{is_of, is_to}
use Rattle.kin_changes.specs.Views.{AreLed, delta_at}
use Rattle.kin_changes.proofs.Homes.{any-home, user-home, any-just, any-use, more-in}
use Rattle.kin_rules.specs.declared.pull_rules.Side.{Side}
use Rattle.kin_rules.specs.declared.pull_rules.Side.TheVariants as side
use Rattle.kin_pull.specs.Begins.{TouchedLaw, is_touched, is_rewired}
use Rattle.kin_pull.proofs.Views.{none-cons}

none-pairs : (u : User) (ps : List Pair) → ((w : User) → list_any (is_to u w) ps ≡ false) → list_any (is_of u) ps ≡ false
none-pairs u [] none = refl
none-pairs u (p ∷ ps) none = or_from (is_of u p) (list_any (is_of u) ps) (here (is_of u p) refl) (none-pairs u ps (λ w. (or_parts
    (is_to u w p) (list_any (is_to u w) ps) (none w)).1))
  where
    here : (b : Bool) → is_of u p ≡ b → b ≡ false
    here false e = refl
    here true e = absurd (both_ways (is_to u p.other p) (or_parts (is_to u p.other p) (list_any (is_to u p.other) ps) (none p.other)).0
        (and_from (same_user u p.user) (same_user p.other p.other) e (same_user-refl p.other)))

none-rows : (u : User) (xs : List UseRow) → ((t : List ℕ) → list_any (λ (x : UseRow). same_user u x.user && same_tag t x.entry.tag) xs
    ≡ false) → list_any (λ (x : UseRow). same_user u x.user) xs ≡ false
none-rows u [] none = refl
none-rows u (x ∷ xs) none =
    or_from (same_user u x.user) (list_any (λ (y : UseRow). same_user u y.user) xs) (here (same_user u x.user) refl)
    (none-rows u xs (λ t. (or_parts (same_user u x.user && same_tag t x.entry.tag) (list_any (λ
    (y : UseRow). same_user u y.user && same_tag t y.entry.tag) xs) (none t)).1))
  where
    here : (b : Bool) → same_user u x.user ≡ b → b ≡ false
    here false e = refl
    here true e = absurd (both_ways (same_user u x.user && same_tag x.entry.tag x.entry.tag)
        (or_parts (same_user u x.user && same_tag x.entry.tag x.entry.tag) (list_any (λ
        (y : UseRow). same_user u y.user && same_tag x.entry.tag y.entry.tag) xs) (none x.entry.tag)).0
        (and_from (same_user u x.user) (same_tag x.entry.tag x.entry.tag) e (same_tag-refl x.entry.tag)))

-- a test of each delta, where none passes for any item
pairs-all : (f : DeltaLists → List Pair) (u : User) (ds : List DeltaLists) → ((w : User)
    → list_any (λ d. list_any (is_to u w) (f d)) ds ≡ false) → list_any (λ d. list_any (is_of u) (f d)) ds ≡ false
pairs-all f u [] none = refl
pairs-all f u (d ∷ ds) none = or_from (list_any (is_of u) (f d)) (list_any (λ e. list_any (is_of u) (f e)) ds)
    (none-pairs u (f d) (λ w. (or_parts (list_any (is_to u w) (f d)) (list_any (λ e. list_any (is_to u w) (f e)) ds) (none w)).0))
    (pairs-all f u ds (λ w. (or_parts (list_any (is_to u w) (f d)) (list_any (λ e. list_any (is_to u w) (f e)) ds) (none w)).1))

abbrev is-use : User → List ℕ → UseRow → Bool
is-use u t x = same_user u x.user && same_tag t x.entry.tag

rows-all : (u : User) (ds : List DeltaLists) → ((t : List ℕ) → list_any (λ d. list_any (is-use u t) d.uses) ds ≡ false)
    → list_any (λ d. list_any (λ (x : UseRow). same_user u x.user) d.uses) ds ≡ false
rows-all u [] none = refl
rows-all u (d ∷ ds) none = or_from (list_any (λ (x : UseRow). same_user u x.user) d.uses) (list_any (λ e. list_any (λ
    (x : UseRow). same_user u x.user) e.uses) ds)
    (none-rows u d.uses (λ t. (or_parts (list_any (is-use u t) d.uses) (list_any (λ e. list_any (is-use u t) e.uses) ds) (none t)).0))
    (rows-all u ds (λ t. (or_parts (list_any (is-use u t) d.uses) (list_any (λ e. list_any (is-use u t) e.uses) ds) (none t)).1))

any-or : (p q : DeltaLists → Bool) (ds : List DeltaLists) → list_any p ds ≡ false → list_any q ds ≡ false
    → list_any (λ d. p d || q d) ds ≡ false
any-or p q [] a b = refl
any-or p q (d ∷ ds) a b =
    let x = or_parts (p d) (list_any p ds) a in
    let y = or_parts (q d) (list_any q ds) b in
    or_from (p d || q d) (list_any (λ e. p e || q e) ds) (or_from (p d) (q d) x.0 y.0) (any-or p q ds x.1 y.1)

-- a list that is handed out of no vertex has nothing in it
none-list : {X : Type 0} (xs : List X) → is_none xs ≡ true → xs ≡ []
none-list [] e = refl
none-list (x ∷ xs) e = absurd (both_ways (is_none (x ∷ xs)) (none-cons x xs) e)

not-false : (b : Bool) → not b ≡ false → b ≡ true
not-false true e = refl
not-false false e = absurd cc

and-split : (a b : Bool) → (a && b) ≡ true → (a ≡ true) × (b ≡ true)
and-split true b e = (refl, e)
and-split false b e = absurd cc

-- nothing is handed out of who is no vertex
pub record HasNothing (v : PartView) (u : User) : Type 0 where
  pub out : v.out u ≡ []
  pub inn : v.inn u ≡ []
  pub uses : v.uses u ≡ []

has-nothing : (v : PartView) (u : User) → is_vertex v u ≡ false → HasNothing v u
has-nothing v u off =
    let all = and-split ((is_none (v.out u) && is_none (v.inn u)) && (is_none (v.mentions u) && is_none (v.mentioners u))) (is_none
    (v.uses u)) (not-false _ off) in
    let edges = and-split (is_none (v.out u) && is_none (v.inn u)) (is_none (v.mentions u) && is_none (v.mentioners u)) all.0 in
    let follows = and-split (is_none (v.out u)) (is_none (v.inn u)) edges.0 in
    record { out = none-list (v.out u) follows.0; inn = none-list (v.inn u) follows.1; uses = none-list (v.uses u) all.1 }

module _ (was is : PartView) (ds : List DeltaLists) (led : AreLed was is ds) (u : User) (none : HasNothing is u) where
  abbrev home : ℕ
  home = user_part (length ds) u

  within : home < length ds
  within = user-home (length ds) u led.some

  -- of one side
  module _ (now gone : DeltaLists → List Pair) (before after : User → List Half) (empty : after u ≡ []) (more : (w : User)
      → is_some (half_to (before u) w) ≡ true → is_some (half_to (after u) w) ≡ true)
      (each-now : (p : ℕ) → p < length ds → HasJust (λ q. is_now (pair_in (λ x. if_here (user_part (length ds) x == p) (before x)) q)
      (pair_in (λ x. if_here (user_part (length ds) x == p) (after x)) q)) (now (delta_at ds p)))
      (each-gone : (p : ℕ) → p < length ds → HasJust (λ q. is_gone (pair_in (λ x. if_here (user_part (length ds) x == p) (before x)) q)
      (pair_in (λ x. if_here (user_part (length ds) x == p) (after x)) q)) (gone (delta_at ds p))) where
    is-none : (w : User) → half_to (after u) w ≡ None
    is-none w = ap (λ (hs : List Half). half_to hs w) empty

    was-none : (w : User) → half_to (before u) w ≡ None
    was-none w = here (half_to (before u) w) refl
      where
        here : (o : Option Half) → half_to (before u) w ≡ o → o ≡ None
        here None e = refl
        here (Some h) e = absurd (both_ways (is_some (half_to (after u) w)) (ap (λ (o : Option Half). is_some o) (is-none w)) (more w (ap
            (λ (o : Option Half). is_some o) e)))

    pub none-now : list_any (λ d. list_any (is_of u) (now d)) ds ≡ false
    none-now = pairs-all now u ds (λ w.
        any-home ds home within (λ d. list_any (is_to u w) (now d)) (λ b. is_now (half_to (if_here b (before u)) w) (half_to (if_here b
        (after u)) w)) refl (λ p lt. any-just _ _ (each-now p lt) u w)
        ∙ ap (λ (o : Option Half). is_now (half_to (before u) w) o) (is-none w))

    pub none-gone : list_any (λ d. list_any (is_of u) (gone d)) ds ≡ false
    none-gone = pairs-all gone u ds (λ w.
        any-home ds home within (λ d. list_any (is_to u w) (gone d)) (λ b. is_gone (half_to (if_here b (before u)) w) (half_to (if_here b
        (after u)) w)) refl (λ p lt. any-just _ _ (each-gone p lt) u w)
        ∙ ap (λ (o : Option Half). is_gone o (half_to (after u) w)) (was-none w))

  none-uses : list_any (λ d. list_any (λ (x : UseRow). same_user u x.user) d.uses) ds ≡ false
  none-uses = rows-all u ds (λ t.
      any-home ds home within (λ d. list_any (is-use u t) d.uses) (λ b. is_some (use_of (if_here b (is.uses u)) t) && not (is_some
      (use_of (if_here b (was.uses u)) t))) refl (λ p lt. any-use u t _ _ _ ((led.each p lt).uses u t))
      ∙ ap (λ (xs : List Use). is_some (use_of xs t) && not (is_some (use_of (was.uses u) t))) none.uses)

  none-rewired : (s : Side) → is_rewired s ds u ≡ false
  none-rewired side.In = any-or (λ d. list_any (is_of u) d.now_in) (λ d. list_any (is_of u) d.gone_in) ds
      (none-now (λ d. d.now_in) (λ d. d.gone_in) was.inn is.inn none.inn (more-in was is led.before led.after led.grows u) (λ p lt.
      (led.each p lt).now_in) (λ p lt. (led.each p lt).gone_in))
      (none-gone (λ d. d.now_in) (λ d. d.gone_in) was.inn is.inn none.inn (more-in was is led.before led.after led.grows u) (λ p lt.
      (led.each p lt).now_in) (λ p lt. (led.each p lt).gone_in))
  none-rewired side.Out = any-or (λ d. list_any (is_of u) d.now_out) (λ d. list_any (is_of u) d.gone_out) ds
      (none-now (λ d. d.now_out) (λ d. d.gone_out) was.out is.out none.out (led.grows.out u) (λ p lt. (led.each p lt).now_out) (λ p lt.
      (led.each p lt).gone_out))
      (none-gone (λ d. d.now_out) (λ d. d.gone_out) was.out is.out none.out (led.grows.out u) (λ p lt. (led.each p lt).now_out) (λ p lt.
      (led.each p lt).gone_out))

  none-touched : is_touched ds u ≡ false
  none-touched = any-or (λ d. list_any (is_of u) d.now_out || list_any (is_of u) d.gone_out) (λ d. list_any (λ
      (x : UseRow). same_user u x.user) d.uses) ds (none-rewired side.Out) none-uses

pub touched-law : TouchedLaw
touched-law was is ds led u = (here (is_vertex is u) refl, λ s. there s (is_vertex is u) refl)
  where
    here : (b : Bool) → is_vertex is u ≡ b → is_touched ds u ≡ true → b ≡ true
    here true e h = refl
    here false e h = absurd (both_ways (is_touched ds u) (none-touched was is ds led u (has-nothing is u e)) h)

    there : (s : Side) (b : Bool) → is_vertex is u ≡ b → is_rewired s ds u ≡ true → b ≡ true
    there s true e h = refl
    there s false e h = absurd (both_ways (is_rewired s ds u) (none-rewired was is ds led u (has-nothing is u e) s) h)
