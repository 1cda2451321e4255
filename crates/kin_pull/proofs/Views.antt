-- What a view hands out of neighbours and facts, and how it differs from an earlier one.
use Rattle.std.proofs.Common.{◌≡◌, ◌<◌, ◌+◌, ◌-◌, ◌∙◌, ◌||◌, ◌&&◌, ◌==◌, not, ℕ, zero, suc, Bool, true, false, cond, List, [], ◌∷◌, ◌++◌}
use Rattle.std.proofs.Common.{map, filter, length, count_by, slice_index_or, Option, Some, None, arith, refl, sym, ap, ap₂, subst}
use Rattle.std.specs.List.{list_any, flat_map}
use Rattle.std.specs.List.Sorted.{IsPermutation}
use Rattle.std.proofs.lemmas.Bool.{both_ways, or_parts, or_right, and_parts}
use Rattle.std.proofs.lemmas.List.{append-nil}
use Rattle.std.proofs.lemmas.List.Sums.{sum_by-cons}
use Rattle.std.proofs.lemmas.List.Sorted.{IsPermutation-trans, IsPermutation-append_left}
use Rattle.kin_ids.specs.declared.ids.User.{User}
use Rattle.kin_ids.specs.declared.ops.Half.{Half}
use Rattle.kin_ids.specs.declared.ops.Use.{Use}
use Rattle.kin_ids.specs.Users.{same_user, same_tag, has_user}
use Rattle.kin_ids.specs.Follows.{IsOnce}
use Rattle.kin_ids.specs.Parting.{user_part}
use Rattle.kin_ids.specs.Parts.{PartView, if_here}
use Rattle.kin_ids.proofs.Same.{same_user-true, same_user-refl, same_tag-true, same_tag-refl, list_any-weaker}
use Rattle.kin_store.specs.declared.pairs.Pair.{Pair}
use Rattle.kin_store.specs.Lists.{half_key, use_key, half_to, use_of}
use Rattle.kin_graph.specs.declared.deltas.UseRow.{UseRow}
use Rattle.kin_graph.specs.Deltas.{DeltaLists, no_change, is_present, is_now, is_gone, new_use, pair_in, HasJust}
use Rattle.kin_graph.specs.Rows.{is_none}
use Rattle.kin_graph.specs.Views.{is_vertex}
use Rattle.std.proofs.lemmas.Bool.Decides.{nat_tests}
use Rattle.kin_changes.specs.Told.{is_of, is_to, pairs_of}
use Rattle.kin_changes.specs.Views.{AreLed, IsWholeView, delta_at}
use Rattle.kin_changes.proofs.Counts.{counts-law}
use Rattle.kin_changes.proofs.Homes.{any-home, user-home, any-just, any-filter, has-some, at-home, elsewhere}
use Rattle.kin_rules.specs.declared.pull_rules.Side.{Side}
use Rattle.kin_rules.specs.declared.pull_rules.Side.TheVariants as side
use Rattle.kin_rules.specs.declared.pull_rules.Facts.{Facts}
use Rattle.kin_rules.specs.Layers.{AreSameFacts}
use Rattle.kin_rules.specs.LayerTables.{present_ends, neighbours_seen, facts_seen}
use Rattle.kin_pull.specs.Begins.{facts_after, uses_told, is_touched, is_rewired}
use Rattle.kin_pull.specs.States.{opposite}
use Rattle.kin_pull.proofs.Permuted.{one_of, filter-none, filter-append, filters-permuted, once-filter}

-- who is among present ends is among all
ends-weaker : (hs : List Half) (w : User) → has_user (present_ends hs) w ≡ true → has_user (map half_key hs) w ≡ true
ends-weaker [] w h = h
ends-weaker (x ∷ hs) w h = here x.present h (ends-weaker hs w)
  where
    this : (b : Bool) → (b || has_user (present_ends hs) w) ≡ true → (has_user (present_ends hs) w ≡ true
        → has_user (map half_key hs) w ≡ true) → (b || has_user (map half_key hs) w) ≡ true
    this true k more = refl
    this false k more = more k

    here : (p : Bool) → has_user (map (λ (q : Half). q.other) (cond p (x ∷ filter (λ q. q.present) hs) (filter (λ q. q.present) hs))) w
        ≡ true → (has_user (present_ends hs) w ≡ true → has_user (map half_key hs) w ≡ true)
        → (same_user w x.other || has_user (map half_key hs) w) ≡ true
    here true k more = this (same_user w x.other) k more
    here false k more = or_right (same_user w x.other) (has_user (map half_key hs) w) (more k)

abbrev pub one_when : Bool → User → List User
one_when true w = w ∷ []
one_when false w = []

ends-none : (hs : List Half) (w : User) → has_user (map half_key hs) w ≡ false → filter (same_user w) (present_ends hs) ≡ []
ends-none hs w out = filter-none (same_user w) (present_ends hs) (here (has_user (present_ends hs) w) refl)
  where
    here : (b : Bool) → has_user (present_ends hs) w ≡ b → b ≡ false
    here false e = refl
    here true e = absurd (both_ways (has_user (map half_key hs) w) out (ends-weaker hs w e))

-- the present end w, where its half is present
pub ends-filter : (hs : List Half) (w : User) → IsOnce same_user (map half_key hs)
    → filter (same_user w) (present_ends hs) ≡ one_when (is_present (half_to hs w)) w
ends-filter [] w once = refl
ends-filter (x ∷ hs) w once = here x.present (same_user w x.other) refl refl (ends-filter hs w once.1)
  where
    here : (p s : Bool) → x.present ≡ p → same_user w x.other ≡ s → filter (same_user w) (present_ends hs)
        ≡ one_when (is_present (half_to hs w)) w
        → filter (same_user w) (map (λ (q : Half). q.other) (cond p (x ∷ filter (λ q. q.present) hs) (filter (λ q. q.present) hs)))
        ≡ one_when (is_present (cond s (Some x) (half_to hs w))) w
    here true true e t more =
        let is : w ≡ x.other = same_user-true w x.other t in
        let none : filter (same_user w) (present_ends hs) ≡ [] = ends-none hs w (subst (λ (z : User). has_user (map half_key hs) z
        ≡ false) (sym is) once.0) in
        rw (t, e) (ap₂ (λ (z : User) (zs : List User). z ∷ zs) (sym is) none)
    here true false e t more = rw t more
    here false true e t more = rw e (ends-none hs w (subst (λ (z : User). has_user (map half_key hs) z
        ≡ false) (sym (same_user-true w x.other t)) once.0))
    here false false e t more = more

has-when : (b : Bool) (w : User) → has-some (one_when b w) ≡ b
has-when true w = refl
has-when false w = refl

pub ends-has : (hs : List Half) (w : User) → IsOnce same_user (map half_key hs) → has_user (present_ends hs) w ≡ is_present (half_to hs w)
ends-has hs w once = any-filter (same_user w) (present_ends hs) ∙ (ap (λ (us : List User). has-some us) (ends-filter hs w once)
    ∙ has-when (is_present (half_to hs w)) w)

pub ends-permuted : (was is : List Half) → IsOnce same_user (map half_key was) → IsOnce same_user (map half_key is) → ((w : User)
    → is_present (half_to is w) ≡ is_present (half_to was w))
    → IsPermutation (present_ends is) (present_ends was)
ends-permuted was is once again same = filters-permuted same_user same_user-true same_user-refl (λ (u : User). u) (present_ends is)
    (present_ends was)
    (λ w. ends-filter is w again ∙ (ap (λ (b : Bool). one_when b w) (same w) ∙ sym (ends-filter was w once)))

pub none-cons : {X : Type 0} (x : X) (xs : List X) → is_none (x ∷ xs) ≡ false
none-cons x xs = grind (arith, nat_tests)

-- edges from both ends, and vertices
module _ (v : PartView) (whole : IsWholeView v) where
  pub ends-both : (s : Side) (x y : User) → has_user (neighbours_seen s v x) y ≡ has_user (neighbours_seen (opposite s) v y) x
  ends-both side.In x y = ends-has (v.inn x) y (whole.in_once x) ∙ (sym (whole.present y x) ∙ sym (ends-has (v.out y) x (whole.out_once y)))
  ends-both side.Out x y = ends-has (v.out x) y (whole.out_once x) ∙ (whole.present x y ∙ sym (ends-has (v.inn y) x (whole.in_once y)))

  some-half : (hs : List Half) (w : User) → has_user (present_ends hs) w ≡ true → {P : Type 0} → (hs ≡ [] → P)
      → ((h : Half) (rest : List Half) → hs ≡ h ∷ rest → P) → P
  some-half [] w h none one = absurd cc
  some-half (x ∷ hs) w h none one = one x hs refl

  out-vertex : (x y : User) → has_user (present_ends (v.out x)) y ≡ true → is_vertex v x ≡ true
  out-vertex x y h = some-half (v.out x) y h (λ e. absurd (both_ways (has_user (present_ends (v.out x)) y) (ap (λ
      (hs : List Half). has_user (present_ends hs) y) e) h)) (λ a rest e. rw (e, none-cons a rest) refl)

  in-vertex : (x y : User) → has_user (present_ends (v.inn x)) y ≡ true → is_vertex v x ≡ true
  in-vertex x y h =
      some-half (v.inn x) y h (λ e. absurd (both_ways (has_user (present_ends (v.inn x)) y) (ap (λ (hs : List Half). has_user
      (present_ends hs) y) e) h)) (λ a rest e. rw (e, none-cons a rest) (here (is_none (v.out x)) (is_none (v.mentions x) && is_none
      (v.mentioners x)) (is_none (v.uses x))))
    where
      here : (a b c : Bool) → not (((a && false) && b) && c) ≡ true
      here true b c = refl
      here false b c = refl

  pub neighbour-vertices : (s : Side) (x y : User) → has_user (neighbours_seen s v x) y ≡ true
      → (is_vertex v x ≡ true) × (is_vertex v y ≡ true)
  neighbour-vertices side.In x y h = (in-vertex x y h, out-vertex y x (sym (ends-both side.In x y) ∙ h))
  neighbour-vertices side.Out x y h = (out-vertex x y h, in-vertex y x (sym (ends-both side.Out x y) ∙ h))

-- what one of a list gives alone
module _ {X Y : Type 0} (f : X → List Y) (z : X) where
  flat-none : (xs : List X) → ((p : ℕ) → p < length xs → f (slice_index_or xs p z) ≡ []) → flat_map f xs ≡ []
  flat-none [] none = refl
  flat-none (x ∷ xs) none = ap₂ (λ (a b : List Y). a ++ b) (none 0 (omega arith)) (flat-none xs (λ p lt. none (suc p) (omega arith)))

  pub flat-at : (k : ℕ) (xs : List X) → k < length xs → ((p : ℕ) → p < length xs → (p ≡ k → ⊥) → f (slice_index_or xs p z) ≡ [])
      → flat_map f xs ≡ f (slice_index_or xs k z)
  flat-at k [] lt none = absurd (omega arith)
  flat-at zero (x ∷ xs) lt none = ap (λ (ys : List Y). f x ++ ys) (flat-none xs (λ p within. none (suc p) (omega arith)
      (λ e. omega arith))) ∙ append-nil (f x)
  flat-at (suc k) (x ∷ xs) lt none =
      ap (λ (ys : List Y). ys ++ flat_map f xs) (none 0 (omega arith) (λ e. omega arith))
      ∙ flat-at k xs (omega arith) (λ p within other. none (suc p) (omega arith) (λ e. other (omega (arith, e))))

-- what deltas tell of one user
any-of : (u w : User) (ps : List Pair) → list_any (is_of u) ps ≡ false → list_any (is_to u w) ps ≡ false
any-of u w ps off = list_any-weaker (is_to u w) (is_of u) ps (λ p t. (and_parts (same_user u p.user) (same_user w p.other) t).0) off

any-all : (p q : DeltaLists → Bool) (ds : List DeltaLists) → ((d : DeltaLists) → p d ≡ false → q d ≡ false) → list_any p ds ≡ false
    → list_any q ds ≡ false
any-all p q [] h off = refl
any-all p q (d ∷ ds) h off = let parts = or_parts (p d) (list_any p ds) off in rw (h d parts.0) (any-all p q ds h parts.1)

same-present : (a b : Option Half) → is_now a b ≡ false → is_gone a b ≡ false → is_present b ≡ is_present a
same-present a b now gone = here (is_present a) (is_present b) now gone
  where
    here : (p q : Bool) → (q && not p) ≡ false → (p && not q) ≡ false → q ≡ p
    here true true n g = refl
    here true false n g = absurd cc
    here false true n g = absurd cc
    here false false n g = refl

module _ (was is : PartView) (ds : List DeltaLists) (led : AreLed was is ds) (u : User) where
  abbrev home : ℕ
  home = user_part (length ds) u

  within : home < length ds
  within = user-home (length ds) u led.some

  -- of a side's halves: who isn't told of is present as before
  module _ (now gone : DeltaLists → List Pair) (before after : User → List Half)
      (each-now : (p : ℕ) → p < length ds → HasJust (λ q. is_now (pair_in (λ x. if_here (user_part (length ds) x == p) (before x)) q)
      (pair_in (λ x. if_here (user_part (length ds) x == p) (after x)) q)) (now (delta_at ds p)))
      (each-gone : (p : ℕ) → p < length ds → HasJust (λ q. is_gone (pair_in (λ x. if_here (user_part (length ds) x == p) (before x)) q)
      (pair_in (λ x. if_here (user_part (length ds) x == p) (after x)) q)) (gone (delta_at ds p)))
      (off : list_any (λ d. list_any (is_of u) (now d) || list_any (is_of u) (gone d)) ds ≡ false) where
    still-present : (w : User) → is_present (half_to (after u) w) ≡ is_present (half_to (before u) w)
    still-present w = same-present (half_to (before u) w) (half_to (after u) w)
        (sym (any-home ds home within (λ d. list_any (is_to u w) (now d)) (λ b. is_now (half_to (if_here b (before u)) w) (half_to
        (if_here b (after u)) w)) refl (λ p lt. any-just _ _ (each-now p lt) u w))
        ∙ any-all _ (λ d. list_any (is_to u w) (now d)) ds (λ d h. any-of u w (now d) (or_parts (list_any (is_of u) (now d)) (list_any
        (is_of u) (gone d)) h).0) off)
        (sym (any-home ds home within (λ d. list_any (is_to u w) (gone d)) (λ b. is_gone (half_to (if_here b (before u)) w) (half_to
        (if_here b (after u)) w)) refl (λ p lt. any-just _ _ (each-gone p lt) u w))
        ∙ any-all _ (λ d. list_any (is_to u w) (gone d)) ds (λ d h. any-of u w (gone d) (or_parts (list_any (is_of u) (now d)) (list_any
        (is_of u) (gone d)) h).1) off)

  -- inputs that neither came nor went, in any order
  pub inputs-permuted : (s : Side) → is_rewired s ds u ≡ false → IsPermutation (neighbours_seen s is u) (neighbours_seen s was u)
  inputs-permuted side.In off = ends-permuted (was.inn u) (is.inn u) (led.before.in_once u) (led.after.in_once u)
      (still-present (λ d. d.now_in) (λ d. d.gone_in) was.inn is.inn (λ p lt. (led.each p lt).now_in) (λ p lt. (led.each p lt).gone_in) off)
  inputs-permuted side.Out off = ends-permuted (was.out u) (is.out u) (led.before.out_once u) (led.after.out_once u)
      (still-present (λ d. d.now_out) (λ d. d.gone_out) was.out is.out (λ p lt. (led.each p lt).now_out) (λ p lt.
      (led.each p lt).gone_out) off)

  -- the new first uses are told at home
  abbrev entries : DeltaLists → List Use
  entries d = map (λ (x : UseRow). x.entry) (filter (λ (x : UseRow). same_user u x.user) d.uses)

  abbrev tagged : List ℕ → Use → Bool
  tagged t x = same_tag t x.tag

  filter-entries : (t : List ℕ) (xs : List UseRow) → filter (tagged t) (map (λ (x : UseRow). x.entry) (filter (λ
      (x : UseRow). same_user u x.user) xs)) ≡ map (λ (x : UseRow). x.entry) (filter (λ
      (x : UseRow). same_user u x.user && same_tag t x.entry.tag) xs)
  filter-entries t [] = refl
  filter-entries t (x ∷ xs) = here (same_user u x.user) (same_tag t x.entry.tag) refl (filter-entries t xs)
    where
      rest : List UseRow
      rest = filter (λ (y : UseRow). same_user u y.user && same_tag t y.entry.tag) xs

      here : (a b : Bool) → same_tag t x.entry.tag ≡ b → filter (tagged t) (map (λ (y : UseRow). y.entry) (filter (λ
          (y : UseRow). same_user u y.user) xs)) ≡ map (λ (y : UseRow). y.entry) rest
          → filter (tagged t) (map (λ (y : UseRow). y.entry) (cond a (x ∷ filter (λ (y : UseRow). same_user u y.user) xs) (filter (λ
          (y : UseRow). same_user u y.user) xs))) ≡ map (λ (y : UseRow). y.entry) (cond (a && b) (x ∷ rest) rest)
      here true true e more = rw e (ap (λ (ys : List Use). x.entry ∷ ys) more)
      here true false e more = rw e more
      here false b e more = more

  abbrev told : List ℕ → Bool → List Use
  told t b = map (λ (x : UseRow). x.entry) (new_use u (use_of (if_here b (was.uses u)) t) (use_of (if_here b (is.uses u)) t))

  told-at : (t : List ℕ) (p : ℕ) → p < length ds → filter (tagged t) (entries (delta_at ds p)) ≡ told t (home == p)
  told-at t p lt = filter-entries t (delta_at ds p).uses ∙ ap (λ (xs : List UseRow). map (λ (x : UseRow). x.entry) xs)
      ((led.each p lt).uses u t)

  flat-filter : (t : List ℕ) (es : List DeltaLists) → filter (tagged t) (flat_map entries es)
      ≡ flat_map (λ d. filter (tagged t) (entries d)) es
  flat-filter t [] = refl
  flat-filter t (d ∷ es) = filter-append (tagged t) (entries d) (flat_map entries es)
      ∙ ap (λ (xs : List Use). filter (tagged t) (entries d) ++ xs) (flat-filter t es)

  told-all : (t : List ℕ) → filter (tagged t) (uses_told ds u) ≡ told t true
  told-all t = flat-filter t ds ∙ (flat-at (λ d. filter (tagged t) (entries d)) no_change home ds within (λ p lt other. elsewhere
      (told t) _ home p other (told-at t p lt)) ∙ at-home (told t) _ home (told-at t home within))

  pub uses-permuted : IsPermutation (was.uses u ++ uses_told ds u) (is.uses u)
  uses-permuted = filters-permuted same_tag same_tag-true same_tag-refl use_key (was.uses u ++ uses_told ds u) (is.uses u) each
    where
      joined : (t : List ℕ) (a b : Option Use) → use_of (was.uses u) t ≡ a → use_of (is.uses u) t ≡ b
          → one_of a ++ map (λ (x : UseRow). x.entry) (new_use u a b) ≡ one_of b
      joined t None None e f = refl
      joined t None (Some x) e f = refl
      joined t (Some x) None e f = let k : None ≡ Some x = sym f ∙ led.grows.uses u t x e in absurd cc
      joined t (Some x) (Some y) e f = let k : Some y ≡ Some x = sym f ∙ led.grows.uses u t x e in let same : x
          ≡ y = cc in ap (λ (z : Use). z ∷ []) same

      each : (t : List ℕ) → filter (tagged t) (was.uses u ++ uses_told ds u) ≡ filter (tagged t) (is.uses u)
      each t =
          filter-append (tagged t) (was.uses u) (uses_told ds u)
          ∙ (ap₂ (λ (xs ys : List Use). xs ++ ys) (once-filter same_tag same_tag-true same_tag-refl use_key (was.uses u)
          (led.before.uses_once u) t) (told-all t)
          ∙ (joined t (use_of (was.uses u) t) (use_of (is.uses u) t) refl refl
          ∙ sym (once-filter same_tag same_tag-true same_tag-refl use_key (is.uses u) (led.after.uses_once u) t)))

  -- facts of before lead to those of the later view
  pub facts-led : (f : Facts) → AreSameFacts f (facts_seen was u) → AreSameFacts (facts_after ds u f) (facts_seen is u)
  facts-led f same = record {
    user = same.user;
    following = let counts = (counts-law was is ds led).outs u in let had = same.following in omega (arith, counts, had);
    uses = IsPermutation-trans (f.uses ++ uses_told ds u) (was.uses u ++ uses_told ds u) (is.uses u) (IsPermutation-append_left
        (uses_told ds u) f.uses (was.uses u) same.uses) uses-permuted;
  }

-- of whom nothing is told, the facts stay
none-counted : {X : Type 0} (q : X → Bool) (xs : List X) → list_any q xs ≡ false → count_by q xs ≡ 0
none-counted q [] none = refl
none-counted q (x ∷ xs) none =
    let parts = or_parts (q x) (list_any q xs) none in
    sum_by-cons (λ y. cond (q y) 1 0) x xs ∙ rw parts.0 (omega (arith, none-counted q xs parts.1))

no-pairs : (lists : DeltaLists → List Pair) (u : User) (ds : List DeltaLists) → list_any (λ d. list_any (is_of u) (lists d)) ds ≡ false
    → pairs_of lists ds u ≡ 0
no-pairs lists u [] off = refl
no-pairs lists u (d ∷ ds) off =
    let parts = or_parts (list_any (is_of u) (lists d)) (list_any (λ d. list_any (is_of u) (lists d)) ds) off in
    sum_by-cons (λ d. count_by (is_of u) (lists d)) d ds ∙ omega (
      arith,
      none-counted (is_of u)
          (lists d) parts.0,
      no-pairs lists u ds parts.1,
    )

no-uses : (u : User) (ds : List DeltaLists) → list_any (λ d. list_any (λ (x : UseRow). same_user u x.user) d.uses) ds ≡ false
    → uses_told ds u ≡ []
no-uses u [] off = refl
no-uses u (d ∷ ds) off =
    let parts = or_parts (list_any (λ (x : UseRow). same_user u x.user) d.uses) (list_any (λ d. list_any (λ
    (x : UseRow). same_user u x.user) d.uses) ds) off in
    ap₂ (λ (xs : List UseRow) (ys : List Use). map (λ (x : UseRow). x.entry) xs ++ ys) (filter-none (λ
    (x : UseRow). same_user u x.user) d.uses parts.0) (no-uses u ds parts.1)

pub facts-still : (ds : List DeltaLists) (u : User) (f : Facts) → is_touched ds u ≡ false → facts_after ds u f ≡ f
facts-still ds u f off =
    let now : pairs_of (λ d. d.now_out) ds u ≡ 0 = no-pairs (λ d. d.now_out) u ds (any-all _ (λ d. list_any (is_of u) d.now_out) ds
    (λ d h. (or_parts _ _ (or_parts _ _ h).0).0) off) in
    let gone : pairs_of (λ d. d.gone_out) ds u ≡ 0 = no-pairs (λ d. d.gone_out) u ds (any-all _ (λ d. list_any (is_of u) d.gone_out) ds
    (λ d h. (or_parts _ _ (or_parts _ _ h).0).1) off) in
    let uses : uses_told ds u ≡ [] = no-uses u ds (any-all _ (λ d. list_any (λ (x : UseRow). same_user u x.user) d.uses) ds (λ d h.
    (or_parts _ _ h).1) off) in
    let following : (f.following + pairs_of (λ d. d.now_out) ds u) - pairs_of (λ d. d.gone_out) ds u
    ≡ f.following = omega (arith, now, gone) in
    let all : f.uses ++ uses_told ds u ≡ f.uses = ap (λ (xs : List Use). f.uses ++ xs) uses ∙ append-nil f.uses in
    λ i. record { user = f.user; following = following i; uses = all i }
