-- How far exposures reach: those whom a user follows and who used a tag before it are different users of the tag, and not the user itself.
use Rattle.std.proofs.Common.{◌≡◌, ◌≤◌, ◌<◌, ◌+◌, ◌==◌, ◌&&◌, ◌∙◌, ◌⊎◌, inl, inr, ℕ, zero, suc, Bool, true, false, List, [], ◌∷◌, length, cond, filter, map, arith, refl, sym, subst}
use Rattle.std.specs.List.{list_any, count_by, sum_by, range_with_len}
use Rattle.std.proofs.lemmas.Bool.{or_cases, or_left, or_right, or_parts, and_parts, and_from, and_left, and_right, both_ways, false_from_ne_true, cases_Bool}
use Rattle.std.proofs.Math.Bool.{and-true}
use Rattle.std.proofs.lemmas.Bool.Decides.{nat_tests}
use Rattle.std.proofs.lemmas.List.{length-map}
use Rattle.std.proofs.lemmas.List.Sums.{sum_by-cons, length-filter}
use Rattle.kin_ids.specs.declared.ids.User.{User}
use Rattle.kin_ids.specs.declared.ops.Half.{Half}
use Rattle.kin_ids.specs.declared.stamps.Place.{Place}
use Rattle.kin_ids.specs.Users.{same_user, same_tag, has_user, is_before}
use Rattle.kin_ids.specs.Graph.{Graph, Edge, TagUse, is_edge, is_use, half_out, outs, tag_users}
use Rattle.kin_ids.specs.Follows.{IsOnce, IsSound}
use Rattle.kin_ids.proofs.Same.{same_user-true, same_user-refl, same_tag-true, same_tag-refl, same_user-sym, same_tag-sym}
use Rattle.kin_rules.specs.Counts.{tag_count}
use Rattle.kin_rules.specs.Kept.{Within}
use Rattle.kin_rules.specs.Exposure.{used_before, earlier_followed, ExposuresAreFew, ExposuresAddUp}
use Rattle.kin_rules.proofs.Simple.{pigeons}

never-before : (a : Place) → is_before a a ≡ false
never-before a = grind (arith, nat_tests)

-- x is one of the list
abbrev IsIn : {X : Type 0} → X → List X → Type 0
IsIn x [] = ⊥
IsIn x (y ∷ ys) = (x ≡ y) ⊎ IsIn x ys

-- a use of the same user and tag is that use
is-use-self : (x : TagUse) → is_use x.user x.tag x ≡ true
is-use-self x = and_from (same_user x.user x.user) (same_tag x.tag x.tag) (same_user-refl x.user) (same_tag-refl x.tag)

use-found : (u : User) (t : List ℕ) (x : TagUse) (xs : List TagUse) → IsIn x xs → is_use u t x ≡ true → list_any (is_use u t) xs ≡ true
use-found u t x [] i h = absurd i
use-found u t x (y ∷ ys) (inl e) h = or_left (is_use u t y) (list_any (is_use u t) ys) (subst (λ (z : TagUse). is_use u t z ≡ true) e h)
use-found u t x (y ∷ ys) (inr i) h = or_right (is_use u t y) (list_any (is_use u t) ys) (use-found u t x ys i h)

is-use-flip : (x y : TagUse) → is_use x.user x.tag y ≡ true → is_use y.user y.tag x ≡ true
is-use-flip x y h =
    let k = and_parts (same_user x.user y.user) (same_tag x.tag y.tag) h in
    and_from (same_user y.user x.user) (same_tag y.tag x.tag) (same_user-sym y.user x.user ∙ k.0) (same_tag-sym y.tag x.tag ∙ k.1)

none-weaker : (p q : TagUse → Bool) (xs : List TagUse) → list_any p xs ≡ false → list_any (λ y. p y && q y) xs ≡ false
none-weaker p q [] h = refl
none-weaker p q (x ∷ xs) h = let k = or_parts (p x) (list_any p xs) h in rw (k.0, none-weaker p q xs k.1) refl

not-own : (x : TagUse) (xs : List TagUse) → IsOnce (λ y. is_use y.user y.tag) xs → IsIn x xs → list_any (λ y. is_use x.user x.tag y && is_before y.first x.first) xs ≡ false
not-own x [] once i = refl
not-own x (y ∷ ys) once (inl e) =
    subst (λ (z : TagUse). list_any (λ y'. is_use z.user z.tag y' && is_before y'.first z.first) (y ∷ ys) ≡ false) (sym e)
    (rw (and_right (is_use y.user y.tag y) (is_before y.first y.first) (never-before y.first)) (none-weaker (is_use y.user y.tag) (λ z. is_before z.first y.first) ys once.0))
not-own x (y ∷ ys) once (inr i) =
    let other : is_use x.user x.tag y ≡ false =
    false_from_ne_true (is_use x.user x.tag y) (λ h. both_ways (list_any (is_use y.user y.tag) ys) once.0 (use-found y.user y.tag x ys i (is-use-flip x y h))) in
    rw (and_left (is_use x.user x.tag y) (is_before y.first x.first) other) (not-own x ys once.1 i)

-- who used a tag before is a user of it
used-there : (w : User) (t : List ℕ) (at : Place) (xs : List TagUse) → list_any (λ y. is_use w t y && is_before y.first at) xs ≡ true → has_user (map (λ (y : TagUse). y.user) (filter (λ y. same_tag t y.tag) xs)) w ≡ true
used-there w t at [] h = absurd cc
used-there w t at (y ∷ ys) h = here (same_tag t y.tag) refl (or_cases (is_use w t y && is_before y.first at) (list_any (λ z. is_use w t z && is_before z.first at) ys) h) (used-there w t at ys)
  where
    users : List User
    users = map (λ (z : TagUse). z.user) (filter (λ z. same_tag t z.tag) ys)

    here : (b : Bool) → same_tag t y.tag ≡ b → ((is_use w t y && is_before y.first at) ≡ true) ⊎ (list_any (λ z. is_use w t z && is_before z.first at) ys ≡ true)
        → (list_any (λ z. is_use w t z && is_before z.first at) ys ≡ true → has_user users w ≡ true)
        → has_user (map (λ (z : TagUse). z.user) (cond b (y ∷ filter (λ z. same_tag t z.tag) ys) (filter (λ z. same_tag t z.tag) ys))) w ≡ true
    here true q (inr k) old = or_right (same_user w y.user) (has_user users w) (old k)
    here false q (inr k) old = old k
    here true q (inl k) old = or_left (same_user w y.user) (has_user users w) (and_parts (same_user w y.user) (same_tag t y.tag) (and_parts (is_use w t y) (is_before y.first at) k).0).0
    here false q (inl k) old = absurd (both_ways (same_tag t y.tag) q (and_parts (same_user w y.user) (same_tag t y.tag) (and_parts (is_use w t y) (is_before y.first at) k).0).1)

own-there : (x : TagUse) (t : List ℕ) (xs : List TagUse) → IsIn x xs → same_tag t x.tag ≡ true → has_user (map (λ (y : TagUse). y.user) (filter (λ y. same_tag t y.tag) xs)) x.user ≡ true
own-there x t [] i h = absurd i
own-there x t (y ∷ ys) i h = here (same_tag t y.tag) refl i (λ k. own-there x t ys k h)
  where
    users : List User
    users = map (λ (z : TagUse). z.user) (filter (λ z. same_tag t z.tag) ys)

    here : (b : Bool) → same_tag t y.tag ≡ b → (x ≡ y) ⊎ IsIn x ys → (IsIn x ys → has_user users x.user ≡ true)
        → has_user (map (λ (z : TagUse). z.user) (cond b (y ∷ filter (λ z. same_tag t z.tag) ys) (filter (λ z. same_tag t z.tag) ys))) x.user ≡ true
    here true q (inl e) old = or_left (same_user x.user y.user) (has_user users x.user) (subst (λ (z : TagUse). same_user x.user z.user ≡ true) e (same_user-refl x.user))
    here false q (inl e) old = absurd (both_ways (same_tag t y.tag) q (subst (λ (z : TagUse). same_tag t z.tag ≡ true) e h))
    here true q (inr k) old = or_right (same_user x.user y.user) (has_user users x.user) (old k)
    here false q (inr k) old = old k

-- those halves that pass a test, by their other ends
abbrev passing : (User → Bool) → List Half → List User
passing test hs = map (λ (h : Half). h.other) (filter (λ (h : Half). h.present && test h.other) hs)

passing-pass : (test : User → Bool) (hs : List Half) (w : User) → has_user (passing test hs) w ≡ true → test w ≡ true
passing-pass test [] w h = absurd cc
passing-pass test (x ∷ xs) w h = here (x.present && test x.other) refl h (passing-pass test xs w)
  where
    here : (b : Bool) → (x.present && test x.other) ≡ b → has_user (map (λ (h : Half). h.other) (cond b (x ∷ filter (λ (h : Half). h.present && test h.other) xs) (filter (λ (h : Half). h.present && test h.other) xs))) w ≡ true
        → (has_user (passing test xs) w ≡ true → test w ≡ true) → test w ≡ true
    here false q h old = old h
    here true q h old = this (or_cases (same_user w x.other) (has_user (passing test xs) w) h)
      where
        this : (same_user w x.other ≡ true) ⊎ (has_user (passing test xs) w ≡ true) → test w ≡ true
        this (inl k) = subst (λ (z : User). test z ≡ true) (sym (same_user-true w x.other k)) (and_parts x.present (test x.other) q).1
        this (inr k) = old k

passing-among : (test : User → Bool) (hs : List Half) (vs : List User) → ((w : User) → test w ≡ true → has_user vs w ≡ true) → Within (passing test hs) vs
passing-among test [] vs among = tt
passing-among test (x ∷ xs) vs among = here (x.present && test x.other) refl (passing-among test xs vs among)
  where
    here : (b : Bool) → (x.present && test x.other) ≡ b → Within (passing test xs) vs
        → Within (map (λ (h : Half). h.other) (cond b (x ∷ filter (λ (h : Half). h.present && test h.other) xs) (filter (λ (h : Half). h.present && test h.other) xs))) vs
    here false q old = old
    here true q old = (among x.other (and_parts x.present (test x.other) q).1, old)

-- an end that passes is the end of an edge out of u
passing-edge : (test : User → Bool) (u w : User) (es : List Edge) → has_user (passing test (map half_out (filter (λ e. same_user u e.start) es))) w ≡ true → list_any (is_edge u w) es ≡ true
passing-edge test u w [] h = absurd cc
passing-edge test u w (e ∷ es) h = here (same_user u e.start) refl h (passing-edge test u w es)
  where
    halves : List Half
    halves = map half_out (filter (λ d. same_user u d.start) es)

    kept : (b : Bool) → same_user u e.start ≡ true → has_user (map (λ (h : Half). h.other) (cond b (half_out e ∷ filter (λ (h : Half). h.present && test h.other) halves) (filter (λ (h : Half). h.present && test h.other) halves))) w ≡ true
        → (has_user (passing test halves) w ≡ true → list_any (is_edge u w) es ≡ true) → list_any (is_edge u w) (e ∷ es) ≡ true
    kept false q h old = or_right (is_edge u w e) (list_any (is_edge u w) es) (old h)
    kept true q h old = this (or_cases (same_user w e.end) (has_user (passing test halves) w) h)
      where
        this : (same_user w e.end ≡ true) ⊎ (has_user (passing test halves) w ≡ true) → list_any (is_edge u w) (e ∷ es) ≡ true
        this (inl k) = or_left (is_edge u w e) (list_any (is_edge u w) es) (and_from (same_user u e.start) (same_user w e.end) q k)
        this (inr k) = or_right (is_edge u w e) (list_any (is_edge u w) es) (old k)

    here : (b : Bool) → same_user u e.start ≡ b → has_user (passing test (map half_out (cond b (e ∷ filter (λ d. same_user u d.start) es) (filter (λ d. same_user u d.start) es)))) w ≡ true
        → (has_user (passing test halves) w ≡ true → list_any (is_edge u w) es ≡ true) → list_any (is_edge u w) (e ∷ es) ≡ true
    here false q h old = or_right (is_edge u w e) (list_any (is_edge u w) es) (old h)
    here true q h old = kept (e.present && test e.end) q h old

passing-once : (test : User → Bool) (u : User) (es : List Edge) → IsOnce (λ e. is_edge e.start e.end) es → IsOnce same_user (passing test (map half_out (filter (λ e. same_user u e.start) es)))
passing-once test u [] once = tt
passing-once test u (e ∷ es) once = here (same_user u e.start) refl (passing-once test u es once.1)
  where
    halves : List Half
    halves = map half_out (filter (λ d. same_user u d.start) es)

    kept : (b : Bool) → same_user u e.start ≡ true → IsOnce same_user (passing test halves)
        → IsOnce same_user (map (λ (h : Half). h.other) (cond b (half_out e ∷ filter (λ (h : Half). h.present && test h.other) halves) (filter (λ (h : Half). h.present && test h.other) halves)))
    kept false q old = old
    kept true q old = (
      false_from_ne_true (has_user (passing test halves) e.end) (λ h. both_ways (list_any (is_edge e.start e.end) es) once.0
          (subst (λ (z : User). list_any (is_edge z e.end) es ≡ true) (same_user-true u e.start q) (passing-edge test u e.end es h))),
      old,
    )

    here : (b : Bool) → same_user u e.start ≡ b → IsOnce same_user (passing test halves) → IsOnce same_user (passing test (map half_out (cond b (e ∷ filter (λ d. same_user u d.start) es) (filter (λ d. same_user u d.start) es))))
    here false q old = old
    here true q old = kept (e.present && test e.end) q old

-- fewer than the users of the tag
earlier-few : (g : Graph) → IsSound g → (t : List ℕ) (x : TagUse) → IsIn x g.uses → same_tag t x.tag ≡ true → earlier_followed g x < tag_count g t
earlier-few g sound t x i h =
    let before : User → Bool = used_before g x.tag x.first in
    let tag : t ≡ x.tag = same_tag-true t x.tag h in
    let among : (w : User) → before w ≡ true → has_user (tag_users g t) w ≡ true = λ w k. subst (λ (s : List ℕ). has_user (tag_users g s) w ≡ true) (sym tag) (used-there w x.tag x.first g.uses k) in
    let self : has_user (passing before (outs g x.user)) x.user ≡ false =
    false_from_ne_true (has_user (passing before (outs g x.user)) x.user) (λ k. both_ways (before x.user) (not-own x g.uses sound.uses i) (passing-pass before (outs g x.user) x.user k)) in
    let fits : length (x.user ∷ passing before (outs g x.user)) ≤ length (tag_users g t) =
    pigeons (x.user ∷ passing before (outs g x.user)) (tag_users g t) (self, passing-once before x.user g.edges sound.edges) (own-there x t g.uses i h, passing-among before (outs g x.user) (tag_users g t) among) in
    let counted : length (passing before (outs g x.user)) ≡ earlier_followed g x = length-map (filter (λ (y : Half). y.present && before y.other) (outs g x.user)) (λ (y : Half). y.other) ∙ length-filter (λ (y : Half). y.present && before y.other) (outs g x.user) in
    omega (arith, fits, counted)

count-none : (p : TagUse → Bool) (xs : List TagUse) → ((x : TagUse) → IsIn x xs → p x ≡ false) → count_by p xs ≡ 0
count-none p [] h = refl
count-none p (x ∷ xs) h = sum_by-cons (λ y. cond (p y) 1 0) x xs ∙ rw (h x (inl refl), count-none p xs (λ y i. h y (inr i))) refl

differ : (m n k : ℕ) → m < n → n ≤ k → (m == k) ≡ false
differ m n k h le = grind (arith, nat_tests, h, le)

pub exposures-few : ExposuresAreFew
exposures-few g sound t k le = count-none (λ x. same_tag t x.tag && earlier_followed g x == k) g.uses each
  where
    each : (x : TagUse) → IsIn x g.uses → (same_tag t x.tag && earlier_followed g x == k) ≡ false
    each x i = here (cases_Bool (same_tag t x.tag))
      where
        here : (same_tag t x.tag ≡ true) ⊎ (same_tag t x.tag ≡ false) → (same_tag t x.tag && earlier_followed g x == k) ≡ false
        here (inl h) = and_right (same_tag t x.tag) (earlier_followed g x == k) (differ (earlier_followed g x) (tag_count g t) k (earlier-few g sound t x i h) le)
        here (inr h) = and_left (same_tag t x.tag) (earlier_followed g x == k) h

sum-zero : (ks : List ℕ) → sum_by (λ (k : ℕ). 0) ks ≡ 0
sum-zero [] = refl
sum-zero (k ∷ ks) = sum_by-cons (λ (i : ℕ). 0) k ks ∙ rw (sum-zero ks) refl

sum-plus : (f g h : ℕ → ℕ) (ks : List ℕ) → ((k : ℕ) → h k ≡ f k + g k) → sum_by h ks ≡ sum_by f ks + sum_by g ks
sum-plus f g h [] same = refl
sum-plus f g h (k ∷ ks) same = let old = sum-plus f g h ks same in let here = same k in rw (sum_by-cons h k ks, sum_by-cons f k ks, sum_by-cons g k ks) (omega (arith, old, here))

abbrev one_if : Bool → ℕ
one_if b = cond b 1 0

-- a number is met once among numbers in turn, and not past it
met-not : (b : Bool) (m from n : ℕ) → m < from → sum_by (λ (k : ℕ). one_if (b && m == k)) (range_with_len from n) ≡ 0
met-not b m from zero h = refl
met-not b m from (suc n) h =
    let no : (m == from) ≡ false = grind (arith, nat_tests, h) in
    sum_by-cons (λ (k : ℕ). one_if (b && m == k)) from (range_with_len (from + 1) n) ∙ rw (and_right b (m == from) no, met-not b m (from + 1) n (omega (arith, h))) refl

met-once : (b : Bool) (m from n : ℕ) → from ≤ m → m < from + n → sum_by (λ (k : ℕ). one_if (b && m == k)) (range_with_len from n) ≡ one_if b
met-once b m from zero le lt = absurd (omega (arith, le, lt))
met-once b m from (suc n) le lt = here (cases_Bool (m == from)) (λ more. met-once b m (from + 1) n more (omega (arith, lt)))
  where
    first : (c : Bool) → c ≡ true → one_if (b && c) ≡ one_if b
    first c h = rw (h, and-true b) refl

    here : ((m == from) ≡ true) ⊎ ((m == from) ≡ false) → (from + 1 ≤ m → sum_by (λ (k : ℕ). one_if (b && m == k)) (range_with_len (from + 1) n) ≡ one_if b)
        → sum_by (λ (k : ℕ). one_if (b && m == k)) (range_with_len from (suc n)) ≡ one_if b
    here (inl h) old =
        let same : m ≡ from = grind (arith, nat_tests, h) in
        let rest : sum_by (λ (k : ℕ). one_if (b && m == k)) (range_with_len (from + 1) n) ≡ 0 = met-not b m (from + 1) n (omega (arith, same)) in
        let this : one_if (b && m == from) ≡ one_if b = first (m == from) h in
        sum_by-cons (λ (k : ℕ). one_if (b && m == k)) from (range_with_len (from + 1) n) ∙ omega (arith, rest, this)
    here (inr h) old =
        let rest : sum_by (λ (k : ℕ). one_if (b && m == k)) (range_with_len (from + 1) n) ≡ one_if b = old (grind (arith, nat_tests, h, le)) in
        sum_by-cons (λ (k : ℕ). one_if (b && m == k)) from (range_with_len (from + 1) n) ∙ rw (and_right b (m == from) h, rest) (omega arith)

-- elements counted by a number below n of each
spread : (p : TagUse → Bool) (s : TagUse → ℕ) (n : ℕ) (xs : List TagUse) → ((x : TagUse) → IsIn x xs → p x ≡ true → s x < n) → sum_by (λ (k : ℕ). count_by (λ x. p x && s x == k) xs) (range_with_len 0 n) ≡ count_by p xs
spread p s n [] below = sum-zero (range_with_len 0 n)
spread p s n (x ∷ xs) below =
    let old : sum_by (λ (k : ℕ). count_by (λ y. p y && s y == k) xs) (range_with_len 0 n) ≡ count_by p xs = spread p s n xs (λ y i. below y (inr i)) in
    sum-plus (λ k. one_if (p x && s x == k)) (λ k. count_by (λ y. p y && s y == k) xs) (λ k. count_by (λ y. p y && s y == k) (x ∷ xs)) (range_with_len 0 n) (λ k. sum_by-cons (λ y. one_if (p y && s y == k)) x xs)
    ∙ rw (old, one (cases_Bool (p x))) (sym (sum_by-cons (λ y. one_if (p y)) x xs))
  where
    one : (p x ≡ true) ⊎ (p x ≡ false) → sum_by (λ (k : ℕ). one_if (p x && s x == k)) (range_with_len 0 n) ≡ one_if (p x)
    one (inl h) = met-once (p x) (s x) 0 n (omega arith) (let lt = below x (inl refl) h in omega (arith, lt))
    one (inr h) = rw h (sum-zero (range_with_len 0 n))

pub exposures-add-up : ExposuresAddUp
exposures-add-up g sound t =
    spread (λ x. same_tag t x.tag) (earlier_followed g) (tag_count g t) g.uses (λ x i h. earlier-few g sound t x i h)
    ∙ sym (length-map (filter (λ (x : TagUse). same_tag t x.tag) g.uses) (λ (x : TagUse). x.user) ∙ length-filter (λ (x : TagUse). same_tag t x.tag) g.uses)
