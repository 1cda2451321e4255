-- How many of a list pass, counted over users that stand once.
use Rattle.std.proofs.Common.{◌≡◌, ◌+◌, ◌&&◌, ◌||◌, ◌∙◌, ℕ, Bool, true, false, cond, List, [], ◌∷◌, length, map, count_by, Some, refl, sym, ap, subst, arith}
use Rattle.std.specs.List.{list_any, sum_by}
use Rattle.std.proofs.lemmas.Bool.{both_ways, and_parts, and_from, or_left, or_right, or_parts}
use Rattle.std.proofs.lemmas.List.Sums.{sum_by-cons}
use Rattle.kin_ids.specs.declared.ids.User.{User}
use Rattle.kin_ids.specs.declared.ops.Half.{Half}
use Rattle.kin_ids.specs.Users.{same_user, has_user}
use Rattle.kin_ids.specs.Follows.{IsOnce}
use Rattle.kin_ids.proofs.Same.{same_user-true, same_user-refl, same_user-sym, list_any-alike, list_any-weaker}
use Rattle.kin_store.specs.declared.pairs.Pair.{Pair}
use Rattle.kin_store.specs.Pairs.{pair}
use Rattle.kin_store.specs.Lists.{half_key, half_to}
use Rattle.kin_graph.specs.Deltas.{is_present, HasJust}
use Rattle.kin_changes.specs.Told.{is_of, is_to}
use Rattle.kin_changes.proofs.Wholes.{any-map, and-turned, none-counted}
use Rattle.kin_changes.proofs.Homes.{any-just, count-one}

-- sums over one list
pub sums-alike : {X : Type 0} (f g : X → ℕ) (xs : List X) → ((x : X) → f x ≡ g x) → sum_by f xs ≡ sum_by g xs
sums-alike f g [] same = refl
sums-alike f g (x ∷ xs) same =
    let first : f x ≡ g x = same x in
    omega (arith, sum_by-cons f x xs, sum_by-cons g x xs, first, sums-alike f g xs same)

sums-added : {X : Type 0} (f g : X → ℕ) (xs : List X) → sum_by (λ x. f x + g x) xs ≡ sum_by f xs + sum_by g xs
sums-added f g [] = refl
sums-added f g (x ∷ xs) = sum_by-cons (λ y. f y + g y) x xs ∙ omega (arith, sum_by-cons f x xs, sum_by-cons g x xs, sums-added f g xs)

pub sums-level : {X : Type 0} (a b c d : X → ℕ) (xs : List X) → ((x : X) → a x + b x ≡ c x + d x) → sum_by a xs + sum_by b xs
    ≡ sum_by c xs + sum_by d xs
sums-level a b c d xs same = sym (sums-added a b xs) ∙ (sums-alike (λ x. a x + b x) (λ x. c x + d x) xs same ∙ sums-added c d xs)

pub sums-nought : {X : Type 0} (xs : List X) → sum_by (λ (x : X). 0) xs ≡ 0
sums-nought [] = refl
sums-nought (x ∷ xs) = sum_by-cons (λ y. 0) x xs ∙ omega (arith, sums-nought xs)

-- one user stands once
no-others : (k : User) (us : List User) → has_user us k ≡ false → sum_by (λ u. cond (same_user u k && true) 1 0) us ≡ 0
no-others k [] none = refl
no-others k (u ∷ us) none =
    let parts = or_parts (same_user k u) (has_user us k) none in
    sum_by-cons (λ v. cond (same_user v k && true) 1 0) u us ∙ rw (same_user-sym u k, parts.0) (omega (arith, no-others k us parts.1))

one-user : (k : User) (us : List User) → IsOnce same_user us → has_user us k ≡ true → sum_by (λ u. cond (same_user u k && true) 1 0) us ≡ 1
one-user k [] once there = absurd (both_ways false refl there)
one-user k (u ∷ us) once there = sum_by-cons (λ v. cond (same_user v k && true) 1 0) u us
    ∙ by_test (same_user k u) refl there (one-user k us once.1) where
      by_test : (b : Bool) → same_user k u ≡ b → (b || has_user us k) ≡ true
          → (has_user us k ≡ true → sum_by (λ v. cond (same_user v k && true) 1 0) us ≡ 1)
          → cond (same_user u k && true) 1 0 + sum_by (λ v. cond (same_user v k && true) 1 0) us ≡ 1
      by_test true t h rest =
          let out : has_user us k ≡ false = subst (λ (v : User). has_user us v ≡ false) (sym (same_user-true k u t)) once.0 in
          let none : sum_by (λ v. cond (same_user v k && true) 1 0) us ≡ 0 = no-others k us out in
          rw (same_user-sym u k, t) (omega (arith, none))
      by_test false t h rest =
          let found : sum_by (λ v. cond (same_user v k && true) 1 0) us ≡ 1 = rest h in
          rw (same_user-sym u k, t) (omega (arith, found))

and-false : (b : Bool) → (b && false) ≡ false
and-false true = refl
and-false false = refl

one-item : (b : Bool) (k : User) (us : List User) → IsOnce same_user us → (b ≡ true → has_user us k ≡ true)
    → sum_by (λ u. cond (same_user u k && b) 1 0) us ≡ cond b 1 0
one-item true k us once there = one-user k us once (there refl)
one-item false k us once there = sums-alike (λ u. cond (same_user u k && false) 1 0) (λ u. 0) us
    (λ u. ap (λ (b : Bool). cond b 1 0) (and-false (same_user u k))) ∙ sums-nought us

-- those that pass, user by user
pub spread : {X : Type 0} (p : X → Bool) (key : X → User) (us : List User) → IsOnce same_user us → (xs : List X)
    → ((w : User) → list_any (λ x. same_user w (key x) && p x) xs ≡ true → has_user us w ≡ true)
    → count_by p xs ≡ sum_by (λ w. count_by (λ x. same_user w (key x) && p x) xs) us
spread p key us once [] inside = sym (sums-nought us)
spread {X} p key us once (x ∷ xs) inside =
    let first : sum_by (λ u. cond (same_user u (key x) && p x) 1 0) us
    ≡ cond (p x) 1 0 = one-item (p x) (key x) us once (λ t. inside (key x) (or_left _ _ (and_from _ _ (same_user-refl (key x)) t))) in
    let rest : count_by p xs ≡ sum_by (λ w. count_by (λ y. same_user w (key y) && p y) xs) us =
    spread p key us once xs (λ w t. inside w (or_right (same_user w (key x) && p x) _ t)) in
    let apart : sum_by (λ w. count_by (λ y. same_user w (key y) && p y) (x ∷ xs)) us
    ≡ sum_by (λ u. cond (same_user u (key x) && p x) 1 0) us + sum_by (λ w. count_by (λ y. same_user w (key y) && p y) xs) us =
    sums-alike _ (λ w. cond (same_user w (key x) && p x) 1 0 + count_by (λ y. same_user w (key y) && p y) xs) us
    (λ w. sum_by-cons (λ y. cond (same_user w (key y) && p y) 1 0) x xs)
    ∙ sums-added (λ u. cond (same_user u (key x) && p x) 1 0) (λ w. count_by (λ y. same_user w (key y) && p y) xs) us in
    sum_by-cons (λ y. cond (p y) 1 0) x xs ∙ omega (arith, first, rest, apart)

-- at most one has a key that stands once
pub one-keyed : {X : Type 0} (p : X → Bool) (key : X → User) (w : User) (xs : List X) → IsOnce same_user (map key xs)
    → count_by (λ x. same_user w (key x) && p x) xs ≡ cond (list_any (λ x. same_user w (key x) && p x) xs) 1 0
one-keyed p key w [] once = refl
one-keyed {X} p key w (x ∷ xs) once = sum_by-cons (λ y. cond (same_user w (key y) && p y) 1 0) x xs
    ∙ by_test (same_user w (key x)) (p x) refl (one-keyed p key w xs once.1) where
      by_test : (a b : Bool) → same_user w (key x) ≡ a → count_by (λ y. same_user w (key y) && p y) xs
          ≡ cond (list_any (λ y. same_user w (key y) && p y) xs) 1 0
          → cond (a && b) 1 0 + count_by (λ y. same_user w (key y) && p y) xs
          ≡ cond ((a && b) || list_any (λ y. same_user w (key y) && p y) xs) 1 0
      by_test true b t rest =
          let out : list_any (λ y. same_user (key x) (key y)) xs ≡ false = sym (any-map (same_user (key x)) key xs) ∙ once.0 in
          let none : list_any (λ y. same_user w (key y) && p y) xs ≡ false =
          list_any-weaker (λ y. same_user w (key y) && p y) (λ y. same_user (key x) (key y)) xs
          (λ y both. subst (λ (v : User). same_user v (key y) ≡ true) (same_user-true w (key x) t)
          (and_parts (same_user w (key y)) (p y) both).0) out in
          let nought : count_by (λ y. same_user w (key y) && p y) xs ≡ 0 = none-counted _ xs none in
          by_rest b none nought where
            by_rest : (c : Bool) → list_any (λ y. same_user w (key y) && p y) xs ≡ false → count_by (λ y. same_user w (key y) && p y) xs ≡ 0
                → cond c 1 0 + count_by (λ y. same_user w (key y) && p y) xs ≡ cond (c || list_any (λ y. same_user w (key y) && p y) xs) 1 0
            by_rest true none nought = omega (arith, nought)
            by_rest false none nought = rw none (omega (arith, nought))
      by_test false b t rest = omega (arith, rest)

-- whether the half with a user is present
present-any : (w : User) (hs : List Half) → IsOnce same_user (map half_key hs)
    → list_any (λ (h : Half). same_user w h.other && h.present) hs ≡ is_present (half_to hs w)
present-any w [] once = refl
present-any w (h ∷ hs) once = by_test (same_user w h.other) refl (present-any w hs once.1) where
  or-false : (b : Bool) → (b || false) ≡ b
  or-false true = refl
  or-false false = refl

  by_test : (a : Bool) → same_user w h.other ≡ a → list_any (λ (x : Half). same_user w x.other && x.present) hs ≡ is_present (half_to hs w)
      → ((a && h.present) || list_any (λ (x : Half). same_user w x.other && x.present) hs) ≡ is_present (cond a (Some h) (half_to hs w))
  by_test true t rest =
      let out : list_any (λ (x : Half). same_user h.other x.other) hs ≡ false = sym (any-map (same_user h.other) half_key hs) ∙ once.0 in
      let none : list_any (λ (x : Half). same_user w x.other && x.present) hs ≡ false =
      list_any-weaker (λ (x : Half). same_user w x.other && x.present) (λ (x : Half). same_user h.other x.other) hs
      (λ x both. subst (λ (v : User). same_user v x.other ≡ true) (same_user-true w h.other t)
      (and_parts (same_user w x.other) x.present both).0) out in
      ap (λ (b : Bool). h.present || b) none ∙ or-false h.present
  by_test false t rest = rest

-- halves that are present, and pairs of a user, counted by users
pub halves-spread : (hs : List Half) (us : List User) → IsOnce same_user (map half_key hs) → IsOnce same_user us
    → ((w : User) → is_present (half_to hs w) ≡ true → has_user us w ≡ true)
    → count_by (λ (h : Half). h.present) hs ≡ sum_by (λ w. cond (is_present (half_to hs w)) 1 0) us
halves-spread hs us keys once inside =
    spread (λ (h : Half). h.present) half_key us once hs (λ w t. inside w (sym (present-any w hs keys) ∙ t))
    ∙ sums-alike _ (λ w. cond (is_present (half_to hs w)) 1 0) us
    (λ w. one-keyed (λ (h : Half). h.present) half_key w hs keys ∙ ap (λ (b : Bool). cond b 1 0) (present-any w hs keys))

pub counts-alike : {X : Type 0} (f g : X → Bool) (xs : List X) → ((x : X) → f x ≡ g x) → count_by f xs ≡ count_by g xs
counts-alike f g xs same = sums-alike (λ x. cond (f x) 1 0) (λ x. cond (g x) 1 0) xs (λ x. ap (λ (b : Bool). cond b 1 0) (same x))

pub pairs-spread : (f : Pair → Bool) (ps : List Pair) (u : User) (us : List User) → HasJust f ps → IsOnce same_user us
    → ((w : User) → f (pair u w) ≡ true → has_user us w ≡ true)
    → count_by (is_of u) ps ≡ sum_by (λ w. cond (f (pair u w)) 1 0) us
pairs-spread f ps u us just once inside =
    spread (is_of u) (λ (p : Pair). p.other) us once ps (λ w t. inside w
    (sym (any-just f ps just u w) ∙ (list_any-alike (is_to u w) (λ (p : Pair). same_user w p.other && same_user u p.user) ps
    (λ p. and-turned (same_user u p.user) (same_user w p.other)) ∙ t)))
    ∙ sums-alike _ (λ w. cond (f (pair u w)) 1 0) us (λ w. counts-alike (λ (p : Pair). same_user w p.other && same_user u p.user)
    (is_to u w) ps (λ p. and-turned (same_user w p.other) (same_user u p.user))
    ∙ count-one (is_to u w) ps (f (pair u w)) (pair u w) (just (pair u w)))

and-true : (b : Bool) → (b && true) ≡ b
and-true true = refl
and-true false = refl

counts-length : {X : Type 0} (xs : List X) → count_by (λ (x : X). true) xs ≡ length xs
counts-length [] = refl
counts-length (x ∷ xs) = sum_by-cons (λ y. 1) x xs ∙ omega (arith, counts-length xs)

-- users that stand once, counted over others
pub users-spread : (xs us : List User) → IsOnce same_user xs → IsOnce same_user us
    → ((w : User) → has_user xs w ≡ true → has_user us w ≡ true) → length xs ≡ sum_by (λ w. cond (has_user xs w) 1 0) us
users-spread xs us keys once inside =
    sym (counts-length xs)
    ∙ (spread (λ (x : User). true) (λ (x : User). x) us once xs (λ w t. inside w (sym (plain w) ∙ t))
    ∙ sums-alike _ (λ w. cond (has_user xs w) 1 0) us (λ w. one-keyed (λ (x : User). true) (λ (x : User). x) w xs
    (subst (IsOnce same_user) (sym (map-self xs)) keys) ∙ ap (λ (b : Bool). cond b 1 0) (plain w)))
  where
    plain : (w : User) → list_any (λ (x : User). same_user w x && true) xs ≡ has_user xs w
    plain w = list_any-alike (λ (x : User). same_user w x && true) (same_user w) xs (λ x. and-true (same_user w x))

    map-self : (ys : List User) → map (λ (x : User). x) ys ≡ ys
    map-self [] = refl
    map-self (y ∷ ys) = ap (λ (zs : List User). y ∷ zs) (map-self ys)
