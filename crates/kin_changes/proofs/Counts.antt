-- The numbers of a view, from those before and from what deltas tell.
use Rattle.std.proofs.Common.{◌≡◌, ◌<◌, ◌≤◌, ◌+◌, ◌-◌, ◌&&◌, ◌∙◌, ℕ, nat_lt, Bool, true, false, not, cond, eqb, List, [], ◌∷◌, length, map, filter, count_by, Option, Some, None, is_some, refl, sym, ap, ap₂, arith}
use Rattle.std.specs.List.{sum_by}
use Rattle.std.proofs.lemmas.Bool.{and_parts, both_ways, ltb-false}
use Rattle.std.proofs.lemmas.List.Sums.{sum_by-cons, sum_by-le-sum_by}
use Rattle.kin_ids.specs.declared.ids.User.{User}
use Rattle.kin_ids.specs.declared.ops.Half.{Half}
use Rattle.kin_ids.specs.Users.{same_user, same_tag, has_user}
use Rattle.kin_ids.specs.Follows.{IsOnce}
use Rattle.kin_ids.specs.Parting.{user_part, tag_part}
use Rattle.kin_ids.specs.Parts.{PartView, if_here, count_here}
use Rattle.kin_ids.proofs.Same.{list_any-alike}
use Rattle.kin_store.specs.declared.pairs.Pair.{Pair}
use Rattle.kin_store.specs.declared.pairs.TagUser.{TagUser}
use Rattle.kin_store.specs.Lists.{half_key, half_to}
use Rattle.kin_graph.specs.declared.deltas.SaidRow.{SaidRow}
use Rattle.kin_graph.specs.Deltas.{DeltaLists, is_present, is_now, is_gone, one_if, pair_in, HasJust}
use Rattle.kin_graph.proofs.Picking.{any-find}
use Rattle.kin_changes.specs.Views.{AreLed, delta_at}
use Rattle.kin_changes.specs.Told.{is_of, pairs_of, said_more, tag_more, CountsLaw}
use Rattle.kin_changes.proofs.Wholes.{any-map, and-turned}
use Rattle.kin_changes.proofs.Homes.{sum-home, user-home, tag-home, any-one, count-one, more-in, more-tags}
use Rattle.kin_changes.proofs.Spreads.{sums-alike, sums-level, sums-nought, spread, halves-spread, pairs-spread, users-spread, counts-alike}

-- one is present who was and isn't gone, or who is so now
level : (was is : Bool) → cond is 1 0 + cond (was && not is) 1 0 ≡ cond was 1 0 + cond (is && not was) 1 0
level true true = refl
level true false = refl
level false true = refl
level false false = refl

at-most : (was is : Bool) → cond (was && not is) 1 0 ≤ cond was 1 0
at-most true true = omega arith
at-most true false = omega arith
at-most false is = omega arith

was-some : (o : Option Half) → is_present o ≡ true → is_some o ≡ true
was-some None e = e
was-some (Some h) e = refl

-- the halves of a user on one side
module _ (ds : List DeltaLists) (u : User) (within : user_part (length ds) u < length ds) (was is : User → List Half)
    (before : IsOnce same_user (map half_key (was u))) (after : IsOnce same_user (map half_key (is u)))
    (more : (w : User) → is_some (half_to (was u) w) ≡ true → is_some (half_to (is u) w) ≡ true) where
  abbrev users : List User
  users = map half_key (is u)

  among : (w : User) → is_some (half_to (is u) w) ≡ true → has_user users w ≡ true
  among w e = any-map (same_user w) half_key (is u) ∙ (any-find (λ (h : Half). same_user w h.other) (is u) ∙ e)

  abbrev told : (Option Half → Option Half → Bool) → User → Bool → Bool
  told f w b = f (half_to (if_here b (was u)) w) (half_to (if_here b (is u)) w)

  told-among : (f : Option Half → Option Half → Bool) → ((a b : Option Half) → f a b ≡ true → (is_some a ≡ true → is_some b ≡ true)
      → is_some b ≡ true) → (b : Bool) (w : User) → told f w b ≡ true → has_user users w ≡ true
  told-among f some true w e = among w (some _ _ e (more w))
  told-among f some false w e = absurd (both_ways false refl (some None None e (λ t. t)))

  told-sum : (f : Option Half → Option Half → Bool) → ((a b : Option Half) → f a b ≡ true → (is_some a ≡ true → is_some b ≡ true)
      → is_some b ≡ true) → f None None ≡ false → (lists : DeltaLists → List Pair)
      → ((p : ℕ) → p < length ds → HasJust (λ q. f (pair_in (λ v. if_here (eqb (user_part (length ds) v) p) (was v)) q)
      (pair_in (λ v. if_here (eqb (user_part (length ds) v) p) (is v)) q)) (lists (delta_at ds p)))
      → pairs_of lists ds u ≡ sum_by (λ w. cond (f (half_to (was u) w) (half_to (is u) w)) 1 0) users
  told-sum f some none lists each = sum-home ds (user_part (length ds) u) within (λ d. count_by (is_of u) (lists d))
      (λ b. sum_by (λ w. cond (told f w b) 1 0) users)
      (sums-alike _ (λ w. 0) users (λ w. ap (λ (b : Bool). cond b 1 0) none) ∙ sums-nought users)
      (λ p lt. pairs-spread _ (lists (delta_at ds p)) u users (each p lt) after (told-among f some (eqb (user_part (length ds) u) p)))

  pub side : (now gone : DeltaLists → List Pair)
      → ((p : ℕ) → p < length ds → HasJust (λ q. is_now (pair_in (λ v. if_here (eqb (user_part (length ds) v) p) (was v)) q)
      (pair_in (λ v. if_here (eqb (user_part (length ds) v) p) (is v)) q)) (now (delta_at ds p)))
      → ((p : ℕ) → p < length ds → HasJust (λ q. is_gone (pair_in (λ v. if_here (eqb (user_part (length ds) v) p) (was v)) q)
      (pair_in (λ v. if_here (eqb (user_part (length ds) v) p) (is v)) q)) (gone (delta_at ds p)))
      → count_by (λ (h : Half). h.present) (is u) + pairs_of gone ds u ≡ count_by (λ (h : Half). h.present) (was u) + pairs_of now ds u
  side now gone each-now each-gone =
      let a = halves-spread (is u) users after after (λ w t. among w (was-some _ t)) in
      let b = told-sum is_gone (λ x y t kept. kept (was-some x (and_parts (is_present x) (not (is_present y)) t).0)) refl gone each-gone in
      let c = halves-spread (was u) users before after (λ w t. among w (more w (was-some _ t))) in
      let d = told-sum is_now (λ x y t kept. was-some y (and_parts (is_present y) (not (is_present x)) t).0) refl now each-now in
      ap₂ (λ (m n : ℕ). m + n) a b
      ∙ (sums-level _ _ _ _ users (λ w. level (is_present (half_to (was u) w)) (is_present (half_to (is u) w)))
      ∙ sym (ap₂ (λ (m n : ℕ). m + n) c d))

  -- no more went than were present
  gone-side : (gone : DeltaLists → List Pair)
      → ((p : ℕ) → p < length ds → HasJust (λ q. is_gone (pair_in (λ v. if_here (eqb (user_part (length ds) v) p) (was v)) q)
      (pair_in (λ v. if_here (eqb (user_part (length ds) v) p) (is v)) q)) (gone (delta_at ds p)))
      → pairs_of gone ds u ≤ count_by (λ (h : Half). h.present) (was u)
  gone-side gone each-gone =
      let b = told-sum is_gone (λ x y t kept. kept (was-some x (and_parts (is_present x) (not (is_present y)) t).0)) refl gone each-gone in
      let c = halves-spread (was u) users before after (λ w t. among w (more w (was-some _ t))) in
      let fewer = sum_by-le-sum_by (λ w. cond (is_gone (half_to (was u) w) (half_to (is u) w)) 1 0)
      (λ w. cond (is_present (half_to (was u) w)) 1 0) users
      (λ w. at-most (is_present (half_to (was u) w)) (is_present (half_to (is u) w))) in
      omega (arith, b, c, fewer)

-- the rows of one user
sum-rows : (u : User) (rows : List SaidRow) → sum_by (λ (x : SaidRow). cond (same_user u x.user) x.number 0) rows
    ≡ sum_by (λ (x : SaidRow). x.number) (filter (λ (x : SaidRow). same_user u x.user) rows)
sum-rows u [] = refl
sum-rows u (x ∷ rows) = sum_by-cons (λ (y : SaidRow). cond (same_user u y.user) y.number 0) x rows
    ∙ by_test (same_user u x.user) (sum-rows u rows) where
      by_test : (b : Bool) → sum_by (λ (y : SaidRow). cond (same_user u y.user) y.number 0) rows
          ≡ sum_by (λ (y : SaidRow). y.number) (filter (λ (y : SaidRow). same_user u y.user) rows)
          → cond b x.number 0 + sum_by (λ (y : SaidRow). cond (same_user u y.user) y.number 0) rows
          ≡ sum_by (λ (y : SaidRow). y.number) (cond b (x ∷ filter (λ (y : SaidRow). same_user u y.user) rows)
          (filter (λ (y : SaidRow). same_user u y.user) rows))
      by_test true rest = sym (sum_by-cons (λ (y : SaidRow). y.number) x (filter (λ (y : SaidRow). same_user u y.user) rows)
          ∙ omega (arith, rest))
      by_test false rest = omega (arith, rest)

-- what a row adds
row-sum : (b : Bool) (u : User) (n : ℕ) → sum_by (λ (x : SaidRow). x.number) (one_if b (record { user = u; number = n })) ≡ cond b n 0
row-sum true u n = omega arith
row-sum false u n = refl

grows-by : (b : Bool) (m n : ℕ) → nat_lt m n ≡ b → m ≤ n → n ≡ m + cond b (n - m) 0
grows-by true m n t le = omega arith
grows-by false m n t le = let past : n ≤ m = ltb-false m n t in omega arith

said-counted : (was is : PartView) (ds : List DeltaLists) → AreLed was is ds → (u : User) → is.said u ≡ was.said u + said_more ds u
said-counted was is ds led u =
    grows-by (nat_lt (was.said u) (is.said u)) (was.said u) (is.said u) refl (led.grows.said u)
    ∙ ap (λ (n : ℕ). was.said u + n) (sym (sum-home ds (user_part (length ds) u) (user-home (length ds) u led.some)
    (λ d. sum_by (λ (x : SaidRow). cond (same_user u x.user) x.number 0) d.said)
    (λ b. cond (nat_lt (count_here b (was.said u)) (count_here b (is.said u)))
    (count_here b (is.said u) - count_here b (was.said u)) 0) refl
    (λ p lt. sum-rows u (delta_at ds p).said ∙ (ap (sum_by (λ (x : SaidRow). x.number)) ((led.each p lt).said u) ∙ row-sum _ u _))))

-- users who are there were there or are new
joined : (was is : Bool) → (was ≡ true → is ≡ true) → cond is 1 0 + 0 ≡ cond was 1 0 + cond (is && not was) 1 0
joined true true more = refl
joined true false more = absurd (both_ways false refl (more refl))
joined false true more = refl
joined false false more = refl

module _ (was is : PartView) (ds : List DeltaLists) (led : AreLed was is ds) (t : List ℕ) where
  abbrev new : User → Bool → Bool
  new w b = has_user (if_here b (is.tag_users t)) w && not (has_user (if_here b (was.tag_users t)) w)

  new-among : (w : User) (b : Bool) → new w b ≡ true → has_user (is.tag_users t) w ≡ true
  new-among w true e = (and_parts (has_user (is.tag_users t) w) (not (has_user (was.tag_users t) w)) e).0
  new-among w false e = absurd (both_ways false refl e)

  rows : (p : ℕ) → p < length ds → count_by (λ (x : TagUser). same_tag t x.tag) (delta_at ds p).tag_users
      ≡ sum_by (λ w. cond (new w (eqb (tag_part (length ds) t) p)) 1 0) (is.tag_users t)
  rows p lt =
      let tu = (delta_at ds p).tag_users in
      let b = eqb (tag_part (length ds) t) p in
      spread (λ (x : TagUser). same_tag t x.tag) (λ (x : TagUser). x.user) (is.tag_users t) (led.after.tag_users_once t) tu
      (λ w e. new-among w b (sym (any-one _ tu (new w b) _ ((led.each p lt).tag_users t w))
      ∙ (list_any-alike (λ (x : TagUser). same_tag t x.tag && same_user w x.user)
      (λ (x : TagUser). same_user w x.user && same_tag t x.tag) tu (λ x. and-turned (same_tag t x.tag) (same_user w x.user)) ∙ e)))
      ∙ sums-alike _ (λ w. cond (new w b) 1 0) (is.tag_users t)
      (λ w. counts-alike (λ (x : TagUser). same_user w x.user && same_tag t x.tag)
      (λ (x : TagUser). same_tag t x.tag && same_user w x.user) tu (λ x. and-turned (same_user w x.user) (same_tag t x.tag))
      ∙ count-one _ tu (new w b) _ ((led.each p lt).tag_users t w))

  tag-counted : length (is.tag_users t) ≡ length (was.tag_users t) + tag_more ds t
  tag-counted =
      let us = is.tag_users t in
      let more = more-tags was is led.before led.after led.grows t in
      let a : length us ≡ sum_by (λ w. cond (has_user us w) 1 0) us = users-spread us us (led.after.tag_users_once t)
      (led.after.tag_users_once t) (λ w e. e) in
      let b : length (was.tag_users t) ≡ sum_by (λ w. cond (has_user (was.tag_users t) w) 1 0) us = users-spread (was.tag_users t) us
      (led.before.tag_users_once t) (led.after.tag_users_once t) more in
      let c : tag_more ds t ≡ sum_by (λ w. cond (new w true) 1 0) us =
      sum-home ds (tag_part (length ds) t) (tag-home (length ds) t led.some)
      (λ d. count_by (λ (x : TagUser). same_tag t x.tag) d.tag_users) (λ h. sum_by (λ w. cond (new w h) 1 0) us)
      (sums-nought us) rows in
      let d : sum_by (λ w. cond (has_user us w) 1 0) us + sum_by (λ (w : User). 0) us
      ≡ sum_by (λ w. cond (has_user (was.tag_users t) w) 1 0) us + sum_by (λ w. cond (new w true) 1 0) us =
      sums-level _ _ _ _ us (λ w. joined (has_user (was.tag_users t) w) (has_user us w) (more w)) in
      let e : sum_by (λ (w : User). 0) us ≡ 0 = sums-nought us in
      omega (arith, a, b, c, d, e)

pub counts-law : CountsLaw
counts-law was is ds led = record {
  ins = λ u. side ds u (user-home (length ds) u led.some) was.inn is.inn (led.before.in_once u) (led.after.in_once u)
      (more-in was is led.before led.after led.grows u)
      (λ d. d.now_in) (λ d. d.gone_in) (λ p lt. (led.each p lt).now_in) (λ p lt. (led.each p lt).gone_in);
  outs = λ u. side ds u (user-home (length ds) u led.some) was.out is.out (led.before.out_once u) (led.after.out_once u) (led.grows.out u)
      (λ d. d.now_out) (λ d. d.gone_out) (λ p lt. (led.each p lt).now_out) (λ p lt. (led.each p lt).gone_out);
  said = λ u. said-counted was is ds led u;
  tags = λ t. tag-counted was is ds led t;
}

module _ (was is : PartView) (ds : List DeltaLists) (led : AreLed was is ds) (u : User) where
  pub gone-in : pairs_of (λ d. d.gone_in) ds u ≤ count_by (λ (h : Half). h.present) (was.inn u)
  gone-in = gone-side ds u (user-home (length ds) u led.some) was.inn is.inn (led.before.in_once u) (led.after.in_once u)
      (more-in was is led.before led.after led.grows u) (λ d. d.gone_in) (λ p lt. (led.each p lt).gone_in)

  pub gone-out : pairs_of (λ d. d.gone_out) ds u ≤ count_by (λ (h : Half). h.present) (was.out u)
  gone-out = gone-side ds u (user-home (length ds) u led.some) was.out is.out (led.before.out_once u) (led.after.out_once u)
      (led.grows.out u) (λ d. d.gone_out) (λ p lt. (led.each p lt).gone_out)
