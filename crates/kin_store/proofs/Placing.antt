-- Where keys stand after an item was put in, or turned.
use Rattle.std.proofs.Common.{◌≡◌, ℕ, Bool, true, false, cond, List, [], ◌∷◌, ◌++◌, Option, Some, None, is_some, length, get_or, refl}
use Rattle.std.proofs.Common.{sym, ap, ◌∙◌}
use Rattle.kin_ids.specs.declared.ids.User.{User}
use Rattle.kin_ids.specs.declared.stamps.Place.{Place}
use Rattle.kin_ids.specs.declared.ops.Half.{Half}
use Rattle.kin_ids.specs.declared.ops.Use.{Use}
use Rattle.kin_ids.specs.Users.{same_user, same_tag}
use Rattle.kin_ids.specs.Parts.{with_half, without_half, with_member, with_first}
use Rattle.kin_store.specs.Turns.{turned}
use Rattle.kin_store.proofs.Places.{list_any-position, place-push, position-set}
use Rattle.kin_store.proofs.Turns.{with_present, with_half-turned, without_half-turned, turned-none, turned-some}
use Rattle.kin_store.proofs.Orders.{user_total, tag_total}
use Rattle.kin_store.specs.Lists.{half_key, half_place, user_place, use_place}

abbrev pub half_at : User → Place → Half
half_at w at = record { other = w; present = true; added = at }

-- a half that is there is turned, and another one comes to the end
pub with_half-there : (w : User) (at : Place) (xs : List Half) (b : Bool) → is_some (half_place xs w) ≡ b → b ≡ true
    → turned w true xs ≡ with_half w at xs
with_half-there w at xs b e t = sym (with_half-turned w at xs ∙ rw (list_any-position (λ (x : Half). same_user w x.other) xs
    ∙ (e ∙ t)) refl)

pub with_half-new : (w : User) (at : Place) (xs : List Half) → half_place xs w ≡ None → xs ++ half_at w at ∷ [] ≡ with_half w at xs
with_half-new w at xs e = sym (with_half-turned w at xs ∙ rw (list_any-position (λ (x : Half). same_user w x.other) xs ∙ ap is_some e) refl)

pub with_member-there : (w : User) (xs : List User) → is_some (user_place xs w) ≡ true → xs ≡ with_member w xs
with_member-there w xs e = sym (rw (list_any-position (same_user w) xs ∙ e) refl)

pub with_member-new : (w : User) (xs : List User) → user_place xs w ≡ None → xs ++ w ∷ [] ≡ with_member w xs
with_member-new w xs e = sym (rw (list_any-position (same_user w) xs ∙ ap is_some e) refl)

pub with_first-there : (t : List ℕ) (at : Place) (xs : List Use) → is_some (use_place xs t) ≡ true → xs ≡ with_first t at xs
with_first-there t at xs e = sym (rw (list_any-position (λ (x : Use). same_tag t x.tag) xs ∙ e) refl)

pub with_first-new : (t : List ℕ) (at : Place) (xs : List Use) → use_place xs t ≡ None → xs ++ record { tag = t; first = at } ∷ []
    ≡ with_first t at xs
with_first-new t at xs e = sym (rw (list_any-position (λ (x : Use). same_tag t x.tag) xs ∙ ap is_some e) refl)

-- turned halves stand where they stood
pub turned-places : (w : User) (b : Bool) (xs : List Half) (q : User) → half_place (turned w b xs) q ≡ half_place xs q
turned-places w b xs q = by_case (half_place xs w) refl where
  by_case : (o : Option ℕ) → half_place xs w ≡ o → half_place (turned w b xs) q ≡ half_place xs q
  by_case None e = ap (λ (ys : List Half). half_place ys q) (turned-none w b xs e)
  by_case (Some i) e =
      let d : Half = half_at w (record { epoch = record { 0 = 0 }; ingest = record { 0 = 0 }; number = 0 }) in
      ap (λ (ys : List Half). half_place ys q) (turned-some w b xs i d e)
      ∙ position-set (λ (x : Half). same_user q x.other) xs i (with_present b (get_or xs i d)) d refl

pub without_half-places : (w : User) (xs : List Half) (q : User) → half_place (without_half w xs) q ≡ half_place xs q
without_half-places w xs q = ap (λ (ys : List Half). half_place ys q) (without_half-turned w xs) ∙ turned-places w false xs q

pub some_true : {i : ℕ} (o : Option ℕ) → o ≡ Some i → is_some o ≡ true
some_true o e = ap is_some e

pub with_half-places : (w : User) (at : Place) (xs : List Half) (i : ℕ) → half_place xs w ≡ Some i → (q : User)
    → half_place (with_half w at xs) q ≡ half_place xs q
with_half-places w at xs i e q =
    ap (λ (ys : List Half). half_place ys q) (sym (with_half-there w at xs true (ap is_some e) refl)) ∙ turned-places w true xs q

-- a new one stands at the end
pub half-push : (w : User) (at : Place) (xs : List Half) → half_place xs w ≡ None → (q : User) → half_place (with_half w at xs) q
    ≡ cond (same_user w q) (Some (length xs)) (half_place xs q)
half-push w at xs e q = ap (λ (ys : List Half). half_place ys q) (sym (with_half-new w at xs e))
    ∙ place-push user_total half_key xs (half_at w at) e q

pub member-push : (w : User) (xs : List User) → user_place xs w ≡ None → (q : User) → user_place (with_member w xs) q ≡ cond (same_user w q)
    (Some (length xs)) (user_place xs q)
member-push w xs e q = ap (λ (ys : List User). user_place ys q) (sym (with_member-new w xs e)) ∙ place-push user_total (λ u. u) xs w e q

pub first-push : (t : List ℕ) (at : Place) (xs : List Use) → use_place xs t ≡ None → (q : List ℕ) → use_place (with_first t at xs) q
    ≡ cond (same_tag t q) (Some (length xs)) (use_place xs q)
first-push t at xs e q = ap (λ (ys : List Use). use_place ys q) (sym (with_first-new t at xs e))
    ∙ place-push tag_total (λ x. x.tag) xs (record { tag = t; first = at }) e q
