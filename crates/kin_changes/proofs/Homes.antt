-- Of a user or a tag, only the delta of its own partition tells something.
use Rattle.std.proofs.Common.{◌≡◌, ◌<◌, ◌==◌, ◌||◌, ◌&&◌, ◌∙◌, ℕ, zero, suc, Bool, true, false, not, cond, List, [], ◌∷◌, length, filter, count_by, Option, Some, None, is_some, refl, sym, ap, slice_index_or, arith}
use Rattle.std.specs.List.{list_any, sum_by}
use Rattle.std.proofs.lemmas.Bool.{eq-eqb, ne_eqb}
use Rattle.std.proofs.lemmas.List.Sums.{sum_by-cons, length-filter}
use Rattle.kin_ids.specs.declared.ids.User.{User}
use Rattle.kin_ids.specs.declared.ops.Use.{Use}
use Rattle.kin_ids.specs.Users.{same_user, same_tag, has_user}
use Rattle.kin_ids.specs.Parting.{user_part, tag_part}
use Rattle.kin_ids.specs.Parts.{PartView}
use Rattle.kin_store.specs.declared.pairs.Pair.{Pair}
use Rattle.kin_store.specs.Pairs.{pair}
use Rattle.kin_store.specs.Lists.{half_to, use_of}
use Rattle.kin_graph.specs.declared.deltas.UseRow.{UseRow}
use Rattle.kin_graph.specs.Deltas.{DeltaLists, one_if, new_use, same_pair, HasJust}
use Rattle.kin_changes.specs.Views.{IsWholeView, Grows, delta_at}
use Rattle.kin_changes.specs.Told.{is_to}

-- one of a list passes at most
module _ {X : Type 0} (f : X → Bool) (z : X) where
  pub any-none : (xs : List X) → ((p : ℕ) → p < length xs → f (slice_index_or xs p z) ≡ false) → list_any f xs ≡ false
  any-none [] none = refl
  any-none (x ∷ xs) none = rw (none 0 (omega arith)) (any-none xs (λ p lt. none (suc p) (omega arith)))

  pub any-at : (k : ℕ) (xs : List X) → k < length xs → ((p : ℕ) → p < length xs → (p ≡ k → ⊥) → f (slice_index_or xs p z) ≡ false)
      → list_any f xs ≡ f (slice_index_or xs k z)
  any-at k [] lt none = absurd (omega arith)
  any-at zero (x ∷ xs) lt none = ap (λ (b : Bool). f x || b) (any-none xs (λ p within. none (suc p) (omega arith) (λ e. omega arith)))
      ∙ or-false (f x) where
        or-false : (b : Bool) → (b || false) ≡ b
        or-false true = refl
        or-false false = refl
  any-at (suc k) (x ∷ xs) lt none =
      ap (λ (b : Bool). b || list_any f xs) (none 0 (omega arith) (λ e. omega arith))
      ∙ any-at k xs (omega arith) (λ p within other. none (suc p) (omega arith) (λ e. other (omega (arith, e))))

-- one adds something at most
module _ {X : Type 0} (f : X → ℕ) (z : X) where
  sum-none : (xs : List X) → ((p : ℕ) → p < length xs → f (slice_index_or xs p z) ≡ 0) → sum_by f xs ≡ 0
  sum-none [] none = refl
  sum-none (x ∷ xs) none =
      let first : f x ≡ 0 = none 0 (omega arith) in
      sum_by-cons f x xs ∙ omega (arith, first, sum-none xs (λ p lt. none (suc p) (omega arith)))

  pub sum-at : (k : ℕ) (xs : List X) → k < length xs → ((p : ℕ) → p < length xs → (p ≡ k → ⊥) → f (slice_index_or xs p z) ≡ 0)
      → sum_by f xs ≡ f (slice_index_or xs k z)
  sum-at k [] lt none = absurd (omega arith)
  sum-at zero (x ∷ xs) lt none =
      let rest : sum_by f xs ≡ 0 = sum-none xs (λ p within. none (suc p) (omega arith) (λ e. omega arith)) in
      sum_by-cons f x xs ∙ omega (arith, rest)
  sum-at (suc k) (x ∷ xs) lt none =
      let first : f x ≡ 0 = none 0 (omega arith) (λ e. omega arith) in
      let rest : sum_by f xs ≡ f (slice_index_or xs k z) = sum-at k xs (omega arith)
      (λ p within other. none (suc p) (omega arith) (λ e. other (omega (arith, e)))) in
      sum_by-cons f x xs ∙ omega (arith, first, rest)

-- what is told at home, and elsewhere
pub at-home : {A : Type 0} (F : Bool → A) (x : A) (k : ℕ) → x ≡ F (k == k) → x ≡ F true
at-home F x k e = e ∙ ap F (eq-eqb k k refl)

pub elsewhere : {A : Type 0} (F : Bool → A) (x : A) (k p : ℕ) → (p ≡ k → ⊥) → x ≡ F (k == p) → x ≡ F false
elsewhere F x k p other e = e ∙ ap F (ne_eqb k p (λ same. other (sym same)))

module _ (ds : List DeltaLists) (k : ℕ) (within : k < length ds) where
  pub any-home : (D : DeltaLists → Bool) (F : Bool → Bool) → F false ≡ false → ((p : ℕ) → p < length ds → D (delta_at ds p) ≡ F (k == p))
      → list_any D ds ≡ F true
  any-home D F none each = any-at D _ k ds within (λ p lt other. elsewhere F _ k p other (each p lt) ∙ none) ∙ at-home F _ k (each k within)

  pub sum-home : (D : DeltaLists → ℕ) (F : Bool → ℕ) → F false ≡ 0 → ((p : ℕ) → p < length ds → D (delta_at ds p) ≡ F (k == p))
      → sum_by D ds ≡ F true
  sum-home D F none each = sum-at D _ k ds within (λ p lt other. elsewhere F _ k p other (each p lt) ∙ none) ∙ at-home F _ k (each k within)

pub user-home : (n : ℕ) (u : User) → 0 < n → user_part n u < n
user-home n u some = omega arith

pub tag-home : (n : ℕ) (t : List ℕ) → 0 < n → tag_part n t < n
tag-home n t some = omega arith

-- what is left of a list by a test
abbrev pub has-some : {X : Type 0} → List X → Bool
has-some [] = false
has-some (x ∷ xs) = true

pub any-filter : {X : Type 0} (q : X → Bool) (xs : List X) → list_any q xs ≡ has-some (filter q xs)
any-filter q [] = refl
any-filter q (x ∷ xs) = here (q x) (any-filter q xs) where
  here : (b : Bool) → list_any q xs ≡ has-some (filter q xs) → (b || list_any q xs) ≡ has-some (cond b (x ∷ filter q xs) (filter q xs))
  here true rest = refl
  here false rest = rest

has-one : {X : Type 0} (b : Bool) (x : X) → has-some (one_if b x) ≡ b
has-one true x = refl
has-one false x = refl

length-one : {X : Type 0} (b : Bool) (x : X) → length (one_if b x) ≡ cond b 1 0
length-one true x = refl
length-one false x = refl

pub any-one : {X : Type 0} (q : X → Bool) (xs : List X) (b : Bool) (x : X) → filter q xs ≡ one_if b x → list_any q xs ≡ b
any-one {X} q xs b x e = any-filter q xs ∙ (ap (λ (ys : List X). has-some ys) e ∙ has-one b x)

pub count-one : {X : Type 0} (q : X → Bool) (xs : List X) (b : Bool) (x : X) → filter q xs ≡ one_if b x → count_by q xs ≡ cond b 1 0
count-one {X} q xs b x e = sym (length-filter q xs) ∙ (ap (λ (ys : List X). length ys) e ∙ length-one b x)

pub any-just : (f : Pair → Bool) (ps : List Pair) → HasJust f ps → (u w : User) → list_any (is_to u w) ps ≡ f (pair u w)
any-just f ps just u w = any-one (same_pair (pair u w)) ps (f (pair u w)) (pair u w) (just (pair u w))

has-new_use : (u : User) (a b : Option Use) → has-some (new_use u a b) ≡ (is_some b && not (is_some a))
has-new_use u None None = refl
has-new_use u (Some y) None = refl
has-new_use u (Some y) (Some x) = refl
has-new_use u None (Some x) = refl

pub any-use : (u : User) (t : List ℕ) (xs : List UseRow) (a b : Option Use)
    → filter (λ (x : UseRow). same_user u x.user && same_tag t x.entry.tag) xs ≡ new_use u a b
    → list_any (λ (x : UseRow). same_user u x.user && same_tag t x.entry.tag) xs ≡ (is_some b && not (is_some a))
any-use u t xs a b e = any-filter _ xs ∙ (ap (λ (ys : List UseRow). has-some ys) e ∙ has-new_use u a b)

-- what was handed out still is, also on the other side
module _ (was is : PartView) (before : IsWholeView was) (after : IsWholeView is) (more : Grows was is) where
  pub more-in : (u w : User) → is_some (half_to (was.inn u) w) ≡ true → is_some (half_to (is.inn u) w) ≡ true
  more-in u w e = sym (after.follows w u) ∙ more.out w u (before.follows w u ∙ e)

  pub more-mentioners : (u w : User) → has_user (was.mentioners u) w ≡ true → has_user (is.mentioners u) w ≡ true
  more-mentioners u w e = sym (after.mentioned w u) ∙ more.mentions w u (before.mentioned w u ∙ e)

  pub more-uses : (u : User) (t : List ℕ) → is_some (use_of (was.uses u) t) ≡ true → is_some (use_of (is.uses u) t) ≡ true
  more-uses u t e = by_found (use_of (was.uses u) t) refl e where
    by_found : (o : Option Use) → use_of (was.uses u) t ≡ o → is_some o ≡ true → is_some (use_of (is.uses u) t) ≡ true
    by_found None d f = absurd cc
    by_found (Some x) d f = ap is_some (more.uses u t x d)

  pub more-tags : (t : List ℕ) (u : User) → has_user (was.tag_users t) u ≡ true → has_user (is.tag_users t) u ≡ true
  more-tags t u e = sym (after.tagged u t) ∙ more-uses u t (before.tagged u t ∙ e)
