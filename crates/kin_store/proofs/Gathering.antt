-- Users and tags that are gathered block by block.
use Rattle.std.proofs.Common.{◌≡◌, ℕ, ◌+◌, ◌<◌, ◌≤◌, ◌||◌, Bool, true, false, cond, filter, List, [], ◌∷◌, Option, Some, None, is_some}
use Rattle.std.proofs.Common.{◌++◌, unwrap_or, refl, sym, ap, ◌∙◌, arith, ⊎_elim}
use Rattle.std.specs.List.{list_any}
use Rattle.std.specs.Map.{lookup, keys_of}
use Rattle.std.specs.BTreeMap.{is_at}
use Rattle.std.specs.Cmp.{Equal-is}
use Rattle.std.specs.declared.cmp.Ordering.{Ordering}
use Rattle.std.specs.declared.cmp.Ordering.TheVariants.{Equal}
use Rattle.std.proofs.lemmas.Bool.{cases_lt, or_parts}
use Rattle.std.proofs.lemmas.List.Folds.{list_any-append}
use Rattle.std.proofs.lemmas.Map.Made.{is_some-lookup}
use Rattle.kin_ids.specs.declared.ids.User.{User}
use Rattle.kin_ids.specs.Users.{has_user, same_user, user_cmp}
use Rattle.kin_store.specs.Rows.{no_row}
use Rattle.kin_store.specs.Blocks.{row_in}
use Rattle.kin_store.specs.State.{PartState, block_at, row_of, user_slot}

-- keys that pass a test, among which are those that are looked for
module _ {K : Type 0} {R : K → K → Ordering} (exact : (x y : K) → R x y ≡ Equal → x ≡ y) (p : K → Bool) (u : K) where
  pub kept_pass : (ks : List K) → list_any (is_at (R u)) (filter p ks) ≡ true → p u ≡ true
  kept_pass [] e = absurd cc
  kept_pass (k ∷ ks) e = by_test (p k) refl (kept_pass ks) e where
    found : (b : Bool) → is_at (R u) k ≡ b → p k ≡ true → (list_any (is_at (R u)) (filter p ks) ≡ true → p u ≡ true)
        → (b || list_any (is_at (R u)) (filter p ks)) ≡ true → p u ≡ true
    found true t q rest h = ap p (exact u k ((Equal-is (R u k)).0 t)) ∙ q
    found false t q rest h = rest h

    by_test : (b : Bool) → p k ≡ b → (list_any (is_at (R u)) (filter p ks) ≡ true → p u ≡ true)
        → list_any (is_at (R u)) (cond b (k ∷ filter p ks) (filter p ks)) ≡ true → p u ≡ true
    by_test true q rest h = found (is_at (R u) k) refl q rest h
    by_test false q rest h = rest h

  pub pass_kept : (ks : List K) → p u ≡ true → list_any (is_at (R u)) ks ≡ true → list_any (is_at (R u)) (filter p ks) ≡ true
  pass_kept [] q e = absurd cc
  pass_kept (k ∷ ks) q e = by_test (is_at (R u) k) refl (pass_kept ks q) e where
    past : (b : Bool) → (list_any (is_at (R u)) (filter p ks) ≡ true) → list_any (is_at (R u)) (cond b (k ∷ filter p ks) (filter p ks))
        ≡ true
    past true h = or_right (is_at (R u) k) h where
      or_right : (a : Bool) {b : Bool} → b ≡ true → (a || b) ≡ true
      or_right true h = refl
      or_right false h = h
    past false h = h

    by_test : (b : Bool) → is_at (R u) k ≡ b → (list_any (is_at (R u)) ks ≡ true → list_any (is_at (R u)) (filter p ks) ≡ true)
        → (b || list_any (is_at (R u)) ks) ≡ true → list_any (is_at (R u)) (filter p (k ∷ ks)) ≡ true
    by_test true t rest h =
        let pass : p k ≡ true = sym (ap p (exact u k ((Equal-is (R u k)).0 t))) ∙ q in
        rw (pass, t) refl
    by_test false t rest h = past (p k) (rest h)

-- those who pass and whose block is one of the first n are there, and none who doesn't pass
pub record Gathers {K : Type 0} (R : K → K → Ordering) (slot : K → ℕ) (p : K → Bool) (n : ℕ) (ks : List K) : Type 0 where
  pub sound : (u : K) → list_any (is_at (R u)) ks ≡ true → p u ≡ true
  pub whole : (u : K) → slot u < n → p u ≡ true → list_any (is_at (R u)) ks ≡ true

module _ {K : Type 0} {R : K → K → Ordering} (exact : (x y : K) → R x y ≡ Equal → x ≡ y) (slot : K → ℕ) (p : K → Bool) where
  pub gathers-none : Gathers R slot p 0 []
  gathers-none = record { sound = λ u h. absurd cc; whole = λ u h q. absurd (omega (arith, h)) }

  -- one block more
  pub gathers-more : (n : ℕ) (old block new : List K) → Gathers R slot p n old
      → ((u : K) → slot u ≡ n → p u ≡ true → list_any (is_at (R u)) block ≡ true)
      → ((u : K) → list_any (is_at (R u)) new ≡ (list_any (is_at (R u)) old || list_any (is_at (R u)) (filter p block)))
      → Gathers R slot p (n + 1) new
  gathers-more n old block new g all put = record { sound = sound; whole = whole } where
    either : (u : K) (a b : Bool) → (a ≡ true → p u ≡ true) → (b ≡ true → p u ≡ true) → (a || b) ≡ true → p u ≡ true
    either u true b f g h = f refl
    either u false b f g h = g h

    sound : (u : K) → list_any (is_at (R u)) new ≡ true → p u ≡ true
    sound u h = either u (list_any (is_at (R u)) old) (list_any (is_at (R u)) (filter p block)) (g.sound u) (kept_pass exact p u block)
        (sym (put u) ∙ h)

    left : (a b : Bool) → a ≡ true → (a || b) ≡ true
    left true b h = refl
    left false b h = absurd cc

    right : (a b : Bool) → b ≡ true → (a || b) ≡ true
    right true b h = refl
    right false b h = h

    whole : (u : K) → slot u < n + 1 → p u ≡ true → list_any (is_at (R u)) new ≡ true
    whole u h q = put u ∙ ⊎_elim
        (λ (below : slot u < n). left (list_any (is_at (R u)) old) (list_any (is_at (R u)) (filter p block)) (g.whole u below q))
        (λ (above : n ≤ slot u). let here : slot u ≡ n = omega (arith, h, above) in
        right (list_any (is_at (R u)) old) (list_any (is_at (R u)) (filter p block)) (pass_kept exact p u block q (all u here q)))
        (cases_lt (slot u) n)

  -- all blocks
  pub gathers-all : (n : ℕ) (ks : List K) → Gathers R slot p n ks → ((u : K) → slot u < n) → (u : K) → list_any (is_at (R u)) ks ≡ p u
  gathers-all n ks g within u = by_test (p u) refl where
    untrue : (b : Bool) → list_any (is_at (R u)) ks ≡ b → p u ≡ false → b ≡ false
    untrue true h q = absurd (not_both (sym (g.sound u h) ∙ q)) where
      not_both : true ≡ false → ⊥
      not_both e = cc
    untrue false h q = refl

    by_test : (b : Bool) → p u ≡ b → list_any (is_at (R u)) ks ≡ b
    by_test true q = g.whole u (within u) q
    by_test false q = untrue (list_any (is_at (R u)) ks) refl q

-- a key whose value isn't the one of an absent key is there
pub kept_there : {K X : Type 0} (R : K → K → Ordering) (u : K) (es : List (K × X)) (d : X) (f : X → Bool) → f d ≡ false
    → f (unwrap_or (lookup (is_at (R u)) es) d) ≡ true → list_any (is_at (R u)) (keys_of es) ≡ true
kept_there R u es d f none some = sym (is_some-lookup (is_at (R u)) es) ∙ by_case (lookup (is_at (R u)) es) some where
  by_case : (o : Option _) → f (unwrap_or o d) ≡ true → is_some o ≡ true
  by_case None h = absurd (not_both (sym h ∙ none)) where
    not_both : true ≡ false → ⊥
    not_both e = cc
  by_case (Some x) h = refl

-- who is no key has the value of an absent one
pub none_there : {K X : Type 0} (R : K → K → Ordering) (u : K) (es : List (K × X)) (d : X) → list_any (is_at (R u)) (keys_of es) ≡ false
    → unwrap_or (lookup (is_at (R u)) es) d ≡ d
none_there R u es d none = by_case (lookup (is_at (R u)) es) (is_some-lookup (is_at (R u)) es ∙ none) where
  by_case : (o : Option _) → is_some o ≡ false → unwrap_or o d ≡ d
  by_case None h = refl
  by_case (Some x) h = absurd cc

-- who isn't among them, and whose block is one of the first n, has no row
abbrev pub OwnersTo : PartState → ℕ → List User → Type 0
OwnersTo s n us = (u : User) → user_slot s u < n → has_user us u ≡ false → row_of s u ≡ no_row

-- one block more
pub owners-more : (s : PartState) (n : ℕ) (old new : List User) → OwnersTo s n old → new ≡ old ++ keys_of (block_at s n).rows
    → OwnersTo s (n + 1) new
owners-more s n old new all is u lt none =
    let more = keys_of (block_at s n).rows in
    let split : (has_user old u || has_user more u) ≡ false =
    sym (list_any-append (same_user u) old more) ∙ ap (λ (us : List User). has_user us u) (sym is) ∙ none in
    let parts = or_parts (has_user old u) (has_user more u) split in
    ⊎_elim
    (λ (below : user_slot s u < n). all u below parts.0)
    (λ (above : n ≤ user_slot s u). let here : user_slot s u ≡ n = omega (arith, lt, above) in
    ap (λ (k : ℕ). row_in (block_at s k) u) here ∙ none_there user_cmp u (block_at s n).rows no_row parts.1)
    (cases_lt (user_slot s u) n)
