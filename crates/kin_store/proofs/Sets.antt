-- Stores in which one block was written.
use Rattle.std.proofs.Common.{◌≡◌, ℕ, ◌<◌, ◌/◌, ◌%◌, eqb, cond, Bool, true, false, if◌then◌else◌, List, [], length, slice_set}
use Rattle.std.proofs.Common.{slice_index_or, refl, sym, ap, ◌∙◌, subst, arith}
use Rattle.std.specs.Prelude.{OnOk, OnErr}
use Rattle.std.specs.Cmp.{Equal-is}
use Rattle.std.proofs.lemmas.List.{length-set}
use Rattle.std.proofs.lemmas.Bool.Decides.{nat_tests}
use Rattle.kin_ids.proofs.Rounds.{get_or-set}
use Rattle.kin_ids.specs.declared.ids.User.{User}
use Rattle.kin_ids.specs.Users.{user_cmp, tag_cmp, same_user, same_tag}
use Rattle.kin_ids.specs.Parting.{user_part, tag_part}
use Rattle.kin_store.specs.Rows.{UserRow, no_row}
use Rattle.kin_store.specs.Changes.{Kept, with_row, with_users, kept_in, kept}
use Rattle.kin_store.proofs.Orders.{user_exact, tag_exact, either-result}
use Rattle.std.specs.declared.result.Result.{Result}
use Rattle.kin_store.specs.Blocks.{BlockState, empty_block, row_in, slot_of, users_in}
use Rattle.kin_store.specs.State.{PartState, IsPartStore, LivesHere, block_at, row_of, users_of, user_slot, tag_slot}

pub same_slot : (m n : ℕ) → eqb m n ≡ true → m ≡ n
same_slot m n e = grind (arith, nat_tests, e)

pub other_slot : (m n : ℕ) → eqb m n ≡ false → m ≡ n → ⊥
other_slot m n e same = grind (arith, nat_tests, e, same)

abbrev pub with_block : PartState → ℕ → BlockState → PartState
with_block s k b = record s { blocks = slice_set s.blocks k b }

module _ (s : PartState) (k : ℕ) (b : BlockState) (within : k < length s.blocks) where
  row-set : (q : User) → row_of (with_block s k b) q ≡ cond (eqb k (user_slot s q)) (row_in b q) (row_of s q)
  row-set q =
      ap (λ (n : ℕ). row_in (slice_index_or (slice_set s.blocks k b) ((q.0 / s.parts) % n) empty_block) q) (length-set s.blocks k b)
      ∙ (ap (λ (x : BlockState). row_in x q) (get_or-set s.blocks k (user_slot s q) b empty_block within)
      ∙ push (eqb k (user_slot s q))) where
        push : (t : Bool) → row_in (cond t b (block_at s (user_slot s q))) q ≡ cond t (row_in b q) (row_of s q)
        push true = refl
        push false = refl

  users-set : (q : List ℕ) → users_of (with_block s k b) q ≡ cond (eqb k (tag_slot s q)) (users_in b q) (users_of s q)
  users-set q =
      ap (λ (n : ℕ). users_in (slice_index_or (slice_set s.blocks k b) (tag_part 65521 q % n) empty_block) q) (length-set s.blocks k b)
      ∙ (ap (λ (x : BlockState). users_in x q) (get_or-set s.blocks k (tag_slot s q) b empty_block within)
      ∙ push (eqb k (tag_slot s q))) where
        push : (t : Bool) → users_in (cond t b (block_at s (tag_slot s q))) q ≡ cond t (users_in b q) (users_of s q)
        push true = refl
        push false = refl

  row-same : (q : User) → row_in b q ≡ row_in (block_at s k) q → row_of (with_block s k b) q ≡ row_of s q
  row-same q e = row-set q ∙ by_test (eqb k (user_slot s q)) refl where
    by_test : (t : Bool) → eqb k (user_slot s q) ≡ t → cond t (row_in b q) (row_of s q) ≡ row_of s q
    by_test true t = e ∙ ap (λ (j : ℕ). row_in (block_at s j) q) (same_slot k (user_slot s q) t)
    by_test false t = refl

  users-same : (q : List ℕ) → users_in b q ≡ users_in (block_at s k) q → users_of (with_block s k b) q ≡ users_of s q
  users-same q e = users-set q ∙ by_test (eqb k (tag_slot s q)) refl where
    by_test : (t : Bool) → eqb k (tag_slot s q) ≡ t → cond t (users_in b q) (users_of s q) ≡ users_of s q
    by_test true t = e ∙ ap (λ (j : ℕ). users_in (block_at s j) q) (same_slot k (tag_slot s q) t)
    by_test false t = refl

  -- a block in which one user's row changed
  pub kept-row : (u : User) (r : UserRow) → k ≡ user_slot s u → kept_in b ≡ with_row (kept_in (block_at s k)) u r
      → kept (with_block s k b) ≡ with_row (kept s) u r
  kept-row u r at e = λ i. record {
    row = λ q. (row-set q ∙ by_test q (eqb k (user_slot s q)) refl) i;
    users = λ q. users-same q (ap (λ (m : Kept). m.users q) e) i;
  } where
    away : (q : User) (t : Bool) → same_user u q ≡ t → eqb k (user_slot s q) ≡ false → row_of s q ≡ (if t then r else row_of s q)
    away q true t f = absurd (other_slot k (user_slot s q) f (at ∙ ap (user_slot s) (user_exact u q ((Equal-is (user_cmp u q)).0 t))))
    away q false t f = refl

    by_test : (q : User) (t : Bool) → eqb k (user_slot s q) ≡ t → cond t (row_in b q) (row_of s q)
        ≡ (if same_user u q then r else row_of s q)
    by_test q true t = ap (λ (m : Kept). m.row q) e ∙ ap (λ (j : ℕ). if same_user u q then r else row_in (block_at s j) q)
        (same_slot k (user_slot s q) t)
    by_test q false t = away q (same_user u q) refl t

  -- a block in which one tag's users changed
  pub kept-users : (u : List ℕ) (r : List User) → k ≡ tag_slot s u → kept_in b ≡ with_users (kept_in (block_at s k)) u r
      → kept (with_block s k b) ≡ with_users (kept s) u r
  kept-users u r at e = λ i. record {
    row = λ q. row-same q (ap (λ (m : Kept). m.row q) e) i;
    users = λ q. (users-set q ∙ by_test q (eqb k (tag_slot s q)) refl) i;
  } where
    away : (q : List ℕ) (t : Bool) → same_tag u q ≡ t → eqb k (tag_slot s q) ≡ false → users_of s q ≡ (if t then r else users_of s q)
    away q true t f = absurd (other_slot k (tag_slot s q) f (at ∙ ap (tag_slot s) (tag_exact u q ((Equal-is (tag_cmp u q)).0 t))))
    away q false t f = refl

    by_test : (q : List ℕ) (t : Bool) → eqb k (tag_slot s q) ≡ t → cond t (users_in b q) (users_of s q)
        ≡ (if same_tag u q then r else users_of s q)
    by_test q true t = ap (λ (m : Kept). m.users q) e ∙ ap (λ (j : ℕ). if same_tag u q then r else users_in (block_at s j) q)
        (same_slot k (tag_slot s q) t)
    by_test q false t = away q (same_tag u q) refl t

-- what a store of the same partition keeps tells who has something there
pub home-row : (s n : PartState) (u : User) (r : UserRow) → n.part ≡ s.part → n.parts ≡ s.parts → user_part s.parts u ≡ s.part
    → kept n ≡ with_row (kept s) u r → LivesHere s → LivesHere n
home-row s n u r part parts home e h = record {
  users = λ q far. ap (λ (m : Kept). m.row q) e
      ∙ by_test q (same_user u q) refl (λ here. far (ap (λ (j : ℕ). user_part j q) parts ∙ (here ∙ sym part)));
  tags = λ q far. ap (λ (m : Kept). m.users q) e ∙ h.tags q (λ here. far (ap (λ (j : ℕ). tag_part j q) parts ∙ (here ∙ sym part)));
} where
  by_test : (q : User) (t : Bool) → same_user u q ≡ t → (user_part s.parts q ≡ s.part → ⊥) → (if t then r else row_of s q) ≡ no_row
  by_test q true t far = absurd (far (subst (λ (v : User). user_part s.parts v ≡ s.part) (user_exact u q ((Equal-is (user_cmp u q)).0 t))
      home))
  by_test q false t far = h.users q far

pub home-users : (s n : PartState) (u : List ℕ) (r : List User) → n.part ≡ s.part → n.parts ≡ s.parts → tag_part s.parts u ≡ s.part
    → kept n ≡ with_users (kept s) u r → LivesHere s → LivesHere n
home-users s n u r part parts home e h = record {
  users = λ q far. ap (λ (m : Kept). m.row q) e ∙ h.users q (λ here. far (ap (λ (j : ℕ). user_part j q) parts ∙ (here ∙ sym part)));
  tags = λ q far. ap (λ (m : Kept). m.users q) e
      ∙ by_test q (same_tag u q) refl (λ here. far (ap (λ (j : ℕ). tag_part j q) parts ∙ (here ∙ sym part)));
} where
  by_test : (q : List ℕ) (t : Bool) → same_tag u q ≡ t → (tag_part s.parts q ≡ s.part → ⊥) → (if t then r else users_of s q) ≡ []
  by_test q true t far = absurd (far (subst (λ (v : List ℕ). tag_part s.parts v ≡ s.part) (tag_exact u q ((Equal-is (tag_cmp u q)).0 t))
      home))
  by_test q false t far = h.tags q far

-- a block was written, or nothing, whatever came of it
module _ (s : PartState) (k : ℕ) (n : List BlockState) (ok : IsPartStore s) (within : k < length s.blocks)
    (others : n ≡ slice_set s.blocks k (slot_of n k)) where
  rewritten : LivesHere (with_block s k (slot_of n k)) → IsPartStore (record s { blocks = n })
  rewritten home = subst (λ (l : List BlockState). IsPartStore (record s { blocks = l })) (sym others) (record {
    some = omega (arith, length-set s.blocks k (slot_of n k), ok.some);
    within = ok.within;
    home = home;
  })

  unwritten : n ≡ s.blocks → IsPartStore (record s { blocks = n })
  unwritten e = subst (λ (l : List BlockState). IsPartStore (record s { blocks = l })) (sym e) ok

  pub blocks-row : (u : User) (r : UserRow) {X Y : Type 0} (res : Result X Y) → k ≡ user_slot s u → user_part s.parts u ≡ s.part
      → OnOk res (kept_in (slot_of n k) ≡ with_row (kept_in (block_at s k)) u r) → OnErr res (n ≡ s.blocks)
      → IsPartStore (record s { blocks = n })
  blocks-row u r res at home done same = either-result (IsPartStore (record s { blocks = n })) _ _ res done same
      (λ e. rewritten (home-row s (with_block s k (slot_of n k)) u r refl refl home (kept-row s k (slot_of n k) within u r at e) ok.home))
      unwritten

  pub blocks-users : (u : List ℕ) (r : List User) {X Y : Type 0} (res : Result X Y) → k ≡ tag_slot s u → tag_part s.parts u ≡ s.part
      → OnOk res (kept_in (slot_of n k) ≡ with_users (kept_in (block_at s k)) u r) → OnErr res (n ≡ s.blocks)
      → IsPartStore (record s { blocks = n })
  blocks-users u r res at home done same = either-result (IsPartStore (record s { blocks = n })) _ _ res done same
      (λ e. rewritten (home-users s (with_block s k (slot_of n k)) u r refl refl home (kept-users s k (slot_of n k) within u r at e)
      ok.home)) unwritten
