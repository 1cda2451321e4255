-- Who is a vertex of the stores together, and which tags are in use.
use Rattle.std.proofs.Common.{◌≡◌, ℕ, ◌<◌, Bool, true, false, not, List, length, get_or, ⊎_elim, sym, ap, ◌∙◌, subst}
use Rattle.std.specs.List.{list_any}
use Rattle.std.proofs.lemmas.Bool.{cases_Bool, cases_eq}
use Rattle.std.proofs.lemmas.List.{get_or_default}
use Rattle.std.proofs.lemmas.List.Folds.{list_any_none, list_any_at}
use Rattle.kin_ids.specs.declared.ids.User.{User}
use Rattle.kin_ids.specs.Parting.{user_part, tag_part}
use Rattle.kin_graph.specs.Rows.{UserRow, is_apart, is_none}
use Rattle.kin_graph.specs.State.{PartState, LivesHere, empty_part, view_of}
use Rattle.kin_graph.specs.Views.{is_vertex, is_in_use}
use Rattle.kin_blocks.specs.Snaps.{IsSnap, state_at, joined}
use Rattle.kin_blocks.proofs.Wholes.{user_part-below, tag_part-below}

-- where one place alone can pass a test, some element passes exactly if the one there does
any-at-one : {X : Type 0} (p : X → Bool) (xs : List X) (j : ℕ) (d : X) → j < length xs
    → ((k : ℕ) → k < length xs → (k ≡ j → ⊥) → p (get_or xs k d) ≡ false) → list_any p xs ≡ p (get_or xs j d)
any-at-one p xs j d below others =
    ⊎_elim (λ (t : p (get_or xs j d) ≡ true). list_any_at p xs j d below t ∙ sym t)
    (λ (n : p (get_or xs j d) ≡ false). list_any_none p xs (λ k e h. ap p (get_or_default xs k e d h) ∙ none n k h) ∙ sym n)
    (cases_Bool (p (get_or xs j d))) where
      none : p (get_or xs j d) ≡ false → (k : ℕ) → k < length xs → p (get_or xs k d) ≡ false
      none n k h = ⊎_elim (λ (e : k ≡ j). subst (λ (i : ℕ). p (get_or xs i d) ≡ false) (sym e) n) (λ (ne : k ≡ j → ⊥). others k h ne)
          (cases_eq k j)

module _ (stores : List PartState) (snap : IsSnap stores) (home : (k : ℕ) → k < length stores → LivesHere (state_at stores k)) where
  -- a user is a vertex of a store of another partition never
  no-vertex : (u : User) (k : ℕ) → k < length stores → (k ≡ user_part (length stores) u → ⊥) → is_vertex (view_of (state_at stores k)) u
      ≡ false
  no-vertex u k h other =
      ap (λ (r : UserRow). not (is_apart r)) ((home k h).users u
      (λ e. other (sym (snap.part k h) ∙ (sym e ∙ ap (λ (n : ℕ). user_part n u) (snap.parts k h)))))

  no-use : (t : List ℕ) (k : ℕ) → k < length stores → (k ≡ tag_part (length stores) t → ⊥) → is_in_use (view_of (state_at stores k)) t
      ≡ false
  no-use t k h other =
      ap (λ (us : List User). not (is_none us))
      ((home k h).tags t (λ e. other (sym (snap.part k h) ∙ (sym e ∙ ap (λ (n : ℕ). tag_part n t) (snap.parts k h)))))

  pub any-vertex : (u : User) → list_any (λ s. is_vertex (view_of s) u) stores ≡ is_vertex (joined stores) u
  any-vertex u = any-at-one (λ s. is_vertex (view_of s) u) stores (user_part (length stores) u) (empty_part 0 0)
      (user_part-below (length stores) u snap.some) (no-vertex u)

  pub any-use : (t : List ℕ) → list_any (λ s. is_in_use (view_of s) t) stores ≡ is_in_use (joined stores) t
  any-use t = any-at-one (λ s. is_in_use (view_of s) t) stores (tag_part (length stores) t) (empty_part 0 0)
      (tag_part-below (length stores) t snap.some) (no-use t)
