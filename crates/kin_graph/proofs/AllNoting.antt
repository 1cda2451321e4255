-- Notes of all that a store has.
use Rattle.std.proofs.Common.{◌≡◌, ℕ, ◌+◌, ◌<◌, ◌&&◌, ◌||◌, Bool, true, false, cond, not, List, [], ◌∷◌, length, take, get_or}
use Rattle.std.proofs.Common.{Some, None, ◌⊎◌, inl, inr, ⊎_elim, refl, sym, ap, ap₂, ◌∙◌, subst, arith}
use Rattle.std.specs.List.{list_any}
use Rattle.std.proofs.lemmas.Bool.{both_ways}
use Rattle.std.proofs.lemmas.Bool.Decides.{nat_tests}
use Rattle.std.proofs.lemmas.List.{take_more}
use Rattle.std.proofs.lemmas.List.Folds.{list_any-append}
use Rattle.kin_ids.specs.declared.ids.User.{User}
use Rattle.kin_ids.specs.declared.ops.Half.{Half}
use Rattle.kin_ids.specs.declared.ops.Use.{Use}
use Rattle.kin_ids.specs.Users.{same_user, same_tag, has_user}
use Rattle.kin_ids.specs.Parts.{PartView}
use Rattle.kin_ids.proofs.Same.{same_user-sym, same_user-refl, same_user-true, same_tag-sym, same_tag-refl, same_tag-true}
use Rattle.kin_store.specs.Rows.{UserRow, is_none, no_row}
use Rattle.kin_store.specs.State.{PartState, empty_part, row_of, users_of, view_of}
use Rattle.kin_store.proofs.Empties.{empty-row, empty-users}
use Rattle.kin_store.specs.declared.pairs.TagUser.{TagUser}
use Rattle.kin_store.specs.Pairs.{pair, tag_user}
use Rattle.kin_graph.specs.Deltas.{half_to, use_of, same_pair, HasAll}
use Rattle.kin_graph.specs.Touches.{TouchedLists, has_tag_user, same_tag_user, IsTouched, KeepsNotes, NotesAll, NotesRow, NotesUsers}

-- where one of two tests passes, and both don't
other-false : (a b : Bool) → (a && b) ≡ false → a ≡ true → b ≡ false
other-false true b e t = e
other-false false b e t = absurd (both_ways false refl t)

one-false : (a b : Bool) → (a && b) ≡ false → b ≡ true → a ≡ false
one-false true b e t = absurd (both_ways b e t)
one-false false b e t = refl

-- ---- items of a list, one after the other: what isn't noted is read alike in the list and in what is left of it

module _ {P : Type 0} (old new : P → Bool) (kept : (p : P) → new p ≡ false → old p ≡ false) where
  -- one item more, past which what isn't noted is read as before it
  pub left-step : {X K Z : Type 0} (at : K → P) (read : List X → K → Z) (all left rest : List X) (x : X) → left ≡ x ∷ rest
      → ((k : K) → new (at k) ≡ false → read (x ∷ rest) k ≡ read rest k)
      → ((k : K) → old (at k) ≡ false → read all k ≡ read left k)
      → (k : K) → new (at k) ≡ false → read all k ≡ read rest k
  left-step at read all left rest x first past before k none = before k (kept (at k) none) ∙ ap (λ l. read l k) first ∙ past k none

pub past-half : (u w : User) (h : Half) (rest : List Half) → same_pair (pair u h.other) (pair u w) ≡ false
    → half_to (h ∷ rest) w ≡ half_to rest w
past-half u w h rest away =
    let away_too = other-false (same_user u u) (same_user h.other w) away (same_user-refl u) in
    let miss : same_user w h.other ≡ false = same_user-sym w h.other ∙ away_too in
    ap (λ (b : Bool). cond b (Some h) (half_to rest w)) miss

pub past-user : (u w x : User) (rest : List User) → same_pair (pair u x) (pair u w) ≡ false → has_user (x ∷ rest) w ≡ has_user rest w
past-user u w x rest away =
    let miss : same_user w x ≡ false = same_user-sym w x ∙ other-false (same_user u u) (same_user x w) away (same_user-refl u) in
    ap (λ (b : Bool). b || has_user rest w) miss

pub past-use : (u : User) (t : List ℕ) (x : Use) (rest : List Use) → same_tag_user (tag_user x.tag u) (tag_user t u) ≡ false
    → use_of (x ∷ rest) t ≡ use_of rest t
past-use u t x rest away =
    let miss : same_tag t x.tag ≡ false = same_tag-sym t x.tag ∙ one-false (same_tag x.tag t) (same_user u u) away (same_user-refl u) in
    ap (λ (b : Bool). cond b (Some x) (use_of rest t)) miss

pub past-tag_user : (t : List ℕ) (w x : User) (rest : List User) → same_tag_user (tag_user t x) (tag_user t w) ≡ false
    → has_user (x ∷ rest) w ≡ has_user rest w
past-tag_user t w x rest away =
    let miss : same_user w x ≡ false = same_user-sym w x ∙ other-false (same_tag t t) (same_user x w) away (same_tag-refl t) in
    ap (λ (b : Bool). b || has_user rest w) miss

some-there : (x : User) (xs : List User) → is_none (x ∷ xs) ≡ false
some-there x xs = grind (arith, nat_tests)

-- ---- rows and tags, one after the other

pub row-kept : (u : User) (r : UserRow) (old new : TouchedLists) → KeepsNotes old new → NotesRow u r old → NotesRow u r new
row-kept u r old new k n = record {
  out = λ w e. n.out w (k.out (pair u w) e);
  inn = λ w e. n.inn w (k.inn (pair u w) e);
  mentions = λ w e. n.mentions w (k.mentions (pair u w) e);
  mentioners = λ w e. n.mentioners w (k.mentioners (pair u w) e);
  said = here (has_user new.said u) refl;
  uses = λ t e. n.uses t (k.uses (tag_user t u) e);
}
  where
    here : (b : Bool) → has_user new.said u ≡ b → b ≡ true
    here true e = refl
    here false e = absurd (both_ways (has_user old.said u) (k.said u e) n.said)

-- the last item of a longer front, or one before it
last-of : {X : Type 0} (p : X → Bool) (xs : List X) (i : ℕ) (d : X) → i < length xs → list_any p (take (i + 1) xs) ≡ true
    → (list_any p (take i xs) ≡ true) ⊎ (p (get_or xs i d) ≡ true)
last-of p xs i d lt h = here (list_any p (take i xs)) (p (get_or xs i d)) refl refl
    (sym (ap (list_any p) (take_more xs i d lt) ∙ list_any-append p (take i xs) (get_or xs i d ∷ [])) ∙ h)
  where
    here : (a b : Bool) → list_any p (take i xs) ≡ a → p (get_or xs i d) ≡ b
        → (list_any p (take i xs) || (p (get_or xs i d) || false)) ≡ true → (list_any p (take i xs) ≡ true) ⊎ (p (get_or xs i d) ≡ true)
    here true b e f h = inl e
    here false true e f h = inr f
    here false false e f h = absurd (both_ways false refl (sym (ap₂ (λ (a b : Bool). a || (b || false)) e f) ∙ h))

pub rows-more : (s : PartState) (users : List User) (i : ℕ) (d : User) (old new : TouchedLists) → i < length users → KeepsNotes old new
    → NotesRow (get_or users i d) (row_of s (get_or users i d)) new
    → ((u : User) → has_user (take i users) u ≡ true → NotesRow u (row_of s u) old)
    → (u : User) → has_user (take (i + 1) users) u ≡ true → NotesRow u (row_of s u) new
rows-more s users i d old new lt kept row before u h = ⊎_elim
    (λ (e : has_user (take i users) u ≡ true). row-kept u (row_of s u) old new kept (before u e))
    (λ (e : same_user u (get_or users i d) ≡ true).
    subst (λ (v : User). NotesRow v (row_of s v) new) (sym (same_user-true u (get_or users i d) e)) row)
    (last-of (same_user u) users i d lt h)

pub tags-more : (s : PartState) (tags : List (List ℕ)) (i : ℕ) (d : List ℕ) (old new : List TagUser) → i < length tags
    → ((p : TagUser) → has_tag_user new p ≡ false → has_tag_user old p ≡ false)
    → NotesUsers (get_or tags i d) (users_of s (get_or tags i d)) new
    → ((t : List ℕ) → list_any (same_tag t) (take i tags) ≡ true → NotesUsers t (users_of s t) old)
    → (t : List ℕ) → list_any (same_tag t) (take (i + 1) tags) ≡ true → NotesUsers t (users_of s t) new
tags-more s tags i d old new lt kept users before t h = ⊎_elim
    (λ (e : list_any (same_tag t) (take i tags) ≡ true). λ u none. before t e u (kept (tag_user t u) none))
    (λ (e : same_tag t (get_or tags i d) ≡ true).
    subst (λ (l : List ℕ). NotesUsers l (users_of s l) new) (sym (same_tag-true t (get_or tags i d) e)) users)
    (last-of (same_tag t) tags i d lt h)

-- ---- all that a store has

module _ (s : PartState) (new : TouchedLists) (users : List User) (tags : List (List ℕ))
    (owners : (u : User) → has_user users u ≡ false → row_of s u ≡ no_row)
    (rows : (u : User) → has_user users u ≡ true → NotesRow u (row_of s u) new) where
  -- what is read of a row that is noted, or is none
  read-row : {Z : Type 0} (g : UserRow → Z) (z : Z) → g no_row ≡ z → (u : User)
      → (NotesRow u (row_of s u) new → g (row_of s u) ≡ z) → g (row_of s u) ≡ z
  read-row g z none u noted = here (has_user users u) refl
    where
      here : (b : Bool) → has_user users u ≡ b → g (row_of s u) ≡ z
      here true e = noted (rows u e)
      here false e = ap g (owners u e) ∙ none

  pub all-noted : ((t : List ℕ) → list_any (same_tag t) tags ≡ not (is_none (users_of s t)))
      → ((t : List ℕ) → list_any (same_tag t) tags ≡ true → NotesUsers t (users_of s t) new.tag_users) → NotesAll (view_of s) new
  all-noted in_use noted = record {
    out = λ p e. read-row (λ (r : UserRow). half_to r.out p.other) None refl p.user (λ n. n.out p.other e);
    inn = λ p e. read-row (λ (r : UserRow). half_to r.inn p.other) None refl p.user (λ n. n.inn p.other e);
    mentions = λ p e. read-row (λ (r : UserRow). has_user r.mentions p.other) false refl p.user (λ n. n.mentions p.other e);
    mentioners = λ p e. read-row (λ (r : UserRow). has_user r.mentioners p.other) false refl p.user (λ n. n.mentioners p.other e);
    said = λ u e. read-row (λ (r : UserRow). r.said) 0 refl u (λ n. absurd (both_ways (has_user new.said u) e n.said));
    uses = λ p e. read-row (λ (r : UserRow). use_of r.uses p.tag) None refl p.user (λ n. n.uses p.tag e);
    tag_users = λ p e. by_tag p (list_any (same_tag p.tag) tags) refl e;
  }
    where
      empty : (us : List User) (u : User) → false ≡ not (is_none us) → has_user us u ≡ false
      empty [] u h = refl
      empty (x ∷ xs) u h = absurd (both_ways (not (is_none (x ∷ xs))) (sym h) (ap not (some-there x xs)))

      by_tag : (p : TagUser) (b : Bool) → list_any (same_tag p.tag) tags ≡ b → has_tag_user new.tag_users p ≡ false
          → has_user (users_of s p.tag) p.user ≡ false
      by_tag p true t e = noted p.tag t p.user e
      by_tag p false t e = empty (users_of s p.tag) p.user (sym t ∙ in_use p.tag)

-- where the later part has all of the earlier one, all is noted in which they differ
pub touched-all : (new : TouchedLists) (was is : PartView) → HasAll was is → NotesAll is new → IsTouched new was is
touched-all new was is has all = record {
  out = λ p e. let none = all.out p e in none ∙ sym (has.out p none);
  inn = λ p e. let none = all.inn p e in none ∙ sym (has.inn p none);
  mentions = λ p e. let none = all.mentions p e in none ∙ sym (has.mentions p none);
  mentioners = λ p e. let none = all.mentioners p e in none ∙ sym (has.mentioners p none);
  said = λ u e. let none = all.said u e in let le = has.said u in omega (arith, none, le);
  uses = λ p e. let none = all.uses p e in none ∙ sym (has.uses p none);
  tag_users = λ p e. let none = all.tag_users p e in none ∙ sym (has.tag_users p none);
}

-- nothing is missing of an empty part
pub has-empty : (s : PartState) (p n : ℕ) → s ≡ empty_part p n → (v : PartView) → HasAll (view_of s) v
has-empty s p n is v = subst (λ (t : PartState). HasAll (view_of t) v) (sym is) (record {
  out = λ q e. ap (λ (r : UserRow). half_to r.out q.other) (empty-row p n q.user);
  inn = λ q e. ap (λ (r : UserRow). half_to r.inn q.other) (empty-row p n q.user);
  mentions = λ q e. ap (λ (r : UserRow). has_user r.mentions q.other) (empty-row p n q.user);
  mentioners = λ q e. ap (λ (r : UserRow). has_user r.mentioners q.other) (empty-row p n q.user);
  said = λ u. let none = ap (λ (r : UserRow). r.said) (empty-row p n u) in omega (arith, none);
  uses = λ q e. ap (λ (r : UserRow). use_of r.uses q.tag) (empty-row p n q.user);
  tag_users = λ q e. ap (λ (us : List User). has_user us q.user) (empty-users p n q.tag);
})
