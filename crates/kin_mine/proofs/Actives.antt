-- Who is active: the users at marked places, and the least of them.
use Rattle.std.proofs.Common.{◌≡◌, ◌<◌, ◌≤◌, ◌+◌, ◌∙◌, ◌||◌, ◌&&◌, ◌⊎◌, inl, inr, ⊎_elim, ℕ, zero, suc, Bool, true, false, cond, ltb, List, [], ◌∷◌, Option, Some, None, MatchOption, IfSome, length, get_or, filter, arith, refl, sym, ap, subst}
use Rattle.std.specs.List.{list_any}
use Rattle.std.specs.List.Sorted.{IsStrictlySortedBy}
use Rattle.std.specs.declared.cmp.Ordering.TheVariants.{Less}
use Rattle.std.proofs.lemmas.Bool.{both_ways, cases_lt, or_left, or_right, or_cases, or_parts}
use Rattle.std.proofs.lemmas.Bool.Decides.{nat_tests}
use Rattle.std.proofs.lemmas.List.{get_or_default, get_or_past}
use Rattle.std.proofs.lemmas.Map.Keys.{Less-from_sorted}
use Rattle.kin_ids.specs.declared.ids.User.{User}
use Rattle.kin_ids.specs.Users.{has_user, same_user, user_cmp}
use Rattle.kin_ids.proofs.Same.{same_user-true, same_user-refl}
use Rattle.kin_rules.specs.Places.{place}
use Rattle.kin_rules.proofs.Places.{get-place, has-get, place-absent, place-lt}
use Rattle.kin_rules.proofs.PlacedValues.{place-at}
use Rattle.kin_mine.specs.Marks.{IsFirstPlace, are_quiet, is_marked, lesser_of}
use Rattle.kin_mine.specs.Walkers.{AreLong, WalkersView, is_walking}
use Rattle.kin_mine.proofs.Columns.{any-at, none-filtered, none-of, quiet-marked}
use Rattle.kin_mine.proofs.Firsts.{first-none}

-- a place is marked in some of these
abbrev pub IsMarkedAt : List (List Bool) → ℕ → Type 0
IsMarkedAt marks i = (k : ℕ) × (get_or (get_or marks k []) i false ≡ true)

-- the first place that is marked in some of the one or of the other
pub record IsFirstMark (hm cm : List (List Bool)) (i : ℕ) : Type 0 where
  pub marked : IsMarkedAt hm i ⊎ IsMarkedAt cm i
  pub first : (j : ℕ) → j < i → ((k : ℕ) → get_or (get_or hm k []) j false ≡ false) × ((k : ℕ) → get_or (get_or cm k []) j false ≡ false)

pub both-first : (hm cm : List (List Bool)) (a b : Option ℕ) → (a ≡ None → are_quiet hm) → IfSome a (λ i. IsFirstPlace hm i) → (b ≡ None → are_quiet cm) → IfSome b (λ i. IsFirstPlace cm i)
    → MatchOption (lesser_of a b) (are_quiet hm × are_quiet cm) (λ i. IsFirstMark hm cm i)
both-first hm cm None None an hs bn bs = (an refl, bn refl)
both-first hm cm None (Some j) an hs bn bs = record { marked = inr (bs.column, bs.marked); first = λ i less. (λ k. an refl k i, λ k. bs.first k i less) }
both-first hm cm (Some i) None an hs bn bs = record { marked = inl (hs.column, hs.marked); first = λ j less. (λ k. hs.first k j less, λ k. bn refl k j) }
both-first hm cm (Some i) (Some j) an hs bn bs = here (ltb i j) refl
  where
    here : (t : Bool) → ltb i j ≡ t → MatchOption (cond t (Some i) (Some j)) (are_quiet hm × are_quiet cm) (λ i. IsFirstMark hm cm i)
    here true e = record { marked = inl (hs.column, hs.marked); first = λ m less. (λ k. hs.first k m less, λ k. bs.first k m (grind (arith, nat_tests, e, less))) }
    here false e = record { marked = inr (bs.column, bs.marked); first = λ m less. (λ k. hs.first k m (grind (arith, nat_tests, e, less)), λ k. bs.first k m less) }

has-filter : (p : User → Bool) (us : List User) (u : User) → has_user (filter p us) u ≡ true → (has_user us u ≡ true) × (p u ≡ true)
has-filter p [] u h = absurd cc
has-filter p (x ∷ us) u h = here (p x) refl (has-filter p us u)
  where
    later : (has_user us u ≡ true) × (p u ≡ true) → (has_user (x ∷ us) u ≡ true) × (p u ≡ true)
    later r = (or_right (same_user u x) (has_user us u) r.0, r.1)

    here : (b : Bool) → p x ≡ b → (has_user (filter p us) u ≡ true → (has_user us u ≡ true) × (p u ≡ true)) → (has_user (x ∷ us) u ≡ true) × (p u ≡ true)
    here false e rest = later (rest (subst (λ (b : Bool). has_user (cond b (x ∷ filter p us) (filter p us)) u ≡ true) e h))
    here true e rest = ⊎_elim (λ (s : same_user u x ≡ true). (or_left (same_user u x) (has_user us u) s, subst (λ (y : User). p y ≡ true) (sym (same_user-true u x s)) e)) (λ (t : has_user (filter p us) u ≡ true). later (rest t))
        (or_cases (same_user u x) (has_user (filter p us) u) (subst (λ (b : Bool). has_user (cond b (x ∷ filter p us) (filter p us)) u ≡ true) e h))

filter-has : (p : User → Bool) (us : List User) (u : User) → has_user us u ≡ true → p u ≡ true → has_user (filter p us) u ≡ true
filter-has p [] u h t = absurd cc
filter-has p (x ∷ us) u h t = here (p x) refl (filter-has p us u)
  where
    here : (b : Bool) → p x ≡ b → (has_user us u ≡ true → p u ≡ true → has_user (filter p us) u ≡ true) → has_user (cond (p x) (x ∷ filter p us) (filter p us)) u ≡ true
    here true e rest = rw e (⊎_elim (λ (s : same_user u x ≡ true). or_left (same_user u x) (has_user (filter p us) u) s) (λ (l : has_user us u ≡ true). or_right (same_user u x) (has_user (filter p us) u) (rest l t)) (or_cases (same_user u x) (has_user us u) h))
    here false e rest = rw e (⊎_elim (λ (s : same_user u x ≡ true). absurd (both_ways (p x) e (subst (λ (y : User). p y ≡ true) (same_user-true u x s) t))) (λ (l : has_user us u ≡ true). rest l t) (or_cases (same_user u x) (has_user us u) h))

-- where whoever passes is one of the users, the list of those who pass has just those who do
pub has-filtered : (p : User → Bool) (us : List User) → ((u : User) → p u ≡ true → has_user us u ≡ true) → (u : User) → has_user (filter p us) u ≡ p u
has-filtered p us inside u = split (has_user (filter p us) u) refl (p u) refl
  where
    split : (a : Bool) → has_user (filter p us) u ≡ a → (b : Bool) → p u ≡ b → has_user (filter p us) u ≡ p u
    split true e true f = e ∙ sym f
    split false e false f = e ∙ sym f
    split true e false f = absurd (both_ways (p u) f (has-filter p us u e).1)
    split false e true f = absurd (both_ways (has_user (filter p us) u) e (filter-has p us u (inside u f) f))

module _ (users : List User) (hm cm : List (List Bool)) (h_long : (k : ℕ) → k < length hm → length (get_or hm k []) ≡ length users) (c_long : (k : ℕ) → k < length cm → length (get_or cm k []) ≡ length users) where
  abbrev active : User → Bool
  active u = is_marked users hm u || is_marked users cm u

  -- a marked place is that of a user
  below : (marks : List (List Bool)) → ((k : ℕ) → k < length marks → length (get_or marks k []) ≡ length users) → (i : ℕ) → IsMarkedAt marks i → i < length users
  below marks long i (k, on) = ⊎_elim (λ (lt : k < length marks). inside lt) (λ (ge : length marks ≤ k). absurd (both_ways (get_or (get_or marks k []) i false) (rw (get_or_past marks k [] ge) refl) on)) (cases_lt k (length marks))
    where
      inside : k < length marks → i < length users
      inside lt = ⊎_elim (λ (l : i < length users). l) (λ (ge : length users ≤ i). absurd (both_ways (get_or (get_or marks k []) i false) (get_or_past (get_or marks k []) i false (let same = long k lt in omega (arith, same, ge))) on)) (cases_lt i (length users))

  pub mark-below : (i : ℕ) → IsFirstMark hm cm i → i < length users
  mark-below i f = ⊎_elim (below hm h_long i) (below cm c_long i) f.marked

  -- who is marked has a marked place, and the other way round
  marked-place : (marks : List (List Bool)) (u : User) → is_marked users marks u ≡ true → IsMarkedAt marks (place users u)
  marked-place marks u e = let at = any-at (λ (on : List Bool). get_or on (place users u) false) marks [] e in (at.0, at.2)

  place-marked : (marks : List (List Bool)) (u : User) → IsMarkedAt marks (place users u) → is_marked users marks u ≡ true
  place-marked marks u (k, on) = ⊎_elim (λ (lt : k < length marks). Rattle.std.proofs.lemmas.List.Folds.list_any_at (λ (x : List Bool). get_or x (place users u) false) marks k [] lt on)
      (λ (ge : length marks ≤ k). absurd (both_ways (get_or (get_or marks k []) (place users u) false) (rw (get_or_past marks k [] ge) refl) on)) (cases_lt k (length marks))

  there : (u : User) → place users u < length users → has_user users u ≡ true
  there u lt = split (has_user users u) refl
    where
      split : (b : Bool) → has_user users u ≡ b → has_user users u ≡ true
      split true e = e
      split false e = absurd (let p = place-absent users u e in omega (arith, p, lt))

  pub active-there : (u : User) → active u ≡ true → has_user users u ≡ true
  active-there u e = there u (⊎_elim (λ (h : is_marked users hm u ≡ true). below hm h_long (place users u) (marked-place hm u h)) (λ (h : is_marked users cm u ≡ true). below cm c_long (place users u) (marked-place cm u h)) (or_cases (is_marked users hm u) (is_marked users cm u) e))

  module _ (ascend : IsStrictlySortedBy user_cmp users) where
    rising : (i j : ℕ) (d : User) → i < j → j < length users → (get_or users i d).0 ≤ (get_or users j d).0
    rising i j d less lt = let e : user_cmp (get_or users i d) (get_or users j d) ≡ Less = Less-from_sorted user_cmp users i j d ascend less lt in grind (arith, nat_tests, e)

    pub least-marked : (i : ℕ) (d : User) → IsFirstMark hm cm i → (active (get_or users i d) ≡ true) × ((x : User) → active x ≡ true → (get_or users i d).0 ≤ x.0)
    least-marked i d f = (on, least)
      where
        lt : i < length users
        lt = mark-below i f

        at : place users (get_or users i d) ≡ i
        at = place-at users i d ascend lt

        on : active (get_or users i d) ≡ true
        on = ⊎_elim (λ (m : IsMarkedAt hm i). or_left (is_marked users hm (get_or users i d)) (is_marked users cm (get_or users i d)) (place-marked hm (get_or users i d) (subst (IsMarkedAt hm) (sym at) m)))
            (λ (m : IsMarkedAt cm i). or_right (is_marked users hm (get_or users i d)) (is_marked users cm (get_or users i d)) (place-marked cm (get_or users i d) (subst (IsMarkedAt cm) (sym at) m))) f.marked

        no-earlier : (x : User) → active x ≡ true → i ≤ place users x
        no-earlier x e = ⊎_elim (λ (less : place users x < i). absurd (earlier less)) (λ (ge : i ≤ place users x). ge) (cases_lt (place users x) i)
          where
            earlier : place users x < i → ⊥
            earlier less =
                let off = f.first (place users x) less in
                ⊎_elim (λ (h : is_marked users hm x ≡ true). let m = marked-place hm x h in both_ways (get_or (get_or hm m.0 []) (place users x) false) (off.0 m.0) m.1)
                (λ (h : is_marked users cm x ≡ true). let m = marked-place cm x h in both_ways (get_or (get_or cm m.0 []) (place users x) false) (off.1 m.0) m.1) (or_cases (is_marked users hm x) (is_marked users cm x) e)

        least : (x : User) → active x ≡ true → (get_or users i d).0 ≤ x.0
        least x e =
            let in-users = active-there x e in
            let ge = no-earlier x e in
            let same : get_or users (place users x) d ≡ x = get-place users x d in-users in
            ⊎_elim (λ (less : i < place users x). subst (λ (y : User). (get_or users i d).0 ≤ y.0) same (rising i (place users x) d less (place-lt users x in-users)))
            (λ (le : place users x ≤ i). let e2 : i ≡ place users x = omega (arith, ge, le) in subst (λ (y : User). (get_or users i d).0 ≤ y.0) same (subst (λ (p : ℕ). (get_or users i d).0 ≤ (get_or users p d).0) e2 (omega arith))) (cases_lt i (place users x))

-- the place that a look for the first mark of both kinds finds
module _ (users : List User) (w : WalkersView) (long : AreLong users w) (hs cs : List (List Bool)) (hs_is : hs ≡ w.hop_marks) (cs_is : cs ≡ w.close_marks) (a b o : Option ℕ)
    (an : a ≡ None → are_quiet hs) (at : IfSome a (λ i. IsFirstPlace hs i)) (bn : b ≡ None → are_quiet cs) (bt : IfSome b (λ i. IsFirstPlace cs i)) (o_is : o ≡ lesser_of a b) where
  mark : (i : ℕ) → o ≡ Some i → IsFirstMark w.hop_marks w.close_marks i
  mark i e =
      subst (λ (x : List (List Bool)). IsFirstMark x w.close_marks i) hs_is
      (subst (λ (x : List (List Bool)). IsFirstMark hs x i) cs_is
      (subst (λ (x : Option ℕ). MatchOption x (are_quiet hs × are_quiet cs) (λ i. IsFirstMark hs cs i)) (sym o_is ∙ e) (both-first hs cs a b an at bn bt)))

  pub place-below : (i : ℕ) → o ≡ Some i → i < length users
  place-below i e = mark-below users w.hop_marks w.close_marks long.hops long.close i (mark i e)

  pub least-walker : IsStrictlySortedBy user_cmp users → (i : ℕ) (d : User) → o ≡ Some i → (is_walking users w (get_or users i d) ≡ true) × ((x : User) → is_walking users w x ≡ true → (get_or users i d).0 ≤ x.0)
  least-walker ascend i d e = least-marked users w.hop_marks w.close_marks long.hops long.close ascend i d (mark i e)
