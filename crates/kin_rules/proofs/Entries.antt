-- Users with their numbers, in any order.
use Rattle.std.proofs.Common.{◌≡◌, ℕ, Bool, true, false, ◌&&◌, cond, List, [], ◌∷◌, ◌++◌, map, filter, take, refl, sym, ap, ◌∙◌, zero-add}
use Rattle.std.specs.Prelude.{nat_lt}
use Rattle.std.specs.Cmp.{IsEquivalence}
use Rattle.std.specs.List.{count_by, list_any, IsDistinct, AllByRecursion}
use Rattle.std.proofs.lemmas.Bool.{cond_both}
use Rattle.std.proofs.lemmas.List.Sums.{length-filter}
use Rattle.std.proofs.lemmas.Map.Keys.{IsDistinct-push, IsDistinct-cons, IsDistinct-head, IsDistinct-tail}
use Rattle.std.proofs.lemmas.Map.Made.{is_member-filter, length-from_same_keys}
use Rattle.kin_ids.specs.declared.ids.User.{User}
use Rattle.kin_ids.specs.Users.{same_user, same_tag, has_user}
use Rattle.kin_ids.specs.Graph.{Graph, Edge, Mention, TagUse, distinct_onto, vertices}
use Rattle.kin_ids.proofs.Same.{same_user-true, same_user-refl, same_user-sym, same_tag-true, same_tag-refl, same_tag-sym}
use Rattle.kin_rules.specs.declared.numbers.UserNumber.{UserNumber}
use Rattle.kin_rules.specs.declared.numbers.TagNumber.{TagNumber}
use Rattle.kin_rules.specs.Top.{positive_users, positive_tags, numbered_users, numbered_tags, UsersInAnyOrder, TagsInAnyOrder}
use Rattle.kin_rules.proofs.Orders.{count-cons, alike-in-order}
use Rattle.kin_rules.proofs.Top.{users-exact, tags-exact}

pub user-laws : IsEquivalence same_user
user-laws = record { refl = same_user-refl; symm = same_user-sym; congr = λ x y z e. ap (λ (w : User). same_user w z) (same_user-true x y e) }

pub tag-laws : IsEquivalence same_tag
tag-laws = record { refl = same_tag-refl; symm = same_tag-sym; congr = λ x y z e. ap (λ (t : List ℕ). same_tag t z) (same_tag-true x y e) }

all-filter : {K : Type 0} (P : K → Type 0) (p : K → Bool) (us : List K) → AllByRecursion P us → AllByRecursion P (filter p us)
all-filter P p [] all = tt
all-filter P p (u ∷ us) all = cond_both (p u) (u ∷ filter p us) (filter p us) (AllByRecursion P) (λ _. (all.0, all-filter P p us all.1)) (λ _. all-filter P p us all.1)

module _ {K : Type 0} {same : K → K → Bool} (laws : IsEquivalence same) (tells : (a b : K) → same a b ≡ true → a ≡ b) where
  -- a part of a list without repeats has none
  once-filter : (p : K → Bool) (us : List K) → IsDistinct same us → IsDistinct same (filter p us)
  once-filter p [] once = once
  once-filter p (u ∷ us) once =
      let rest = once-filter p us (IsDistinct-tail same u us once) in
      let apart = all-filter (λ v. same u v ≡ false) p us (IsDistinct-head same u us once) in
      cond_both (p u) (u ∷ filter p us) (filter p us) (IsDistinct same) (λ _. IsDistinct-cons same u (filter p us) apart rest) (λ _. rest)

  -- lists of the same keys without repeats have as many that pass a test
  pub counts-same : (us vs : List K) → IsDistinct same us → IsDistinct same vs → ((u : K) → list_any (same u) us ≡ list_any (same u) vs) → (p : K → Bool) → count_by p us ≡ count_by p vs
  counts-same us vs once once' alike p =
      let tests : (u x : K) → same u x ≡ true → p u ≡ p x = λ u x e. ap p (tells u x e) in
      let among : (ws : List K) (u : K) → list_any (same u) (filter p ws) ≡ (list_any (same u) ws && p u) = λ ws u. is_member-filter laws p u (tests u) ws in
      sym (length-filter p us)
      ∙ (length-from_same_keys laws (filter p us) (filter p vs) (once-filter p us once) (once-filter p vs once') (λ u. among us u ∙ (ap (λ (b : Bool). b && p u) (alike u) ∙ sym (among vs u)))
      ∙ length-filter p vs)

module _ {K E : Type 0} (entry : K → E) (number : E → ℕ) where
  count-positive : (p : E → Bool) (us : List K) → count_by p (filter (λ e. nat_lt 0 (number e)) (map entry us)) ≡ count_by (λ u. nat_lt 0 (number (entry u)) && p (entry u)) us
  count-positive p [] = refl
  count-positive p (u ∷ us) = here (nat_lt 0 (number (entry u))) refl (count-positive p us)
    where
      here : (b : Bool) → nat_lt 0 (number (entry u)) ≡ b → count_by p (filter (λ e. nat_lt 0 (number e)) (map entry us)) ≡ count_by (λ u. nat_lt 0 (number (entry u)) && p (entry u)) us
          → count_by p (cond b (entry u ∷ filter (λ e. nat_lt 0 (number e)) (map entry us)) (filter (λ e. nat_lt 0 (number e)) (map entry us))) ≡ count_by (λ u. nat_lt 0 (number (entry u)) && p (entry u)) (u ∷ us)
      here true e more = count-cons p (entry u) (filter (λ e. nat_lt 0 (number e)) (map entry us)) ∙ (rw more (sym (count-cons (λ (v : K). nat_lt 0 (number (entry v)) && p (entry v)) u us ∙ rw e refl)))
      here false e more = more ∙ sym (count-cons (λ (v : K). nat_lt 0 (number (entry v)) && p (entry v)) u us ∙ rw e (zero-add _))

abbrev user_entry : (User → ℕ) → User → UserNumber
user_entry f u = record { user = u; number = f u }

abbrev tag_entry : (List ℕ → ℕ) → List ℕ → TagNumber
tag_entry f t = record { tag = t; number = f t }

-- the top list doesn't depend on the order of the users
pub any-order : UsersInAnyOrder
any-order f us vs t once once' same =
    ap (take t) (alike-in-order users-exact (positive_users (numbered_users f us)) (positive_users (numbered_users f vs))
    (λ p. count-positive (user_entry f) (λ e. e.number) p us ∙ (counts-same user-laws same_user-true us vs once once' same (λ u. nat_lt 0 (f u) && p (user_entry f u))
    ∙ sym (count-positive (user_entry f) (λ e. e.number) p vs))))

-- nor on that of the tags
pub tags-any-order : TagsInAnyOrder
tags-any-order f ss ts t once once' same =
    ap (take t) (alike-in-order tags-exact (positive_tags (numbered_tags f ss)) (positive_tags (numbered_tags f ts))
    (λ p. count-positive (tag_entry f) (λ e. e.number) p ss ∙ (counts-same tag-laws same_tag-true ss ts once once' same (λ x. nat_lt 0 (f x) && p (tag_entry f x))
    ∙ sym (count-positive (tag_entry f) (λ e. e.number) p ts))))

distinct-once : (seen us : List User) → IsDistinct same_user seen → IsDistinct same_user (distinct_onto seen us)
distinct-once seen [] once = once
distinct-once seen (u ∷ us) once = cond_both (has_user seen u) (distinct_onto seen us) (distinct_onto (seen ++ u ∷ []) us) (IsDistinct same_user)
    (λ _. distinct-once seen us once) (λ no. distinct-once (seen ++ u ∷ []) us (IsDistinct-push user-laws seen u once no))

-- the vertices of a graph are each there once
pub vertices-once : (g : Graph) → IsDistinct same_user (vertices g)
unfolding IsDistinct
vertices-once g =
    distinct-once [] ((map (λ (e : Edge). e.start) g.edges ++ map (λ (e : Edge). e.end) g.edges)
    ++ (map (λ (m : Mention). m.start) g.mentions ++ map (λ (m : Mention). m.end) g.mentions) ++ map (λ (x : TagUse). x.user) g.uses) tt
