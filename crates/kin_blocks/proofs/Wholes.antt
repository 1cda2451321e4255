-- The parts of a graph on all partitions are the whole graph, and the two halves of an edge tell the same.
use Rattle.std.proofs.Common.{◌≡◌, ℕ, ◌<◌, eqb, Bool, true, false, List, [], ◌∷◌, map, filter, length, refl, ◌∙◌, arith}
use Rattle.std.specs.Prelude.{IsPermutation}
use Rattle.std.specs.List.{find}
use Rattle.std.specs.Option.{option_map}
use Rattle.std.proofs.lemmas.Bool.{eq-eqb}
use Rattle.kin_ids.specs.declared.ids.User.{User}
use Rattle.kin_ids.specs.Users.{same_user}
use Rattle.kin_ids.specs.Parting.{user_part, tag_part}
use Rattle.kin_ids.specs.Graph.{Edge, half_out, half_in}
use Rattle.kin_ids.specs.Parts.{if_here, count_here}
use Rattle.kin_blocks.specs.Wholes.{JoinLaw, HalvesLaw, told}

-- at its own partition a user or a tag has all
here : {A : Type 0} (p : ℕ) (xs : List A) → if_here (eqb p p) xs ≡ xs
here p xs = rw (eq-eqb p p refl) refl

count-here : (p n : ℕ) → count_here (eqb p p) n ≡ n
count-here p n = rw (eq-eqb p p refl) refl

permuted-here : {A : Type 0} (p : ℕ) (xs ys : List A) → IsPermutation xs (if_here (eqb p p) ys) → IsPermutation xs ys
permuted-here p xs ys h = rw here at h

pub user_part-below : (n : ℕ) (u : User) → 0 < n → user_part n u < n
user_part-below n u some = omega arith

pub tag_part-below : (n : ℕ) (t : List ℕ) → 0 < n → tag_part n t < n
tag_part-below n t some = omega arith

pub join-law : JoinLaw
join-law stores g snap part = record {
  out = λ u. (part (user_part n u) (at u)).out u ∙ here (user_part n u) _;
  inn = λ u. (part (user_part n u) (at u)).inn u ∙ here (user_part n u) _;
  mentions = λ u. permuted-here (user_part n u) _ _ ((part (user_part n u) (at u)).mentions u);
  mentioners = λ u. permuted-here (user_part n u) _ _ ((part (user_part n u) (at u)).mentioners u);
  said = λ u. (part (user_part n u) (at u)).said u ∙ count-here (user_part n u) _;
  uses = λ u. permuted-here (user_part n u) _ _ ((part (user_part n u) (at u)).uses u);
  tag_users = λ t. permuted-here (tag_part n t) _ _ ((part (tag_part n t) (tag_part-below n t snap.some)).tag_users t);
} where
  n : ℕ
  n = length stores

  at : (u : User) → user_part n u < n
  at u = user_part-below n u snap.some

-- the first half out of u to w, and the first into w from u, are of the same edge
first-alike : (u w : User) (es : List Edge) →
    option_map told (find (λ h. same_user w h.other) (map half_out (filter (λ (e : Edge). same_user u e.start) es)))
    ≡ option_map told (find (λ h. same_user u h.other) (map half_in (filter (λ (e : Edge). same_user w e.end) es)))
first-alike u w [] = refl
first-alike u w (e ∷ es) = go (same_user u e.start) (same_user w e.end) refl refl (first-alike u w es) where
  go : (s t : Bool) → same_user u e.start ≡ s → same_user w e.end ≡ t →
      option_map told (find (λ h. same_user w h.other) (map half_out (filter (λ (e : Edge). same_user u e.start) es)))
      ≡ option_map told (find (λ h. same_user u h.other) (map half_in (filter (λ (e : Edge). same_user w e.end) es))) →
      option_map told (find (λ h. same_user w h.other) (map half_out (filter (λ (e : Edge). same_user u e.start) (e ∷ es))))
      ≡ option_map told (find (λ h. same_user u h.other) (map half_in (filter (λ (e : Edge). same_user w e.end) (e ∷ es))))
  go true true x y rest = rw (x, y) (rw x refl)
  go true false x y rest = rw (x, y) rest
  go false true x y rest = rw (x, y) (rw x rest)
  go false false x y rest = rw (x, y) rest

pub halves-law : HalvesLaw
halves-law g v whole u w = rw (whole.out u, whole.inn w) (first-alike u w g.edges)
