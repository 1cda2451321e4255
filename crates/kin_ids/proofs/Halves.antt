-- The lists of a graph have each user and each tag once, and halves by ascending place.
use Rattle.std.proofs.Common.{◌≡◌, ℕ, Bool, true, ◌&&◌, List, [], ◌∷◌, refl, sym, ◌∙◌, ap, subst}
use Rattle.std.specs.Prelude.{map, filter}
use Rattle.std.specs.List.{list_all}
use Rattle.std.proofs.lemmas.Bool.{cond_both, and_parts, and_from}
use Rattle.kin_ids.specs.Types.{User, Place, Half, Use}
use Rattle.kin_ids.specs.Users.{same_user, same_tag, is_before, IsAscending}
use Rattle.kin_ids.specs.Graph.{Edge, Mention, TagUse, is_edge, is_mention, is_use, half_out, half_in, use_at}
use Rattle.kin_ids.specs.Follows.{IsOnce, ListsLaw, HalvesLaw}
use Rattle.kin_ids.proofs.Same.{same_user-true, same_tag-true, list_any-weaker}
use Rattle.kin_ids.proofs.Whole.{any-map-filter}

-- what stands once does so among those that pass a test
once-map-filter : {X Y : Type 0} (same : X → X → Bool) (like : Y → Y → Bool) (f : X → Y) (q : X → Bool) → ((x y : X) → q x ≡ true → q y ≡ true → like (f x) (f y) ≡ true → same x y ≡ true) →
    (xs : List X) → IsOnce same xs → IsOnce like (map f (filter q xs))
once-map-filter same like f q tells [] once = tt
once-map-filter same like f q tells (x ∷ xs) once = cond_both (q x) (x ∷ filter q xs) (filter q xs) (λ ys. IsOnce like (map f ys))
    (λ t. (
      any-map-filter (like (f x)) f q xs ∙ list_any-weaker (λ y. q y && like (f x) (f y)) (same x) xs (λ y both. let parts = and_parts (q y) (like (f x) (f y)) both in tells x y t parts.0 parts.1) once.0,
      once-map-filter same like f q tells xs once.1,
    ))
    (λ _. once-map-filter same like f q tells xs once.1)

-- users that are both the same as one
both_user : (u a b : User) → same_user u a ≡ true → same_user u b ≡ true → same_user a b ≡ true
both_user u a b s t = subst (λ (x : User). same_user x b ≡ true) (same_user-true u a s) t

both_tag : (r s t : List ℕ) → same_tag r s ≡ true → same_tag r t ≡ true → same_tag s t ≡ true
both_tag r s t a b = subst (λ (x : List ℕ). same_tag x t ≡ true) (same_tag-true r s a) b

pub lists-law : ListsLaw
lists-law g s = record {
  outs = λ u. once-map-filter (λ (d e : Edge). is_edge d.start d.end e) (λ (x y : Half). same_user x.other y.other) half_out (λ (e : Edge). same_user u e.start)
      (λ d e p q t. and_from _ _ (both_user u d.start e.start p q) t) g.edges s.edges;
  ins = λ u. once-map-filter (λ (d e : Edge). is_edge d.start d.end e) (λ (x y : Half). same_user x.other y.other) half_in (λ (e : Edge). same_user u e.end)
      (λ d e p q t. and_from _ _ t (both_user u d.end e.end p q)) g.edges s.edges;
  mentions = λ u. once-map-filter (λ (m n : Mention). is_mention m.start m.end n) same_user (λ (m : Mention). m.end) (λ (m : Mention). same_user u m.start)
      (λ m n p q t. and_from _ _ (both_user u m.start n.start p q) t) g.mentions s.mentions;
  mentioners = λ u. once-map-filter (λ (m n : Mention). is_mention m.start m.end n) same_user (λ (m : Mention). m.start) (λ (m : Mention). same_user u m.end)
      (λ m n p q t. and_from _ _ t (both_user u m.end n.end p q)) g.mentions s.mentions;
  uses = λ u. once-map-filter (λ (x y : TagUse). is_use x.user x.tag y) (λ (x y : Use). same_tag x.tag y.tag) use_at (λ (x : TagUse). same_user u x.user)
      (λ x y p q t. and_from _ _ (both_user u x.user y.user p q) t) g.uses s.uses;
  tag_users = λ t. once-map-filter (λ (x y : TagUse). is_use x.user x.tag y) same_user (λ (x : TagUse). x.user) (λ (x : TagUse). same_tag t x.tag)
      (λ x y p q same. and_from _ _ same (both_tag t x.tag y.tag p q)) g.uses s.uses;
}

-- halves keep the order of their edges
all-filter : (before : Place → Bool) (q : Edge → Bool) (f : Edge → Half) → ((e : Edge) → (f e).added ≡ e.added) → (es : List Edge) → list_all before (map (λ (e : Edge). e.added) es) ≡ true →
    list_all before (map (λ (h : Half). h.added) (map f (filter q es))) ≡ true
all-filter before q f same [] all = refl
all-filter before q f same (e ∷ es) all =
    let parts = and_parts (before e.added) (list_all before (map (λ (d : Edge). d.added) es)) all in
    let rest = all-filter before q f same es parts.1 in
    cond_both (q e) (e ∷ filter q es) (filter q es) (λ ds. list_all before (map (λ (h : Half). h.added) (map f ds)) ≡ true) (λ _. and_from _ _ (ap before (same e) ∙ parts.0) rest) (λ _. rest)

halves-ascend : (q : Edge → Bool) (f : Edge → Half) → ((e : Edge) → (f e).added ≡ e.added) → (es : List Edge) → IsAscending (map (λ (e : Edge). e.added) es) → IsAscending (map (λ (h : Half). h.added) (map f (filter q es)))
halves-ascend q f same [] up = tt
halves-ascend q f same (e ∷ es) up = cond_both (q e) (e ∷ filter q es) (filter q es) (λ ds. IsAscending (map (λ (h : Half). h.added) (map f ds)))
    (λ _. (subst (λ (p : Place). list_all (is_before p) (map (λ (h : Half). h.added) (map f (filter q es))) ≡ true) (sym (same e)) (all-filter (is_before e.added) q f same es up.0), halves-ascend q f same es up.1))
    (λ _. halves-ascend q f same es up.1)

pub halves-law : HalvesLaw
halves-law g u up = (halves-ascend (λ (e : Edge). same_user u e.start) half_out (λ e. refl) g.edges up, halves-ascend (λ (e : Edge). same_user u e.end) half_in (λ e. refl) g.edges up)
