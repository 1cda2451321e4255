-- What is handed out of a sound graph is whole.
use Rattle.std.proofs.Common.{◌≡◌, ◌&&◌, ◌||◌, ◌∙◌, ℕ, Bool, true, false, cond, List, [], ◌∷◌, Option, Some, None, is_some, map, filter, not, eqb, count_by, refl, sym, ap, subst, arith}
use Rattle.std.specs.List.{list_any, find, AllByRecursion, IsDistinct}
use Rattle.std.specs.List.Sorted.{IsPermutation}
use Rattle.std.specs.Option.{option_map}
use Rattle.std.proofs.lemmas.Bool.{both_ways, not-true, false_from_ne_true, or_parts}
use Rattle.std.proofs.lemmas.List.Sums.{sum_by-cons}
use Rattle.std.proofs.lemmas.List.Sorted.{list_any-IsPermutation, IsPermutation-sym, length_permutation}
use Rattle.std.proofs.lemmas.Map.Keys.{IsDistinct-IsPermutation, IsDistinct-head, IsDistinct-tail}
use Rattle.kin_ids.specs.declared.ids.User.{User}
use Rattle.kin_ids.specs.declared.ops.Half.{Half}
use Rattle.kin_ids.specs.declared.ops.Use.{Use}
use Rattle.kin_ids.specs.Users.{same_user, same_tag, has_user}
use Rattle.kin_ids.specs.Graph.{Graph, Edge, Mention, TagUse, is_edge, is_mention, is_use, half_out, half_in, use_at, outs, ins, mentions_of, mentioners_of, said, uses_of, tag_users}
use Rattle.kin_ids.specs.Follows.{IsOnce}
use Rattle.kin_ids.proofs.Same.{same_user-sym, same_tag-sym, list_any-alike}
use Rattle.kin_ids.proofs.Whole.{any-map-filter}
use Rattle.kin_ids.proofs.Vertices.{once-distinct}
use Rattle.kin_ids.proofs.Halves.{lists-law}
use Rattle.kin_store.specs.Rows.{is_none}
use Rattle.kin_store.specs.Lists.{half_key, use_key, half_to, use_of}
use Rattle.kin_graph.specs.Deltas.{is_present}
use Rattle.kin_graph.proofs.Picking.{any-find}
use Rattle.kin_graph.proofs.Members.{none-filter}
use Rattle.kin_changes.specs.Views.{WholeLaw}

pub any-map : {X Y : Type 0} (p : Y → Bool) (f : X → Y) (xs : List X) → list_any p (map f xs) ≡ list_any (λ x. p (f x)) xs
any-map p f [] = refl
any-map p f (x ∷ xs) = ap (λ (b : Bool). p (f x) || b) (any-map p f xs)

-- nothing is counted where nothing passes
pub none-counted : {X : Type 0} (q : X → Bool) (xs : List X) → list_any q xs ≡ false → count_by q xs ≡ 0
none-counted q [] none = refl
none-counted q (x ∷ xs) none =
    let parts = or_parts (q x) (list_any q xs) none in
    sum_by-cons (λ y. cond (q y) 1 0) x xs ∙ rw parts.0 (omega (arith, none-counted q xs parts.1))

-- keys that stand once
pub once-keys : {X Y : Type 0} (same : Y → Y → Bool) (key : X → Y) (xs : List X) → IsOnce (λ x y. same (key x) (key y)) xs
    → IsOnce same (map key xs)
once-keys same key [] once = tt
once-keys same key (x ∷ xs) once = (any-map (same (key x)) key xs ∙ once.0, once-keys same key xs once.1)

none-apart : {X : Type 0} (p : X → Bool) (xs : List X) → AllByRecursion (λ y. p y ≡ false) xs → list_any p xs ≡ false
none-apart p [] apart = refl
none-apart p (x ∷ xs) apart = rw apart.0 (none-apart p xs apart.1)

distinct-once : {X : Type 0} (same : X → X → Bool) (xs : List X) → IsDistinct same xs → IsOnce same xs
distinct-once same [] d = tt
distinct-once same (x ∷ xs) d = (none-apart (same x) xs (IsDistinct-head same x xs d), distinct-once same xs (IsDistinct-tail same x xs d))

-- what stands once does so in another order
pub once-moved : {X : Type 0} (same : X → X → Bool) → ((x y : X) → same x y ≡ same y x) → (xs ys : List X) → IsPermutation xs ys
    → IsOnce same xs → IsOnce same ys
once-moved same flips xs ys moved once = distinct-once same ys
    (IsDistinct-IsPermutation same flips xs ys moved (once-distinct same xs once))

pub and-turned : (a b : Bool) → (a && b) ≡ (b && a)
and-turned true true = refl
and-turned true false = refl
and-turned false true = refl
and-turned false false = refl

-- what is found among those that pass
pub find-map-filter : {X Y : Type 0} (p : Y → Bool) (f : X → Y) (q : X → Bool) (xs : List X) → find p (map f (filter q xs))
    ≡ option_map f (find (λ x. q x && p (f x)) xs)
find-map-filter p f q [] = refl
find-map-filter {X} {Y} p f q (x ∷ xs) = here (q x) (p (f x)) refl (find-map-filter p f q xs) where
  here : (a b : Bool) → p (f x) ≡ b → find p (map f (filter q xs)) ≡ option_map f (find (λ y. q y && p (f y)) xs)
      → find p (map f (cond a (x ∷ filter q xs) (filter q xs))) ≡ option_map f (cond (a && b) (Some x) (find (λ y. q y && p (f y)) xs))
  here true true e rest = rw e refl
  here true false e rest = rw e rest
  here false b e rest = rest

find-alike : {X : Type 0} (f g : X → Bool) (xs : List X) → ((x : X) → f x ≡ g x) → find f xs ≡ find g xs
find-alike f g [] h = refl
find-alike f g (x ∷ xs) h = rw (h x, find-alike f g xs h) refl

both-present : (o : Option Edge) → is_present (option_map half_out o) ≡ is_present (option_map half_in o)
both-present None = refl
both-present (Some e) = refl

module _ (g : Graph) (u : User) where
  -- what a graph has of a user and another one, as its lists tell
  pub follows-out : (w : User) → is_some (half_to (outs g u) w) ≡ list_any (is_edge u w) g.edges
  follows-out w = sym (any-find (λ (h : Half). same_user w h.other) (outs g u))
      ∙ any-map-filter (λ (h : Half). same_user w h.other) half_out (λ (e : Edge). same_user u e.start) g.edges

  pub follows-in : (w : User) → is_some (half_to (ins g w) u) ≡ list_any (is_edge u w) g.edges
  follows-in w =
      sym (any-find (λ (h : Half). same_user u h.other) (ins g w))
      ∙ (any-map-filter (λ (h : Half). same_user u h.other) half_in (λ (e : Edge). same_user w e.end) g.edges
      ∙ list_any-alike (λ (e : Edge). same_user w e.end && same_user u e.start) (is_edge u w) g.edges
      (λ e. and-turned (same_user w e.end) (same_user u e.start)))

  pub mentions-out : (w : User) → has_user (mentions_of g u) w ≡ list_any (is_mention u w) g.mentions
  mentions-out w = any-map-filter (same_user w) (λ (m : Mention). m.end) (λ (m : Mention). same_user u m.start) g.mentions

  pub mentions-in : (w : User) → has_user (mentioners_of g w) u ≡ list_any (is_mention u w) g.mentions
  mentions-in w = any-map-filter (same_user u) (λ (m : Mention). m.start) (λ (m : Mention). same_user w m.end) g.mentions
      ∙ list_any-alike (λ (m : Mention). same_user w m.end && same_user u m.start) (is_mention u w) g.mentions
      (λ m. and-turned (same_user w m.end) (same_user u m.start))

  pub uses-out : (t : List ℕ) → use_of (uses_of g u) t ≡ option_map use_at (find (is_use u t) g.uses)
  uses-out t = find-map-filter (λ (x : Use). same_tag t x.tag) use_at (λ (x : TagUse). same_user u x.user) g.uses

  uses-some : (t : List ℕ) → list_any (λ (x : Use). same_tag t x.tag) (uses_of g u) ≡ list_any (is_use u t) g.uses
  uses-some t = any-map-filter (λ (x : Use). same_tag t x.tag) use_at (λ (x : TagUse). same_user u x.user) g.uses

  tags-in : (t : List ℕ) → has_user (tag_users g t) u ≡ list_any (is_use u t) g.uses
  tags-in t = any-map-filter (same_user u) (λ (x : TagUse). x.user) (λ (x : TagUse). same_tag t x.tag) g.uses
      ∙ list_any-alike (λ (x : TagUse). same_tag t x.tag && same_user u x.user) (is_use u t) g.uses
      (λ x. and-turned (same_tag t x.tag) (same_user u x.user))

  present-ends : (w : User) → is_present (half_to (outs g u) w) ≡ is_present (half_to (ins g w) u)
  present-ends w =
      ap is_present (find-map-filter (λ (h : Half). same_user w h.other) half_out (λ (e : Edge). same_user u e.start) g.edges)
      ∙ (both-present (find (is_edge u w) g.edges)
      ∙ (ap (λ (o : Option Edge). is_present (option_map half_in o))
      (find-alike (is_edge u w) (λ (e : Edge). same_user w e.end && same_user u e.start) g.edges
      (λ e. and-turned (same_user u e.start) (same_user w e.end)))
      ∙ sym (ap is_present (find-map-filter (λ (h : Half). same_user u h.other) half_in (λ (e : Edge). same_user w e.end) g.edges))))

none-moved : {X : Type 0} (xs ys : List X) → IsPermutation xs ys → is_none xs ≡ is_none ys
none-moved xs ys moved = ap (λ (n : ℕ). eqb n 0) (sym (length_permutation xs ys moved))

-- a user without a mentioner isn't mentioned
none-mentioned : (g : Graph) (u : User) → (has_user g.mentioned u ≡ true → list_any (λ (m : Mention). same_user u m.end) g.mentions
    ≡ true) → is_none (mentioners_of g u) ≡ true → said g u ≡ 0
none-mentioned g u named none =
    let ends : not (list_any (λ (m : Mention). same_user u m.end) g.mentions)
    ≡ true = sym (none-filter (λ (m : Mention). m.start) (λ (m : Mention). same_user u m.end) g.mentions) ∙ none in
    none-counted (same_user u) g.mentioned (false_from_ne_true (has_user g.mentioned u)
    (λ there. both_ways _ (not-true _ ends) (named there)))

pub whole-law : WholeLaw
whole-law g v sound named seen =
    let once = lists-law g sound in
    record {
      out_once = λ u. subst (λ (hs : List Half). IsOnce same_user (map half_key hs)) (sym (seen.out u))
          (once-keys same_user half_key (outs g u) (once.outs u));
      in_once = λ u. subst (λ (hs : List Half). IsOnce same_user (map half_key hs)) (sym (seen.inn u))
          (once-keys same_user half_key (ins g u) (once.ins u));
      mentions_once = λ u. once-moved same_user same_user-sym _ _ (IsPermutation-sym _ _ (seen.mentions u)) (once.mentions u);
      mentioners_once = λ u. once-moved same_user same_user-sym _ _ (IsPermutation-sym _ _ (seen.mentioners u)) (once.mentioners u);
      uses_once = λ u. once-keys same_tag use_key (v.uses u) (once-moved (λ (x y : Use). same_tag x.tag y.tag)
          (λ x y. same_tag-sym x.tag y.tag) _ _ (IsPermutation-sym _ _ (seen.uses u)) (once.uses u));
      tag_users_once = λ t. once-moved same_user same_user-sym _ _ (IsPermutation-sym _ _ (seen.tag_users t)) (once.tag_users t);
      follows = λ u w. ap (λ (hs : List Half). is_some (half_to hs w)) (seen.out u)
          ∙ (follows-out g u w ∙ sym (ap (λ (hs : List Half). is_some (half_to hs u)) (seen.inn w) ∙ follows-in g u w));
      present = λ u w. ap (λ (hs : List Half). is_present (half_to hs w)) (seen.out u)
          ∙ (present-ends g u w ∙ sym (ap (λ (hs : List Half). is_present (half_to hs u)) (seen.inn w)));
      mentioned = λ u w. list_any-IsPermutation (same_user w) _ _ (seen.mentions u)
          ∙ (mentions-out g u w ∙ sym (list_any-IsPermutation (same_user u) _ _ (seen.mentioners w) ∙ mentions-in g u w));
      tagged = λ u t. sym (any-find (λ (x : Use). same_tag t x.tag) (v.uses u))
          ∙ (list_any-IsPermutation (λ (x : Use). same_tag t x.tag) _ _ (seen.uses u) ∙ (uses-some g u t
          ∙ sym (list_any-IsPermutation (same_user u) _ _ (seen.tag_users t) ∙ tags-in g u t)));
      said = λ u none. seen.said u ∙ none-mentioned g u (λ there. named u there) (sym (none-moved _ _ (seen.mentioners u)) ∙ none);
    }
