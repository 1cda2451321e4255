-- What a delta tells depends on the two graphs alone.
use Rattle.std.proofs.Common.{◌≡◌, ℕ, nat_lt, ◌-◌, ◌&&◌, ◌==◌, Bool, true, false, not, cond, subst, List, [], ◌∷◌, Option, Some, None}
use Rattle.std.proofs.Common.{is_some, All, refl, sym, ap, ap₂, ◌∙◌, arith}
use Rattle.std.specs.List.{list_any, find}
use Rattle.std.specs.List.Sorted.{IsPermutation}
use Rattle.std.proofs.lemmas.Bool.{both_ways, le-ltb, or_parts}
use Rattle.std.proofs.lemmas.List.Elements.{All-cons, All-nil, All-head, All-tail}
use Rattle.std.proofs.lemmas.List.Sorted.{list_any-IsPermutation, IsPermutation-sym, All-permutation}
use Rattle.kin_ids.specs.declared.ids.User.{User}
use Rattle.kin_ids.specs.declared.ops.Half.{Half}
use Rattle.kin_ids.specs.declared.ops.Use.{Use}
use Rattle.kin_ids.specs.Users.{same_user, same_tag, has_user}
use Rattle.kin_ids.specs.Graph.{Graph, uses_of}
use Rattle.kin_ids.specs.Follows.{IsOnce, IsSound}
use Rattle.kin_ids.specs.Parting.{user_part}
use Rattle.kin_ids.specs.Parts.{PartView, IsPart, if_here}
use Rattle.kin_ids.proofs.Same.{same_tag-true, list_any-weaker}
use Rattle.kin_ids.proofs.Halves.{lists-law}
use Rattle.kin_store.specs.declared.pairs.TagUser.{TagUser}
use Rattle.kin_graph.specs.declared.deltas.SaidRow.{SaidRow}
use Rattle.kin_graph.specs.Deltas.{DeltaLists, no_change, half_to, use_of, is_present, is_new, is_now, is_gone, one_if, new_use}
use Rattle.kin_graph.specs.Deltas.{pair_in, IsDelta}
use Rattle.kin_graph.specs.Touches.{IsTouched, untouched, tag_user}
use Rattle.kin_graph.specs.Tells.{TellsLaw, NoChangeLaw}
use Rattle.kin_graph.proofs.Picking.{any-find, find-passes}

-- what is found in one list that has each item once, is found in another with the same items
module _ {X : Type 0} (same : X → X → Bool) (p : X → Bool) (tells : (x y : X) → p x ≡ true → p y ≡ true → same x y ≡ true) where
  none-passes : (xs : List X) (x : X) → list_any p xs ≡ false → All (λ y. p y ≡ true → y ≡ x) xs
  none-passes [] x e = All-nil (λ y. p y ≡ true → y ≡ x)
  none-passes (z ∷ zs) x e =
      let parts = or_parts (p z) (list_any p zs) e in
      All-cons (λ y. p y ≡ true → y ≡ x) z zs (λ h. absurd (both_ways (p z) parts.0 h)) (none-passes zs x parts.1)

  one-passes : (xs : List X) (x : X) → IsOnce same xs → find p xs ≡ Some x → All (λ y. p y ≡ true → y ≡ x) xs
  one-passes [] x once e = absurd cc
  one-passes (z ∷ zs) x once e = by_test (p z) refl e (one-passes zs x once.1) where
    by_test : (b : Bool) → p z ≡ b → cond b (Some z) (find p zs) ≡ Some x → (find p zs ≡ Some x → All (λ y. p y ≡ true → y ≡ x) zs)
        → All (λ y. p y ≡ true → y ≡ x) (z ∷ zs)
    by_test true t f rest =
        let is : z ≡ x = cc in
        All-cons (λ y. p y ≡ true → y ≡ x) z zs (λ h. is) (none-passes zs x (list_any-weaker p (same z) zs (λ y h. tells z y t h) once.0))
    by_test false t f rest = All-cons (λ y. p y ≡ true → y ≡ x) z zs (λ h. absurd (both_ways (p z) t h)) (rest f)

  all-found : (P : X → Type 0) (ys : List X) (y : X) → All P ys → find p ys ≡ Some y → P y
  all-found P [] y all e = absurd cc
  all-found P (z ∷ zs) y all e = by_test (p z) e (all-found P zs y (All-tail P z zs all)) where
    by_test : (b : Bool) → cond b (Some z) (find p zs) ≡ Some y → (find p zs ≡ Some y → P y) → P y
    by_test true f rest = let is : z ≡ y = cc in subst P is (All-head P z zs all)
    by_test false f rest = rest f

  found-same : (xs ys : List X) → IsOnce same xs → IsPermutation xs ys → find p ys ≡ find p xs
  found-same xs ys once moved = by_found (find p xs) (find p ys) refl refl where
    some : is_some (find p ys) ≡ is_some (find p xs)
    some = sym (any-find p ys) ∙ (sym (list_any-IsPermutation p xs ys moved) ∙ any-find p xs)

    by_found : (a b : Option X) → find p xs ≡ a → find p ys ≡ b → b ≡ a
    by_found None None d e = refl
    by_found None (Some y) d e = absurd (both_ways true (sym (ap is_some e) ∙ (some ∙ ap is_some d)) refl)
    by_found (Some x) None d e = absurd (both_ways true (sym (ap is_some d) ∙ (sym some ∙ ap is_some e)) refl)
    by_found (Some x) (Some y) d e =
        ap Some (all-found (λ z. p z ≡ true → z ≡ x) ys y (All-permutation (λ z. p z ≡ true → z ≡ x) xs ys moved (one-passes xs x once d)) e
        (find-passes p ys y e))

-- a list for those who live here has each item once, where the list has
once-here : {X : Type 0} (same : X → X → Bool) (b : Bool) (xs : List X) → IsOnce same xs → IsOnce same (if_here b xs)
once-here same true xs once = once
once-here same false xs once = tt

-- parts of one graph hand out the same
pub parts-alike : (parts p : ℕ) (g : Graph) (v w : PartView) → IsSound g → IsPart parts p g v → IsPart parts p g w → IsTouched untouched v w
parts-alike parts p g v w sound a b = record {
  out = λ q t. ap (λ (hs : List Half). half_to hs q.other) (b.out q.user ∙ sym (a.out q.user));
  inn = λ q t. ap (λ (hs : List Half). half_to hs q.other) (b.inn q.user ∙ sym (a.inn q.user));
  mentions = λ q t. list_any-IsPermutation (same_user q.other) _ _ (b.mentions q.user)
      ∙ sym (list_any-IsPermutation (same_user q.other) _ _ (a.mentions q.user));
  mentioners = λ q t. list_any-IsPermutation (same_user q.other) _ _ (b.mentioners q.user)
      ∙ sym (list_any-IsPermutation (same_user q.other) _ _ (a.mentioners q.user));
  said = λ u t. b.said u ∙ sym (a.said u);
  uses = λ q t. used w b q ∙ sym (used v a q);
  tag_users = λ q t. list_any-IsPermutation (same_user q.user) _ _ (b.tag_users q.tag)
      ∙ sym (list_any-IsPermutation (same_user q.user) _ _ (a.tag_users q.tag));
} where
  used : (x : PartView) → IsPart parts p g x → (q : TagUser) → use_of (x.uses q.user) q.tag
      ≡ use_of (if_here (user_part parts q.user == p) (uses_of g q.user)) q.tag
  used x is q = found-same (λ (y z : Use). same_tag y.tag z.tag) (λ (y : Use). same_tag q.tag y.tag)
      (λ y z s t. subst (λ (l : List ℕ). same_tag l z.tag ≡ true) (same_tag-true q.tag y.tag s) t)
      _ (x.uses q.user) (once-here _ (user_part parts q.user == p) (uses_of g q.user) ((lists-law g sound).uses q.user))
      (IsPermutation-sym _ _ (is.uses q.user))

-- between parts that hand out the same, what differs is the same
pub delta-alike : (v w x y : PartView) (d : DeltaLists) → IsTouched untouched v x → IsTouched untouched w y → IsDelta v w d → IsDelta x y d
delta-alike v w x y d was is e = record {
  new_out = λ p. e.new_out p ∙ ap₂ (λ (a b : Option Half). one_if (is_new a b) p) (sym (was.out p refl)) (sym (is.out p refl));
  new_in = λ p. e.new_in p ∙ ap₂ (λ (a b : Option Half). one_if (is_new a b) p) (sym (was.inn p refl)) (sym (is.inn p refl));
  now_out = λ p. e.now_out p ∙ ap₂ (λ (a b : Option Half). one_if (is_now a b) p) (sym (was.out p refl)) (sym (is.out p refl));
  now_in = λ p. e.now_in p ∙ ap₂ (λ (a b : Option Half). one_if (is_now a b) p) (sym (was.inn p refl)) (sym (is.inn p refl));
  gone_out = λ p. e.gone_out p ∙ ap₂ (λ (a b : Option Half). one_if (is_gone a b) p) (sym (was.out p refl)) (sym (is.out p refl));
  gone_in = λ p. e.gone_in p ∙ ap₂ (λ (a b : Option Half). one_if (is_gone a b) p) (sym (was.inn p refl)) (sym (is.inn p refl));
  mention_out = λ p. e.mention_out p ∙ ap₂ (λ (a b : Bool). one_if (b && not a) p) (sym (was.mentions p refl)) (sym (is.mentions p refl));
  mention_in = λ p. e.mention_in p ∙ ap₂ (λ (a b : Bool). one_if (b && not a) p) (sym (was.mentioners p refl)) (sym (is.mentioners p refl));
  said = λ u. e.said u ∙ ap₂ (λ (a b : ℕ). one_if (nat_lt a b) (said_row u (b - a))) (sym (was.said u refl)) (sym (is.said u refl));
  uses = λ u t. e.uses u t ∙ ap₂ (λ (a b : Option Use). new_use u a b) (sym (was.uses (tag_user t u) refl))
      (sym (is.uses (tag_user t u) refl));
  tag_users = λ t u. e.tag_users t u ∙ ap₂ (λ (a b : Bool). one_if (b && not a) (tag_user t u)) (sym (was.tag_users (tag_user t u) refl))
      (sym (is.tag_users (tag_user t u) refl));
} where
  said_row : User → ℕ → SaidRow
  said_row u n = record { user = u; number = n }

pub and-not : (b : Bool) → (b && not b) ≡ false
and-not true = refl
and-not false = refl

pub no-use : (u : User) (o : Option Use) → [] ≡ new_use u o o
no-use u None = refl
no-use u (Some x) = refl

-- between parts that hand out the same, nothing differs
pub delta-none : (v w : PartView) → IsTouched untouched v w → IsDelta v w no_change
delta-none v w e = delta-alike v v v w no_change same e (record {
  new_out = λ p. ap (λ (b : Bool). one_if b p) (sym (and-not (is_some (pair_in v.out p))));
  new_in = λ p. ap (λ (b : Bool). one_if b p) (sym (and-not (is_some (pair_in v.inn p))));
  now_out = λ p. ap (λ (b : Bool). one_if b p) (sym (and-not (is_present (pair_in v.out p))));
  now_in = λ p. ap (λ (b : Bool). one_if b p) (sym (and-not (is_present (pair_in v.inn p))));
  gone_out = λ p. ap (λ (b : Bool). one_if b p) (sym (and-not (is_present (pair_in v.out p))));
  gone_in = λ p. ap (λ (b : Bool). one_if b p) (sym (and-not (is_present (pair_in v.inn p))));
  mention_out = λ p. ap (λ (b : Bool). one_if b p) (sym (and-not (has_user (v.mentions p.user) p.other)));
  mention_in = λ p. ap (λ (b : Bool). one_if b p) (sym (and-not (has_user (v.mentioners p.user) p.other)));
  said = λ u. ap (λ (b : Bool). one_if b (record { user = u; number = v.said u - v.said u }))
      (sym (le-ltb (v.said u) (v.said u) (omega arith)));
  uses = λ u t. no-use u (use_of (v.uses u) t);
  tag_users = λ t u. ap (λ (b : Bool). one_if b (tag_user t u)) (sym (and-not (has_user (v.tag_users t) u)));
}) where
  same : IsTouched untouched v v
  same = record {
    out = λ p t. refl;
    inn = λ p t. refl;
    mentions = λ p t. refl;
    mentioners = λ p t. refl;
    said = λ u t. refl;
    uses = λ p t. refl;
    tag_users = λ p t. refl;
  }

pub tells-law : TellsLaw
tells-law parts p was is v w d sound sound-is a b e = record {
  exact = λ x y c f. delta-alike v w x y d (parts-alike parts p was v x sound a c) (parts-alike parts p is w y sound-is b f) e;
}

pub no_change-law : NoChangeLaw
no_change-law parts p g sound = record { exact = λ v w a b. delta-none v w (parts-alike parts p g v w sound a b) }
