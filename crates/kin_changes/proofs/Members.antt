-- Who is a vertex, and which tags are in use, from those before and from what deltas tell.
use Rattle.std.proofs.Common.{◌≡◌, ◌<◌, ◌&&◌, ◌||◌, ◌∙◌, ℕ, suc, Bool, true, false, not, eqb, List, [], ◌∷◌, length, is_some, refl, sym, ap, ap₂, arith}
use Rattle.std.specs.List.{list_any, find}
use Rattle.std.proofs.lemmas.Bool.{both_ways, and_parts, and_from, or_parts, or_from, or_left, false_from_ne_true, true_from_ne_false, ne_eqb}
use Rattle.kin_ids.specs.declared.ids.User.{User}
use Rattle.kin_ids.specs.declared.ops.Half.{Half}
use Rattle.kin_ids.specs.declared.ops.Use.{Use}
use Rattle.kin_ids.specs.Users.{same_user, same_tag, has_user}
use Rattle.kin_ids.specs.Parting.{user_part, tag_part}
use Rattle.kin_ids.specs.Parts.{PartView, if_here}
use Rattle.kin_ids.proofs.Same.{same_user-refl, same_tag-refl, list_any-weaker}
use Rattle.kin_store.specs.declared.pairs.Pair.{Pair}
use Rattle.kin_store.specs.declared.pairs.TagUser.{TagUser}
use Rattle.kin_store.specs.Lists.{half_to, use_of}
use Rattle.kin_store.specs.Rows.{is_none}
use Rattle.kin_graph.specs.declared.deltas.UseRow.{UseRow}
use Rattle.kin_graph.specs.Deltas.{DeltaLists, is_new, no_change}
use Rattle.kin_graph.specs.Views.{is_vertex, is_in_use}
use Rattle.kin_graph.proofs.Picking.{any-find}
use Rattle.kin_changes.specs.Views.{AreLed, delta_at}
use Rattle.kin_changes.specs.Told.{is_of, is_to, is_told, are_told, tells_tag, VerticesLaw}
use Rattle.kin_changes.proofs.Homes.{at-home, elsewhere, any-at, user-home, tag-home, any-just, any-use, any-one, more-in, more-mentioners, more-uses, more-tags}

-- A list that grew is empty where it was and nothing new is told.
module _ {K X Y : Type 0} (key : X → K) (like : K → X → Bool) (itself : (x : X) → like (key x) x ≡ true) (own : Y → Bool)
    (with : K → Y → Bool) (other : Y → K)
    (of : (w : K) (y : Y) → with w y ≡ true → own y ≡ true) (some : (y : Y) → own y ≡ true → with (other y) y ≡ true) where
  pub none-own : (ps : List Y) → ((w : K) → list_any (with w) ps ≡ false) → list_any own ps ≡ false
  none-own [] none = refl
  none-own (p ∷ ps) none = or_from (own p) (list_any own ps)
      (false_from_ne_true (own p) (λ t. both_ways _ (or_parts _ _ (none (other p))).0 (some p t)))
      (none-own ps (λ w. (or_parts (with w p) (list_any (with w) ps) (none w)).1))

  pub grown : (was is : List X) (ps : List Y) → ((w : K) → list_any (with w) ps ≡ (list_any (like w) is && not (list_any (like w) was)))
      → ((w : K) → list_any (like w) was ≡ true → list_any (like w) is ≡ true) → not (is_none is) ≡ (not (is_none was) || list_any own ps)
  grown [] [] ps told more = sym (none-own ps told)
  grown (x ∷ xs) [] ps told more = absurd (both_ways false refl
      (more (key x) (or_left (like (key x) x) (list_any (like (key x)) xs) (itself x))))
  grown (x ∷ xs) (y ∷ ys) ps told more = rw (
    ne_eqb (suc (length ys)) 0 (λ e. absurd (omega arith)),
    ne_eqb (suc (length xs)) 0
        (λ e. absurd (omega arith)),
  ) refl
  grown [] (y ∷ ys) ps told more =
      let found : list_any (with (key y)) ps ≡ true = told (key y)
      ∙ ap (λ (b : Bool). (b || list_any (like (key y)) ys) && true) (itself y) in
      let any : list_any own ps ≡ true = true_from_ne_false (list_any own ps)
      (λ none. both_ways _ (list_any-weaker (with (key y)) own ps (of (key y)) none) found) in
      rw (ne_eqb (suc (length ys)) 0 (λ e. absurd (omega arith)), any) refl

-- whether one is new of which it is known by finding it
found-new : {X : Type 0} (p : X → Bool) (was is : List X) (b : Bool) → b ≡ (is_some (find p is) && not (is_some (find p was))) → b
    ≡ (list_any p is && not (list_any p was))
found-new p was is b e = e ∙ ap₂ (λ (x y : Bool). x && not y) (sym (any-find p is)) (sym (any-find p was))

found-more : {X : Type 0} (p : X → Bool) (was is : List X) → (is_some (find p was) ≡ true → is_some (find p is) ≡ true) → list_any p was
    ≡ true → list_any p is ≡ true
found-more p was is more e = any-find p is ∙ more (sym (any-find p was) ∙ e)

pair-some : (u : User) (p : Pair) → is_of u p ≡ true → is_to u p.other p ≡ true
pair-some u p t = and_from _ _ t (same_user-refl p.other)

pair-of : (u w : User) (p : Pair) → is_to u w p ≡ true → is_of u p ≡ true
pair-of u w p t = (and_parts (same_user u p.user) (same_user w p.other) t).0

grown-halves : (u : User) (was is : List Half) (ps : List Pair)
    → ((w : User) → list_any (is_to u w) ps ≡ is_new (half_to was w) (half_to is w))
    → ((w : User) → is_some (half_to was w) ≡ true → is_some (half_to is w) ≡ true) → not (is_none is)
    ≡ (not (is_none was) || list_any (is_of u) ps)
grown-halves u was is ps told more = grown (λ (h : Half). h.other) (λ (w : User) (h : Half). same_user w h.other)
    (λ h. same_user-refl h.other) (is_of u) (is_to u) (λ (p : Pair). p.other) (pair-of u) (pair-some u)
    was is ps (λ w. found-new (λ (h : Half). same_user w h.other) was is _ (told w))
    (λ w. found-more (λ (h : Half). same_user w h.other) was is (more w))

grown-users : (u : User) (was is : List User) (ps : List Pair)
    → ((w : User) → list_any (is_to u w) ps ≡ (has_user is w && not (has_user was w)))
    → ((w : User) → has_user was w ≡ true → has_user is w ≡ true) → not (is_none is) ≡ (not (is_none was) || list_any (is_of u) ps)
grown-users u was is ps told more = grown (λ (v : User). v) same_user same_user-refl (is_of u) (is_to u) (λ (p : Pair). p.other)
    (pair-of u) (pair-some u) was is ps told more

none-pairs : (u : User) (ps : List Pair) → ((w : User) → list_any (is_to u w) ps ≡ false) → list_any (is_of u) ps ≡ false
none-pairs u ps none = none-own (λ (v : User). v) same_user same_user-refl (is_of u) (is_to u) (λ (p : Pair). p.other) (pair-of u)
    (pair-some u) ps none

abbrev is-use : User → List ℕ → UseRow → Bool
is-use u t x = same_user u x.user && same_tag t x.entry.tag

abbrev is-tag : List ℕ → User → TagUser → Bool
is-tag t u x = same_tag t x.tag && same_user u x.user

module _ (u : User) where
  use-of : (t : List ℕ) (x : UseRow) → is-use u t x ≡ true → same_user u x.user ≡ true
  use-of t x e = (and_parts (same_user u x.user) (same_tag t x.entry.tag) e).0

  use-some : (x : UseRow) → same_user u x.user ≡ true → is-use u x.entry.tag x ≡ true
  use-some x e = and_from _ _ e (same_tag-refl x.entry.tag)

  none-uses : (xs : List UseRow) → ((t : List ℕ) → list_any (is-use u t) xs ≡ false) → list_any (λ (x : UseRow). same_user u x.user) xs
      ≡ false
  none-uses xs none = none-own (λ (t : List ℕ). t) same_tag same_tag-refl (λ (x : UseRow). same_user u x.user) (is-use u)
      (λ (x : UseRow). x.entry.tag) use-of use-some xs none

  grown-uses : (was is : List Use) (xs : List UseRow) → ((t : List ℕ) → list_any (is-use u t) xs
      ≡ (is_some (use_of is t) && not (is_some (use_of was t))))
      → ((t : List ℕ) → is_some (use_of was t) ≡ true → is_some (use_of is t) ≡ true) → not (is_none is)
      ≡ (not (is_none was) || list_any (λ (x : UseRow). same_user u x.user) xs)
  grown-uses was is xs told more = grown (λ (x : Use). x.tag) (λ (t : List ℕ) (x : Use). same_tag t x.tag) (λ x. same_tag-refl x.tag)
      (λ (x : UseRow). same_user u x.user) (is-use u) (λ (x : UseRow). x.entry.tag) use-of use-some
      was is xs (λ t. found-new (λ (x : Use). same_tag t x.tag) was is _ (told t))
      (λ t. found-more (λ (x : Use). same_tag t x.tag) was is (more t))

module _ (t : List ℕ) where
  tag-of : (u : User) (x : TagUser) → is-tag t u x ≡ true → same_tag t x.tag ≡ true
  tag-of u x e = (and_parts (same_tag t x.tag) (same_user u x.user) e).0

  tag-some : (x : TagUser) → same_tag t x.tag ≡ true → is-tag t x.user x ≡ true
  tag-some x e = and_from _ _ e (same_user-refl x.user)

  none-tags : (xs : List TagUser) → ((u : User) → list_any (is-tag t u) xs ≡ false) → list_any (λ (x : TagUser). same_tag t x.tag) xs
      ≡ false
  none-tags xs none = none-own (λ (v : User). v) same_user same_user-refl (λ (x : TagUser). same_tag t x.tag) (is-tag t)
      (λ (x : TagUser). x.user) tag-of tag-some xs none

  grown-tags : (was is : List User) (xs : List TagUser) → ((u : User) → list_any (is-tag t u) xs ≡ (has_user is u && not (has_user was u)))
      → ((u : User) → has_user was u ≡ true → has_user is u ≡ true) → not (is_none is)
      ≡ (not (is_none was) || list_any (λ (x : TagUser). same_tag t x.tag) xs)
  grown-tags was is xs told more = grown (λ (v : User). v) same_user same_user-refl (λ (x : TagUser). same_tag t x.tag) (is-tag t)
      (λ (x : TagUser). x.user) tag-of tag-some was is xs told more

-- tests joined two and two
or-joined : (a b c d : Bool) → ((a || b) || (c || d)) ≡ ((a || c) || (b || d))
or-joined true b c d = refl
or-joined false true true d = refl
or-joined false true false d = refl
or-joined false false c d = refl

not-all : (a b c d e : Bool) → not (((a && b) && (c && d)) && e) ≡ (((not a || not b) || (not c || not d)) || not e)
not-all false b c d e = refl
not-all true false c d e = refl
not-all true true false d e = refl
not-all true true true false e = refl
not-all true true true true e = refl

-- whether one of five passes, where each was so or is told
any-joined : (o i m n s a b c d e : Bool) → ((((o || a) || (i || b)) || ((m || c) || (n || d))) || (s || e))
    ≡ ((((o || i) || (m || n)) || s) || (((a || b) || (c || d)) || e))
any-joined o i m n s a b c d e =
    ap (λ (x : Bool). x || (s || e)) (ap₂ (λ (x y : Bool). x || y) (or-joined o a i b) (or-joined m c n d)
    ∙ or-joined (o || i) (a || b) (m || n) (c || d))
    ∙ or-joined ((o || i) || (m || n)) ((a || b) || (c || d)) s e

module _ (was is : PartView) (ds : List DeltaLists) (led : AreLed was is ds) (u : User) where
  abbrev home : ℕ
  home = user_part (length ds) u

  -- what the user's lists have new, for those who live here
  abbrev out-new : User → Bool → Bool
  out-new w b = is_new (half_to (if_here b (was.out u)) w) (half_to (if_here b (is.out u)) w)

  abbrev in-new : User → Bool → Bool
  in-new w b = is_new (half_to (if_here b (was.inn u)) w) (half_to (if_here b (is.inn u)) w)

  abbrev mention-new : User → Bool → Bool
  mention-new w b = has_user (if_here b (is.mentions u)) w && not (has_user (if_here b (was.mentions u)) w)

  abbrev mentioner-new : User → Bool → Bool
  mentioner-new w b = has_user (if_here b (is.mentioners u)) w && not (has_user (if_here b (was.mentioners u)) w)

  abbrev use-new : List ℕ → Bool → Bool
  use-new t b = is_some (use_of (if_here b (is.uses u)) t) && not (is_some (use_of (if_here b (was.uses u)) t))

  module _ (p : ℕ) (lt : p < length ds) where
    told-out : (w : User) → list_any (is_to u w) (delta_at ds p).new_out ≡ out-new w (eqb home p)
    told-out w = any-just _ _ (led.each p lt).new_out u w

    told-in : (w : User) → list_any (is_to u w) (delta_at ds p).new_in ≡ in-new w (eqb home p)
    told-in w = any-just _ _ (led.each p lt).new_in u w

    told-mention : (w : User) → list_any (is_to u w) (delta_at ds p).mention_out ≡ mention-new w (eqb home p)
    told-mention w = any-just _ _ (led.each p lt).mention_out u w

    told-mentioner : (w : User) → list_any (is_to u w) (delta_at ds p).mention_in ≡ mentioner-new w (eqb home p)
    told-mentioner w = any-just _ _ (led.each p lt).mention_in u w

    told-use : (t : List ℕ) → list_any (is-use u t) (delta_at ds p).uses ≡ use-new t (eqb home p)
    told-use t = any-use u t _ _ _ ((led.each p lt).uses u t)

    -- elsewhere nothing is told of the user
    none-told : (p ≡ home → ⊥) → is_told (delta_at ds p) u ≡ false
    none-told other = or_from _ _ (or_from _ _
        (or_from _ _ (none-pairs u _ (λ w. elsewhere (out-new w) _ home p other (told-out w)))
        (none-pairs u _ (λ w. elsewhere (in-new w) _ home p other (told-in w))))
        (or_from _ _ (none-pairs u _ (λ w. elsewhere (mention-new w) _ home p other (told-mention w)))
        (none-pairs u _ (λ w. elsewhere (mentioner-new w) _ home p other (told-mentioner w)))))
        (none-uses u _ (λ t. elsewhere (use-new t) _ home p other (told-use t)))

  vertex : is_vertex is u ≡ (is_vertex was u || are_told ds u)
  vertex =
      let within : home < length ds = user-home (length ds) u led.some in
      let d = delta_at ds home in
      let a = grown-halves u (was.out u) (is.out u) d.new_out (λ w. at-home (out-new w) _ home (told-out home within w))
      (led.grows.out u) in
      let b = grown-halves u (was.inn u) (is.inn u) d.new_in (λ w. at-home (in-new w) _ home (told-in home within w))
      (more-in was is led.before led.after led.grows u) in
      let c = grown-users u (was.mentions u) (is.mentions u) d.mention_out
      (λ w. at-home (mention-new w) _ home (told-mention home within w)) (led.grows.mentions u) in
      let e = grown-users u (was.mentioners u) (is.mentioners u) d.mention_in
      (λ w. at-home (mentioner-new w) _ home (told-mentioner home within w))
      (more-mentioners was is led.before led.after led.grows u) in
      let f = grown-uses u (was.uses u) (is.uses u) d.uses (λ t. at-home (use-new t) _ home (told-use home within t))
      (more-uses was is led.before led.after led.grows u) in
      let there = λ (v : PartView). (((not (is_none (v.out u)) || not (is_none (v.inn u)))
      || (not (is_none (v.mentions u)) || not (is_none (v.mentioners u)))) || not (is_none (v.uses u))) in
      let parted = λ (v : PartView). not-all (is_none (v.out u)) (is_none (v.inn u)) (is_none (v.mentions u)) (is_none (v.mentioners u))
      (is_none (v.uses u)) in
      let told : is_told d u ≡ are_told ds u = sym (any-at (λ (x : DeltaLists). is_told x u) no_change home ds within
      (λ p lt other. none-told p lt other)) in
      let all : there is ≡ (there was || is_told d u) =
      rw (a, b, c, e, f) (any-joined (not (is_none (was.out u))) (not (is_none (was.inn u))) (not (is_none (was.mentions u)))
      (not (is_none (was.mentioners u))) (not (is_none (was.uses u)))
      (list_any (is_of u) d.new_out) (list_any (is_of u) d.new_in) (list_any (is_of u) d.mention_out) (list_any (is_of u) d.mention_in)
      (list_any (λ (x : UseRow). same_user u x.user) d.uses)) in
      parted is ∙ (all ∙ ap₂ (λ (x y : Bool). x || y) (sym (parted was)) told)

module _ (was is : PartView) (ds : List DeltaLists) (led : AreLed was is ds) (t : List ℕ) where
  abbrev tag-place : ℕ
  tag-place = tag_part (length ds) t

  abbrev user-new : User → Bool → Bool
  user-new u b = has_user (if_here b (is.tag_users t)) u && not (has_user (if_here b (was.tag_users t)) u)

  told-tag : (p : ℕ) → p < length ds → (u : User) → list_any (is-tag t u) (delta_at ds p).tag_users ≡ user-new u (eqb tag-place p)
  told-tag p lt u = any-one (is-tag t u) (delta_at ds p).tag_users _ _ ((led.each p lt).tag_users t u)

  in-use : is_in_use is t ≡ (is_in_use was t || tells_tag ds t)
  in-use =
      let within : tag-place < length ds = tag-home (length ds) t led.some in
      grown-tags t (was.tag_users t) (is.tag_users t) (delta_at ds tag-place).tag_users
      (λ u. at-home (user-new u) _ tag-place (told-tag tag-place within u)) (more-tags was is led.before led.after led.grows t)
      ∙ ap (λ (b : Bool). is_in_use was t || b)
      (sym (any-at (λ (d : DeltaLists). list_any (λ (x : TagUser). same_tag t x.tag) d.tag_users) no_change tag-place ds within
      (λ p lt other. none-tags t _ (λ u. elsewhere (user-new u) _ tag-place p other (told-tag p lt u)))))

pub vertices-law : VerticesLaw
vertices-law was is ds led = (λ u. vertex was is ds led u, λ t. in-use was is ds led t)
