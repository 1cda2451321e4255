-- The operations of a record do to all users and tags what the record does to the graph.
use Rattle.std.proofs.Common.{◌≡◌, ℕ, ◌+◌, Bool, true, false, cond, ◌&&◌, ◌||◌, List, [], ◌∷◌, ◌++◌, refl, sym, ◌∙◌, ap, subst, arith}
use Rattle.std.specs.Prelude.{map, filter, count_by}
use Rattle.std.specs.List.{list_any}
use Rattle.std.proofs.lemmas.Bool.{cond_both, cond-false, and_parts, and_from, false_from_ne_true, both_ways}
use Rattle.std.proofs.lemmas.List.{map-append, append-nil}
use Rattle.std.proofs.lemmas.List.Elements.{filter-append}
use Rattle.std.proofs.lemmas.List.Sums.{sum_by_push}
use Rattle.kin_ids.specs.Types.{User, Place, Half, Use, Item, Record, Op, Numbered}
use Rattle.kin_ids.specs.declared.ops.Item.TheVariants as item
use Rattle.kin_ids.specs.declared.ops.Record.TheVariants as record_kind
use Rattle.kin_ids.specs.Users.{same_user, same_tag}
use Rattle.kin_ids.specs.Graph.{Graph, Edge, Mention, TagUse, applied, item_applied, items_applied, is_edge, is_mention, is_use, with_follow, without_follow, with_mention, with_use, half_out, half_in, use_at, outs, ins, mentions_of, mentioners_of, said, uses_of, tag_users}
use Rattle.kin_ids.specs.Order.{entries, folded}
use Rattle.kin_ids.specs.Operations.{item_ops, items_ops, record_ops, numbered, all_ops}
use Rattle.kin_ids.specs.Parts.{PartView, with_half, without_half, with_member, with_first, changed, changed_tag, op_applied, ops_applied}
use Rattle.kin_ids.proofs.Same.{same_user-true, same_user-refl, same_user-sym, same_tag-true, same_tag-refl, same_tag-sym, list_any-alike}

-- what a graph's parts hand out together
abbrev pub whole : Graph → PartView
whole g = record { out = outs g; inn = ins g; mentions = mentions_of g; mentioners = mentioners_of g; said = said g; uses = uses_of g; tag_users = tag_users g }

-- a test at another user, and at the one itself
other_user : (u a w : User) → same_user u a ≡ false → same_user u w ≡ true → same_user a w ≡ false
other_user u a w other here = false_from_ne_true (same_user a w) (λ t. both_ways _ other (subst (λ (x : User). same_user u x ≡ true) (sym (same_user-true a w t)) here))

-- halves, each by the test of its end
abbrev out_of : User → List Edge → List Half
out_of u es = map half_out (filter (λ (e : Edge). same_user u e.start) es)

abbrev into : User → List Edge → List Half
into u es = map half_in (filter (λ (e : Edge). same_user u e.end) es)

module _ (u v : User) (at : Place) where
  out-follow : (es : List Edge) → out_of u (with_follow u v at es) ≡ with_half v at (out_of u es)
  out-follow [] = rw (same_user-refl u) refl
  out-follow (e ∷ es) = go (same_user u e.start) (same_user v e.end) refl refl (out-follow es)
    where
      go : (t s : Bool) → same_user u e.start ≡ t → same_user v e.end ≡ s → out_of u (with_follow u v at es) ≡ with_half v at (out_of u es) → out_of u (with_follow u v at (e ∷ es)) ≡ with_half v at (out_of u (e ∷ es))
      go true true x y ih = rw (x, y) (rw x refl)
      go true false x y ih = rw (x, y) (rw x (ap (λ hs. half_out e ∷ hs) ih))
      go false s x y ih = rw x (rw x ih)

  out-unfollow : (es : List Edge) → out_of u (without_follow u v es) ≡ without_half v (out_of u es)
  out-unfollow [] = refl
  out-unfollow (e ∷ es) = go (same_user u e.start) (same_user v e.end) refl refl (out-unfollow es)
    where
      go : (t s : Bool) → same_user u e.start ≡ t → same_user v e.end ≡ s → out_of u (without_follow u v es) ≡ without_half v (out_of u es) → out_of u (without_follow u v (e ∷ es)) ≡ without_half v (out_of u (e ∷ es))
      go true true x y ih = rw (x, y) (rw x refl)
      go true false x y ih = rw (x, y) (rw x (ap (λ hs. half_out e ∷ hs) ih))
      go false s x y ih = rw x (rw x ih)

  in-follow : (es : List Edge) → into v (with_follow u v at es) ≡ with_half u at (into v es)
  in-follow [] = rw (same_user-refl v) refl
  in-follow (e ∷ es) = go (same_user u e.start) (same_user v e.end) refl refl (in-follow es)
    where
      go : (t s : Bool) → same_user u e.start ≡ t → same_user v e.end ≡ s → into v (with_follow u v at es) ≡ with_half u at (into v es) → into v (with_follow u v at (e ∷ es)) ≡ with_half u at (into v (e ∷ es))
      go true true x y ih = rw (x, y) (rw (x, y) refl)
      go true false x y ih = rw (x, y) (rw y ih)
      go false true x y ih = rw (x, y) (rw x (ap (λ hs. half_in e ∷ hs) ih))
      go false false x y ih = rw (x, y) ih

  in-unfollow : (es : List Edge) → into v (without_follow u v es) ≡ without_half u (into v es)
  in-unfollow [] = refl
  in-unfollow (e ∷ es) = go (same_user u e.start) (same_user v e.end) refl refl (in-unfollow es)
    where
      go : (t s : Bool) → same_user u e.start ≡ t → same_user v e.end ≡ s → into v (without_follow u v es) ≡ without_half u (into v es) → into v (without_follow u v (e ∷ es)) ≡ without_half u (into v (e ∷ es))
      go true true x y ih = rw (x, y) (rw (x, y) refl)
      go true false x y ih = rw (x, y) (rw y ih)
      go false true x y ih = rw (x, y) (rw x (ap (λ hs. half_in e ∷ hs) ih))
      go false false x y ih = rw (x, y) ih

-- a test that the edge fails sees no change
module _ (u v : User) (q : Edge → Bool) (fails : (e : Edge) → is_edge u v e ≡ true → q e ≡ false) where
  step : (e : Edge) (xs ys : List Edge) → filter q xs ≡ filter q ys → filter q (e ∷ xs) ≡ filter q (e ∷ ys)
  step e xs ys h = ap (λ zs. cond (q e) (e ∷ zs) zs) h

  filter-follow : (at : Place) (es : List Edge) → filter q (with_follow u v at es) ≡ filter q es
  filter-follow at [] = cond-false _ _ _ (fails (record { start = u; end = v; present = true; added = at }) (and_from _ _ (same_user-refl u) (same_user-refl v)))
  filter-follow at (e ∷ es) = cond_both (is_edge u v e) (record e { present = true } ∷ es) (e ∷ with_follow u v at es) (λ xs. filter q xs ≡ filter q (e ∷ es))
      (λ t. cond-false _ _ _ (fails (record e { present = true }) t) ∙ sym (cond-false _ _ _ (fails e t))) (λ _. step e (with_follow u v at es) es (filter-follow at es))

  filter-unfollow : (es : List Edge) → filter q (without_follow u v es) ≡ filter q es
  filter-unfollow [] = refl
  filter-unfollow (e ∷ es) = cond_both (is_edge u v e) (record e { present = false } ∷ es) (e ∷ without_follow u v es) (λ xs. filter q xs ≡ filter q (e ∷ es))
      (λ t. cond-false _ _ _ (fails (record e { present = false }) t) ∙ sym (cond-false _ _ _ (fails e t))) (λ _. step e (without_follow u v es) es (filter-unfollow es))

-- what is changed at one user: that user's, and the others'
at_user : {A : Type 0} (u : User) (f g : User → A) (x : A) → f u ≡ x → ((a : User) → same_user u a ≡ false → f a ≡ g a) → (a : User) → f a ≡ changed g u x a
at_user {A = A} u f g x here others a = go (same_user u a) refl
  where
    go : (b : Bool) → same_user u a ≡ b → f a ≡ cond b x (g a)
    go true t = ap f (sym (same_user-true u a t)) ∙ here
    go false t = others a t

at_tag : {A : Type 0} (t : List ℕ) (f g : List ℕ → A) (x : A) → f t ≡ x → ((s : List ℕ) → same_tag t s ≡ false → f s ≡ g s) → (s : List ℕ) → f s ≡ changed_tag g t x s
at_tag {A = A} t f g x here others s = go (same_tag t s) refl
  where
    go : (b : Bool) → same_tag t s ≡ b → f s ≡ cond b x (g s)
    go true h = ap f (sym (same_tag-true t s h)) ∙ here
    go false h = others s h

module _ (u v : User) (at : Place) (es : List Edge) where
  starts : (a : User) → same_user u a ≡ false → (e : Edge) → is_edge u v e ≡ true → same_user a e.start ≡ false
  starts a other e t = other_user u a e.start other (and_parts _ _ t).0

  ends : (a : User) → same_user v a ≡ false → (e : Edge) → is_edge u v e ≡ true → same_user a e.end ≡ false
  ends a other e t = other_user v a e.end other (and_parts (same_user u e.start) (same_user v e.end) t).1

  outs-follow : (a : User) → out_of a (with_follow u v at es) ≡ changed (λ x. out_of x es) u (with_half v at (out_of u es)) a
  outs-follow = at_user u (λ x. out_of x (with_follow u v at es)) (λ x. out_of x es) (with_half v at (out_of u es)) (out-follow u v at es)
      (λ a other. ap (map half_out) (filter-follow u v (λ (e : Edge). same_user a e.start) (starts a other) at es))

  outs-unfollow : (a : User) → out_of a (without_follow u v es) ≡ changed (λ x. out_of x es) u (without_half v (out_of u es)) a
  outs-unfollow = at_user u (λ x. out_of x (without_follow u v es)) (λ x. out_of x es) (without_half v (out_of u es)) (out-unfollow u v at es)
      (λ a other. ap (map half_out) (filter-unfollow u v (λ (e : Edge). same_user a e.start) (starts a other) es))

  ins-follow : (a : User) → into a (with_follow u v at es) ≡ changed (λ x. into x es) v (with_half u at (into v es)) a
  ins-follow = at_user v (λ x. into x (with_follow u v at es)) (λ x. into x es) (with_half u at (into v es)) (in-follow u v at es)
      (λ a other. ap (map half_in) (filter-follow u v (λ (e : Edge). same_user a e.end) (ends a other) at es))

  ins-unfollow : (a : User) → into a (without_follow u v es) ≡ changed (λ x. into x es) v (without_half u (into v es)) a
  ins-unfollow = at_user v (λ x. into x (without_follow u v es)) (λ x. into x es) (without_half u (into v es)) (in-unfollow u v at es)
      (λ a other. ap (map half_in) (filter-unfollow u v (λ (e : Edge). same_user a e.end) (ends a other) es))

-- one more element, or none, in a list of those that pass a test
module _ {X Y : Type 0} (q : X → Bool) (f : X → Y) (xs : List X) (x : X) where
  pushed-here : (b : Bool) → q x ≡ true → map f (filter q (cond b xs (xs ++ x ∷ []))) ≡ cond b (map f (filter q xs)) (map f (filter q xs) ++ f x ∷ [])
  pushed-here true t = refl
  pushed-here false t = ap (map f) (filter-append q xs (x ∷ [])) ∙ (map-append f (filter q xs) (filter q (x ∷ [])) ∙ rw t refl)

  pushed-other : (b : Bool) → q x ≡ false → map f (filter q (cond b xs (xs ++ x ∷ []))) ≡ map f (filter q xs)
  pushed-other true n = refl
  pushed-other false n = ap (map f) (filter-append q xs (x ∷ []) ∙ rw n (append-nil (filter q xs)))

pub any-map-filter : {X Y : Type 0} (p : Y → Bool) (f : X → Y) (q : X → Bool) (xs : List X) → list_any p (map f (filter q xs)) ≡ list_any (λ x. q x && p (f x)) xs
any-map-filter p f q [] = refl
any-map-filter p f q (x ∷ xs) = go (q x) (any-map-filter p f q xs)
  where
    go : (b : Bool) → list_any p (map f (filter q xs)) ≡ list_any (λ y. q y && p (f y)) xs → list_any p (map f (cond b (x ∷ filter q xs) (filter q xs))) ≡ ((b && p (f x)) || list_any (λ y. q y && p (f y)) xs)
    go true ih = ap (λ r. p (f x) || r) ih
    go false ih = ih

and_flip : (a b : Bool) → (a && b) ≡ (b && a)
and_flip true true = refl
and_flip true false = refl
and_flip false true = refl
and_flip false false = refl

-- mentions, and first uses
abbrev from_user : User → List Mention → List User
from_user a ms = map (λ (m : Mention). m.end) (filter (λ (m : Mention). same_user a m.start) ms)

abbrev of_user : User → List Mention → List User
of_user a ms = map (λ (m : Mention). m.start) (filter (λ (m : Mention). same_user a m.end) ms)

abbrev uses_by : User → List TagUse → List Use
uses_by a xs = map use_at (filter (λ (x : TagUse). same_user a x.user) xs)

abbrev users_of : List ℕ → List TagUse → List User
users_of t xs = map (λ (x : TagUse). x.user) (filter (λ (x : TagUse). same_tag t x.tag) xs)

module _ (u w : User) (ms : List Mention) where
  mentions-with : (a : User) → from_user a (with_mention u w ms) ≡ changed (λ x. from_user x ms) u (with_member w (from_user u ms)) a
  mentions-with = at_user u (λ x. from_user x (with_mention u w ms)) (λ x. from_user x ms) (with_member w (from_user u ms))
      (pushed-here (λ (m : Mention). same_user u m.start) (λ (m : Mention). m.end) ms (record { start = u; end = w }) (list_any (is_mention u w) ms) (same_user-refl u)
      ∙ ap (λ b. cond b (from_user u ms) (from_user u ms ++ w ∷ [])) (sym (any-map-filter (same_user w) (λ (m : Mention). m.end) (λ (m : Mention). same_user u m.start) ms)))
      (λ a other. pushed-other (λ (m : Mention). same_user a m.start) (λ (m : Mention). m.end) ms (record { start = u; end = w }) (list_any (is_mention u w) ms) (same_user-sym a u ∙ other))

  mentioners-with : (a : User) → of_user a (with_mention u w ms) ≡ changed (λ x. of_user x ms) w (with_member u (of_user w ms)) a
  mentioners-with = at_user w (λ x. of_user x (with_mention u w ms)) (λ x. of_user x ms) (with_member u (of_user w ms))
      (pushed-here (λ (m : Mention). same_user w m.end) (λ (m : Mention). m.start) ms (record { start = u; end = w }) (list_any (is_mention u w) ms) (same_user-refl w)
      ∙ ap (λ b. cond b (of_user w ms) (of_user w ms ++ u ∷ [])) (list_any-alike (is_mention u w) (λ (m : Mention). same_user w m.end && same_user u m.start) ms (λ m. and_flip (same_user u m.start) (same_user w m.end))
      ∙ sym (any-map-filter (same_user u) (λ (m : Mention). m.start) (λ (m : Mention). same_user w m.end) ms)))
      (λ a other. pushed-other (λ (m : Mention). same_user a m.end) (λ (m : Mention). m.start) ms (record { start = u; end = w }) (list_any (is_mention u w) ms) (same_user-sym a w ∙ other))

said-with : (w : User) (us : List User) (a : User) → count_by (same_user a) (us ++ w ∷ []) ≡ changed (λ x. count_by (same_user x) us) w (count_by (same_user w) us + 1) a
said-with w us = at_user w (λ x. count_by (same_user x) (us ++ w ∷ [])) (λ x. count_by (same_user x) us) (count_by (same_user w) us + 1)
    (sum_by_push (λ v. cond (same_user w v) 1 0) us w ∙ rw (same_user-refl w) refl)
    (λ a other. sum_by_push (λ v. cond (same_user a v) 1 0) us w ∙ rw (same_user-sym a w, other) (omega arith))

module _ (u : User) (t : List ℕ) (at : Place) (xs : List TagUse) where
  uses-with : (a : User) → uses_by a (with_use u t at xs) ≡ changed (λ x. uses_by x xs) u (with_first t at (uses_by u xs)) a
  uses-with = at_user u (λ x. uses_by x (with_use u t at xs)) (λ x. uses_by x xs) (with_first t at (uses_by u xs))
      (pushed-here (λ (x : TagUse). same_user u x.user) use_at xs (record { user = u; tag = t; first = at }) (list_any (is_use u t) xs) (same_user-refl u)
      ∙ ap (λ b. cond b (uses_by u xs) (uses_by u xs ++ record { tag = t; first = at } ∷ [])) (sym (any-map-filter (λ (x : Use). same_tag t x.tag) use_at (λ (x : TagUse). same_user u x.user) xs)))
      (λ a other. pushed-other (λ (x : TagUse). same_user a x.user) use_at xs (record { user = u; tag = t; first = at }) (list_any (is_use u t) xs) (same_user-sym a u ∙ other))

  users-with : (s : List ℕ) → users_of s (with_use u t at xs) ≡ changed_tag (λ x. users_of x xs) t (with_member u (users_of t xs)) s
  users-with = at_tag t (λ x. users_of x (with_use u t at xs)) (λ x. users_of x xs) (with_member u (users_of t xs))
      (pushed-here (λ (x : TagUse). same_tag t x.tag) (λ (x : TagUse). x.user) xs (record { user = u; tag = t; first = at }) (list_any (is_use u t) xs) (same_tag-refl t)
      ∙ ap (λ b. cond b (users_of t xs) (users_of t xs ++ u ∷ [])) (list_any-alike (is_use u t) (λ (x : TagUse). same_tag t x.tag && same_user u x.user) xs (λ x. and_flip (same_user u x.user) (same_tag t x.tag))
      ∙ sym (any-map-filter (same_user u) (λ (x : TagUse). x.user) (λ (x : TagUse). same_tag t x.tag) xs)))
      (λ s other. pushed-other (λ (x : TagUse). same_tag s x.tag) (λ (x : TagUse). x.user) xs (record { user = u; tag = t; first = at }) (list_any (is_use u t) xs) (same_tag-sym s t ∙ other))

-- places, and operations one after the other
abbrev place : ℕ → ℕ → ℕ → Place
place e i n = record { epoch = record { 0 = e }; ingest = record { 0 = i }; number = n }

pub numbered-append : (n : ℕ) (xs ys : List Op) → numbered n (xs ++ ys) ≡ numbered n xs ++ numbered n ys
numbered-append n [] ys = refl
numbered-append n (x ∷ xs) ys = ap (λ zs. record { number = n; op = x } ∷ zs) (numbered-append n xs ys)

pub applied-append : (e i : ℕ) (v : PartView) (xs ys : List Numbered) → ops_applied e i v (xs ++ ys) ≡ ops_applied e i (ops_applied e i v xs) ys
applied-append e i v [] ys = refl
applied-append e i v (x ∷ xs) ys = applied-append e i (op_applied (place e i x.number) v x.op) xs ys

-- an item
item-whole : (e i n : ℕ) (u : User) (g : Graph) (x : Item) → ops_applied e i (whole g) (numbered n (item_ops u x)) ≡ whole (item_applied u (place e i n) g x)
item-whole e i n u g (item.At w) =
    let m = mentions-with u w g.mentions in
    let r = mentioners-with u w g.mentions in
    let s = said-with w g.mentioned in
    sym (λ k. record { out = outs g; inn = ins g; mentions = λ a. m a k; mentioners = λ a. r a k; said = λ a. s a k; uses = uses_of g; tag_users = tag_users g })
item-whole e i n u g (item.Hash t) =
    let m = uses-with u t (place e i n) g.uses in
    let r = users-with u t (place e i n) g.uses in
    sym (λ k. record { out = outs g; inn = ins g; mentions = mentions_of g; mentioners = mentioners_of g; said = said g; uses = λ a. m a k; tag_users = λ s. r s k })

items-whole : (e i n : ℕ) (u : User) (g : Graph) (xs : List Item) → ops_applied e i (whole g) (numbered n (items_ops u xs)) ≡ whole (items_applied u (place e i n) g xs)
items-whole e i n u g [] = refl
items-whole e i n u g (x ∷ xs) =
    ap (ops_applied e i (whole g)) (numbered-append n (item_ops u x) (items_ops u xs))
    ∙ (applied-append e i (whole g) (numbered n (item_ops u x)) (numbered n (items_ops u xs))
    ∙ (ap (λ v. ops_applied e i v (numbered n (items_ops u xs))) (item-whole e i n u g x) ∙ items-whole e i n u (item_applied u (place e i n) g x) xs))

-- a record, and all records
pub record-whole : (e i n : ℕ) (g : Graph) (r : Record) → ops_applied e i (whole g) (numbered n (record_ops r)) ≡ whole (applied (place e i n) g r)
record-whole e i n g (record_kind.Follow u v) =
    let m = outs-follow u v (place e i n) g.edges in
    let r = ins-follow u v (place e i n) g.edges in
    sym (λ k. record { out = λ a. m a k; inn = λ a. r a k; mentions = mentions_of g; mentioners = mentioners_of g; said = said g; uses = uses_of g; tag_users = tag_users g })
record-whole e i n g (record_kind.Unfollow u v) =
    let m = outs-unfollow u v (place e i n) g.edges in
    let r = ins-unfollow u v (place e i n) g.edges in
    sym (λ k. record { out = λ a. m a k; inn = λ a. r a k; mentions = mentions_of g; mentioners = mentioners_of g; said = said g; uses = uses_of g; tag_users = tag_users g })
record-whole e i n g (record_kind.Tweet u items) = items-whole e i n u g items
record-whole e i n g record_kind.Bad = refl

pub all-whole : (e i n : ℕ) (g : Graph) (rs : List Record) → ops_applied e i (whole g) (all_ops n rs) ≡ whole (folded g (entries e i n rs))
all-whole e i n g [] = refl
all-whole e i n g (r ∷ rs) =
    applied-append e i (whole g) (numbered (n + 1) (record_ops r)) (all_ops (n + 1) rs)
    ∙ (ap (λ v. ops_applied e i v (all_ops (n + 1) rs)) (record-whole e i (n + 1) g r) ∙ all-whole e i (n + 1) (applied (place e i (n + 1)) g r) rs)
