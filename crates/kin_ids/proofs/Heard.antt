-- What tweets leave of a graph, over all records.
use Rattle.std.proofs.Common.{◌≡◌, ℕ, ◌+◌, Bool, true, false, cond, ◌&&◌, ◌||◌, List, [], ◌∷◌, ◌++◌, Option, Some, None, refl, sym, ◌∙◌, ap, subst, arith, zero-add}
use Rattle.std.specs.Prelude.{count_by, sum_by}
use Rattle.std.specs.List.{list_any, find}
use Rattle.std.specs.Option.{option_or, option_map}
use Rattle.std.proofs.lemmas.Bool.{cond_both, and_parts}
use Rattle.std.proofs.lemmas.List.Folds.{list_any-append}
use Rattle.std.proofs.lemmas.List.Sums.{sum_by_push, sum_by-cons}
use Rattle.kin_ids.specs.Types.{User, Place, Item, Record}
use Rattle.kin_ids.specs.declared.ops.Item.TheVariants as item
use Rattle.kin_ids.specs.declared.ops.Record.TheVariants as record_kind
use Rattle.kin_ids.specs.Users.{same_user, same_tag}
use Rattle.kin_ids.specs.Graph.{Graph, Mention, TagUse, empty_graph, applied, item_applied, items_applied, is_mention, is_use, with_mention, with_use, said}
use Rattle.kin_ids.specs.Order.{Entry, folded}
use Rattle.kin_ids.specs.Tweets.{mentions_user, uses_tag, is_mentioning, is_using, said_in, has_mention, used_at, first_use, TweetLaw}
use Rattle.kin_ids.proofs.Same.{same_user-true, same_tag-true}

or_false : (x : Bool) → x ≡ (x || false)
or_false true = refl
or_false false = refl

pub or_or : (a b c : Bool) → ((a || b) || c) ≡ (a || (b || c))
or_or true b c = refl
or_or false b c = refl

or_none : {X : Type 0} (o : Option X) → o ≡ option_or o None
or_none None = refl
or_none (Some x) = refl

or_if : {X : Type 0} (o : Option X) (a b : Bool) (x : X) → option_or (option_or o (cond a (Some x) None)) (cond b (Some x) None) ≡ option_or o (cond (a || b) (Some x) None)
or_if None true b x = refl
or_if None false b x = refl
or_if (Some y) a b x = refl

and_or : (a b c : Bool) → ((a && b) || (a && c)) ≡ (a && (b || c))
and_or true b c = refl
and_or false b c = refl

and_false : (a : Bool) → false ≡ (a && false)
and_false true = refl
and_false false = refl

-- one mention
any-with_mention : (u w a v : User) (ms : List Mention) → list_any (is_mention u w) (with_mention a v ms) ≡ (list_any (is_mention u w) ms || (same_user u a && same_user w v))
any-with_mention u w a v ms = cond_both (list_any (is_mention a v) ms) ms (ms ++ record { start = a; end = v } ∷ []) (λ ns. list_any (is_mention u w) ns ≡ (list_any (is_mention u w) ms || (same_user u a && same_user w v)))
    (λ there. there_already (list_any (is_mention u w) ms) (same_user u a && same_user w v) (λ t. let parts = and_parts (same_user u a) (same_user w v) t in
    subst (λ x. list_any (is_mention x w) ms ≡ true) (sym (same_user-true u a parts.0)) (subst (λ x. list_any (is_mention a x) ms ≡ true) (sym (same_user-true w v parts.1)) there)))
    (λ _. list_any-append (is_mention u w) ms (record { start = a; end = v } ∷ []) ∙ ap (λ x. list_any (is_mention u w) ms || x) (sym (or_false (same_user u a && same_user w v))))
  where
    there_already : (b s : Bool) → (s ≡ true → b ≡ true) → b ≡ (b || s)
    there_already true s h = refl
    there_already false true h = h refl
    there_already false false h = refl

-- one use
find-append : (p : TagUse → Bool) (xs ys : List TagUse) → find p (xs ++ ys) ≡ option_or (find p xs) (find p ys)
find-append p [] ys = refl
find-append p (x ∷ xs) ys = go (p x) (find-append p xs ys)
  where
    go : (b : Bool) → find p (xs ++ ys) ≡ option_or (find p xs) (find p ys) → cond b (Some x) (find p (xs ++ ys)) ≡ option_or (cond b (Some x) (find p xs)) (find p ys)
    go true ih = refl
    go false ih = ih

abbrev first_in : (TagUse → Bool) → List TagUse → Option Place
first_in p xs = option_map (λ (x : TagUse). x.first) (find p xs)

found : (p : TagUse → Bool) (xs : List TagUse) (o : Option Place) → list_any p xs ≡ true → first_in p xs ≡ option_or (first_in p xs) o
found p [] o h = absurd cc
found p (x ∷ xs) o h = go (p x) refl (found p xs o) h
  where
    go : (b : Bool) → p x ≡ b → (list_any p xs ≡ true → first_in p xs ≡ option_or (first_in p xs) o) → (b || list_any p xs) ≡ true →
        option_map (λ (x : TagUse). x.first) (cond b (Some x) (find p xs)) ≡ option_or (option_map (λ (x : TagUse). x.first) (cond b (Some x) (find p xs))) o
    go true e ih k = refl
    go false e ih k = ih k

first-with_use : (u : User) (t : List ℕ) (a : User) (s : List ℕ) (at : Place) (xs : List TagUse) → first_in (is_use u t) (with_use a s at xs) ≡ option_or (first_in (is_use u t) xs) (cond (same_user u a && same_tag t s) (Some at) None)
first-with_use u t a s at xs = cond_both (list_any (is_use a s) xs) xs (xs ++ record { user = a; tag = s; first = at } ∷ []) (λ ys. first_in (is_use u t) ys ≡ option_or (first_in (is_use u t) xs) (cond (same_user u a && same_tag t s) (Some at) None))
    (λ there. go (same_user u a && same_tag t s) (λ h. let parts = and_parts (same_user u a) (same_tag t s) h in
    subst (λ x. list_any (is_use x t) xs ≡ true) (sym (same_user-true u a parts.0)) (subst (λ x. list_any (is_use a x) xs ≡ true) (sym (same_tag-true t s parts.1)) there)))
    (λ _. ap (option_map (λ (x : TagUse). x.first)) (find-append (is_use u t) xs (record { user = a; tag = s; first = at } ∷ [])) ∙ last (find (is_use u t) xs) (same_user u a && same_tag t s))
  where
    go : (b : Bool) → (b ≡ true → list_any (is_use u t) xs ≡ true) → first_in (is_use u t) xs ≡ option_or (first_in (is_use u t) xs) (cond b (Some at) None)
    go true h = found (is_use u t) xs (Some at) (h refl)
    go false h = or_none (first_in (is_use u t) xs)

    last : (o : Option TagUse) (b : Bool) → option_map (λ (x : TagUse). x.first) (option_or o (cond b (Some (record { user = a; tag = s; first = at })) None)) ≡ option_or (option_map (λ (x : TagUse). x.first) o) (cond b (Some at) None)
    last None true = refl
    last None false = refl
    last (Some x) b = refl

-- the items of a tweet
items-mention : (a : User) (at : Place) (g : Graph) (xs : List Item) (u w : User) → has_mention (items_applied a at g xs) u w ≡ (has_mention g u w || (same_user u a && list_any (mentions_user w) xs))
items-mention a at g [] u w = or_false (has_mention g u w) ∙ ap (λ b. has_mention g u w || b) (and_false (same_user u a))
items-mention a at g (item.At v ∷ xs) u w = items-mention a at (item_applied a at g (item.At v)) xs u w
    ∙ (ap (λ b. b || (same_user u a && list_any (mentions_user w) xs)) (any-with_mention u w a v g.mentions)
    ∙ (or_or (has_mention g u w) (same_user u a && same_user w v) (same_user u a && list_any (mentions_user w) xs)
    ∙ ap (λ b. has_mention g u w || b) (and_or (same_user u a) (same_user w v) (list_any (mentions_user w) xs))))
items-mention a at g (item.Hash t ∷ xs) u w = items-mention a at (item_applied a at g (item.Hash t)) xs u w

items-said : (a : User) (at : Place) (g : Graph) (xs : List Item) (w : User) → said (items_applied a at g xs) w ≡ said g w + count_by (mentions_user w) xs
items-said a at g [] w = omega arith
items-said a at g (item.At v ∷ xs) w =
    let rest : said (items_applied a at g (item.At v ∷ xs)) w ≡ said (item_applied a at g (item.At v)) w + count_by (mentions_user w) xs = items-said a at (item_applied a at g (item.At v)) xs w in
    let count : count_by (mentions_user w) (item.At v ∷ xs) ≡ cond (same_user w v) 1 0 + count_by (mentions_user w) xs = sum_by-cons (λ (x : Item). cond (mentions_user w x) 1 0) (item.At v) xs in
    let one : said (item_applied a at g (item.At v)) w ≡ said g w + cond (same_user w v) 1 0 = sum_by_push (λ u. cond (same_user w u) 1 0) g.mentioned v in
    omega (arith, rest, one, count)
items-said a at g (item.Hash t ∷ xs) w =
    let rest : said (items_applied a at g (item.Hash t ∷ xs)) w ≡ said g w + count_by (mentions_user w) xs = items-said a at (item_applied a at g (item.Hash t)) xs w in
    let count : count_by (mentions_user w) (item.Hash t ∷ xs) ≡ 0 + count_by (mentions_user w) xs = sum_by-cons (λ (x : Item). cond (mentions_user w x) 1 0) (item.Hash t) xs in
    omega (arith, rest, count)

items-first : (a : User) (at : Place) (g : Graph) (xs : List Item) (u : User) (t : List ℕ) → used_at (items_applied a at g xs) u t ≡ option_or (used_at g u t) (cond (same_user u a && list_any (uses_tag t) xs) (Some at) None)
items-first a at g [] u t = or_none (used_at g u t) ∙ ap (λ b. option_or (used_at g u t) (cond b (Some at) None)) (and_false (same_user u a))
items-first a at g (item.At v ∷ xs) u t = items-first a at (item_applied a at g (item.At v)) xs u t
items-first a at g (item.Hash s ∷ xs) u t = items-first a at (item_applied a at g (item.Hash s)) xs u t
    ∙ (ap (λ o. option_or o (cond (same_user u a && list_any (uses_tag t) xs) (Some at) None)) (first-with_use u t a s at g.uses)
    ∙ (or_if (used_at g u t) (same_user u a && same_tag t s) (same_user u a && list_any (uses_tag t) xs) at
    ∙ ap (λ b. option_or (used_at g u t) (cond b (Some at) None)) (and_or (same_user u a) (same_tag t s) (list_any (uses_tag t) xs))))

-- a record
one-mention : (at : Place) (g : Graph) (r : Record) (u w : User) → has_mention (applied at g r) u w ≡ (has_mention g u w || is_mentioning u w r)
one-mention at g (record_kind.Follow a b) u w = or_false (has_mention g u w)
one-mention at g (record_kind.Unfollow a b) u w = or_false (has_mention g u w)
one-mention at g (record_kind.Tweet a items) u w = items-mention a at g items u w
one-mention at g record_kind.Bad u w = or_false (has_mention g u w)

one-said : (at : Place) (g : Graph) (r : Record) (w : User) → said (applied at g r) w ≡ said g w + said_in w r
one-said at g (record_kind.Follow a b) w = omega arith
one-said at g (record_kind.Unfollow a b) w = omega arith
one-said at g (record_kind.Tweet a items) w = items-said a at g items w
one-said at g record_kind.Bad w = omega arith

one-first : (at : Place) (g : Graph) (r : Record) (u : User) (t : List ℕ) → used_at (applied at g r) u t ≡ option_or (used_at g u t) (cond (is_using u t r) (Some at) None)
one-first at g (record_kind.Follow a b) u t = or_none (used_at g u t)
one-first at g (record_kind.Unfollow a b) u t = or_none (used_at g u t)
one-first at g (record_kind.Tweet a items) u t = items-first a at g items u t
one-first at g record_kind.Bad u t = or_none (used_at g u t)

-- all records, on any graph
pub heard-mention : (g : Graph) (xs : List Entry) (u w : User) → has_mention (folded g xs) u w ≡ (has_mention g u w || list_any (λ x. is_mentioning u w x.content) xs)
heard-mention g [] u w = or_false (has_mention g u w)
heard-mention g (x ∷ xs) u w = heard-mention (applied x.place g x.content) xs u w
    ∙ (ap (λ b. b || list_any (λ y. is_mentioning u w y.content) xs) (one-mention x.place g x.content u w)
    ∙ or_or (has_mention g u w) (is_mentioning u w x.content) (list_any (λ y. is_mentioning u w y.content) xs))

pub heard-said : (g : Graph) (xs : List Entry) (w : User) → said (folded g xs) w ≡ said g w + sum_by (λ (x : Entry). said_in w x.content) xs
heard-said g [] w = omega arith
heard-said g (x ∷ xs) w = omega (arith, heard-said (applied x.place g x.content) xs w, one-said x.place g x.content w, sum_by-cons (λ (y : Entry). said_in w y.content) x xs)

pub heard-first : (g : Graph) (xs : List Entry) (u : User) (t : List ℕ) → used_at (folded g xs) u t ≡ option_or (used_at g u t) (first_use u t xs)
heard-first g [] u t = or_none (used_at g u t)
heard-first g (x ∷ xs) u t = heard-first (applied x.place g x.content) xs u t
    ∙ (ap (λ o. option_or o (first_use u t xs)) (one-first x.place g x.content u t) ∙ go (used_at g u t) (is_using u t x.content) (find (λ y. is_using u t y.content) xs))
  where
    go : (o : Option Place) (b : Bool) (q : Option Entry) → option_or (option_or o (cond b (Some x.place) None)) (option_map (λ (y : Entry). y.place) q) ≡ option_or o (option_map (λ (y : Entry). y.place) (cond b (Some x) q))
    go None true q = refl
    go None false q = refl
    go (Some p) b q = refl

pub tweet-law : TweetLaw
tweet-law xs u w t = record { mention = heard-mention empty_graph xs u w; said = heard-said empty_graph xs w ∙ zero-add _; first = heard-first empty_graph xs u t }
