-- The items of a tweet by their places.
use Rattle.std.proofs.Common.{◌≡◌, ◌<◌, ◌≤◌, ◌⊎◌, ℕ, zero, suc, ◌+◌, ◌&&◌, leb, true, false, List, [], ◌∷◌, ◌++◌, length, drop, Option, Some, None, option_map, sym, ap, ap₂, subst, ◌∙◌, refl, arith, append_assoc}
use Rattle.std.proofs.lemmas.List.{append-nil, length-drop}
use Rattle.std.proofs.Math.ListN.{drop_of_length-le}
use Rattle.std.proofs.lemmas.Bool.Decides.{nat_tests}
use Rattle.csv.specs.Records.{field_at}
use Rattle.kin_ids.specs.declared.ids.User.{User}
use Rattle.kin_ids.specs.declared.ops.Item.{Item}
use Rattle.kin_ids.specs.declared.ops.Record.TheVariants as record_kind
use Rattle.kin_ids.specs.Texts.{user_of}
use Rattle.kin_feed.specs.Records.{item_of, items_of, with_item, tweet_by, tweet_of}

-- the items from the field at a place on
item_here : (fs : List (List ℕ)) (i : ℕ) (f : List ℕ) → Some f ≡ field_at fs i → items_of (drop i fs) ≡ with_item (item_of f) (items_of (drop (suc i) fs))
unfolding field_at
item_here [] i f e = cc
item_here (x ∷ fs) zero f e = let same : x ≡ f = cc in ap (λ (g : List ℕ). with_item (item_of g) (items_of fs)) same
item_here (x ∷ fs) (suc i) f e = item_here fs i f e

pub item_next : (fs : List (List ℕ)) (i : ℕ) (f : List ℕ) → Some f ≡ field_at fs i → items_of (drop i fs) ≡ with_item (item_of f) (items_of (drop (i + 1) fs))
item_next fs i f e = let n : i + 1 ≡ suc i = omega arith in rw n (item_here fs i f e)

-- items and then those to come
abbrev pub after : List Item → Option (List Item) → Option (List Item)
after xs o = option_map (λ ys. xs ++ ys) o

more : (xs : List Item) (x : Item) (o : Option (List Item)) → after xs (with_item (Some x) o) ≡ after (xs ++ x ∷ []) o
more xs x None = refl
more xs x (Some ys) = ap Some (sym (append_assoc xs (x ∷ []) ys))

-- one more item is read
pub read_more : (fs : List (List ℕ)) (i : ℕ) (f : List ℕ) (x : Item) (xs ys : List Item) → items_of (drop 2 fs) ≡ after xs (items_of (drop i fs)) → Some f ≡ field_at fs i
    → Some x ≡ item_of f → ys ≡ xs ++ x ∷ [] → items_of (drop 2 fs) ≡ after ys (items_of (drop (i + 1) fs))
read_more fs i f x xs ys so at is grew = so ∙ ap (after xs) (item_next fs i f at ∙ ap (λ (o : Option Item). with_item o (items_of (drop (i + 1) fs))) (sym is))
    ∙ more xs x (items_of (drop (i + 1) fs)) ∙ ap (λ (zs : List Item). after zs (items_of (drop (i + 1) fs))) (sym grew)

-- a field that is no item
pub read_none : (fs : List (List ℕ)) (i : ℕ) (f : List ℕ) (xs : List Item) → items_of (drop 2 fs) ≡ after xs (items_of (drop i fs)) → Some f ≡ field_at fs i
    → None ≡ item_of f → None ≡ items_of (drop 2 fs)
read_none fs i f xs so at is = sym (so ∙ ap (after xs) (item_next fs i f at ∙ ap (λ (o : Option Item). with_item o (items_of (drop (i + 1) fs))) (sym is)))

-- every field is read
pub read_all : (fs : List (List ℕ)) (i : ℕ) (xs : List Item) → items_of (drop 2 fs) ≡ after xs (items_of (drop i fs)) → length fs ≤ i → Some xs ≡ items_of (drop 2 fs)
read_all fs i xs so past = sym (so ∙ ap (λ (gs : List (List ℕ)). after xs (items_of gs)) (drop_of_length-le fs past) ∙ ap Some (append-nil xs))

-- there are so many
abbrev Long : ℕ → Option (List Item) → Type 0
Long n None = Unit {0}
Long n (Some xs) = length xs ≡ n

long_more : (a : Option Item) (o : Option (List Item)) (n : ℕ) → Long n o → Long (suc n) (with_item a o)
long_more None None n h = tt
long_more None (Some xs) n h = tt
long_more (Some x) None n h = tt
long_more (Some x) (Some xs) n h = omega (arith, h)

long : (fs : List (List ℕ)) → Long (length fs) (items_of fs)
long [] = refl
long (f ∷ fs) = long_more (item_of f) (items_of fs) (length fs) (long fs)

-- a tweet of too few or too many items
unsized : (u : Option User) (o : Option (List Item)) (n : ℕ) → Long n o → (n < 1) ⊎ (16 < n) → tweet_by u o ≡ record_kind.Bad
unsized None None n h wrong = refl
unsized None (Some xs) n h wrong = refl
unsized (Some u) None n h wrong = refl
unsized (Some u) (Some xs) n h wrong = let test : leb 1 (length xs) && leb (length xs) 16 ≡ false = grind (arith, nat_tests, h, wrong) in rw test refl

sized : (u : User) (xs : List Item) (n : ℕ) → length xs ≡ n → 1 ≤ n → n ≤ 16 → tweet_by (Some u) (Some xs) ≡ record_kind.Tweet u xs
sized u xs n h low high = let test : leb 1 (length xs) && leb (length xs) 16 ≡ true = grind (arith, nat_tests, h, low, high) in rw test refl

-- the tweet of a row
tweet_at : (fs : List (List ℕ)) (u : List ℕ) → Some u ≡ field_at fs 1 → tweet_of (drop 1 fs) ≡ tweet_by (user_of u) (items_of (drop 2 fs))
unfolding field_at
tweet_at [] u e = cc
tweet_at (x ∷ []) u e = cc
tweet_at (x ∷ y ∷ fs) u e = let same : y ≡ u = cc in ap (λ (t : List ℕ). tweet_by (user_of t) (items_of fs)) same

pub no_user : (fs : List (List ℕ)) → None ≡ field_at fs 1 → record_kind.Bad ≡ tweet_of (drop 1 fs)
unfolding field_at
no_user [] e = refl
no_user (x ∷ []) e = refl
no_user (x ∷ y ∷ fs) e = cc

none_by : (o : Option (List Item)) → tweet_by None o ≡ record_kind.Bad
none_by None = refl
none_by (Some xs) = refl

pub bad_user : (fs : List (List ℕ)) (u : List ℕ) → Some u ≡ field_at fs 1 → None ≡ user_of u → record_kind.Bad ≡ tweet_of (drop 1 fs)
bad_user fs u at is = sym (tweet_at fs u at ∙ ap (λ (o : Option User). tweet_by o (items_of (drop 2 fs))) (sym is) ∙ none_by (items_of (drop 2 fs)))

pub bad_size : (fs : List (List ℕ)) (u : List ℕ) → Some u ≡ field_at fs 1 → (length fs < 3) ⊎ (18 < length fs) → record_kind.Bad ≡ tweet_of (drop 1 fs)
bad_size fs u at wrong = sym (tweet_at fs u at ∙ unsized (user_of u) (items_of (drop 2 fs)) (length (drop 2 fs)) (long (drop 2 fs)) (grind (arith, wrong, length-drop 2 fs)))

pub bad_items : (fs : List (List ℕ)) (u : List ℕ) → Some u ≡ field_at fs 1 → None ≡ items_of (drop 2 fs) → record_kind.Bad ≡ tweet_of (drop 1 fs)
bad_items fs u at is = sym (tweet_at fs u at ∙ ap (tweet_by (user_of u)) (sym is) ∙ by_none (user_of u))
  where
    by_none : (o : Option User) → tweet_by o None ≡ record_kind.Bad
    by_none None = refl
    by_none (Some v) = refl

pub good_tweet : (fs : List (List ℕ)) (u : List ℕ) (user : User) (xs : List Item) → Some u ≡ field_at fs 1 → Some user ≡ user_of u → 3 ≤ length fs → length fs ≤ 18
    → Some xs ≡ items_of (drop 2 fs) → record_kind.Tweet user xs ≡ tweet_of (drop 1 fs)
good_tweet fs u user xs at who low high is =
    let size : length xs ≡ length (drop 2 fs) = subst (Long (length (drop 2 fs))) (sym is) (long (drop 2 fs)) in
    sym (tweet_at fs u at ∙ ap₂ tweet_by (sym who) (sym is) ∙ sized user xs (length (drop 2 fs)) size (omega (arith, low, length-drop 2 fs)) (omega (arith, high, length-drop 2 fs)))
