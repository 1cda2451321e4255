-- What words ask for lies within its limits.
use Rattle.std.proofs.Common.{◌≡◌, ℕ, suc, ◌<◌, ◌≤◌, ◌&&◌, leb, cond, Bool, true, false, List, [], ◌∷◌, length, refl, sym, ap, Option, Some, None, arith}
use Rattle.std.specs.Prelude.{is_some, unwrap_or, option_map, codes, ◌==◌, ◌^◌}
use Rattle.std.specs.List.{list_all}
use Rattle.std.proofs.lemmas.Bool.{true≢false, and_parts, leb-true}
use Rattle.std.proofs.lemmas.Option.{option_and_then_some}
use Rattle.std.proofs.lemmas.List.Splits.{length-slice_split}
use Rattle.kin_ids.specs.declared.ids.User.{User}
use Rattle.kin_ids.specs.declared.options.DemoWords.{DemoWords}
use Rattle.kin_ids.specs.declared.options.ReplayWords.{ReplayWords}
use Rattle.kin_ids.specs.Texts.{number_of, user_of}
use Rattle.kin_words.specs.Items.{are_distinct, value_at}
use Rattle.kin_words.specs.Values.{or_default, in_range, number_from, parts_of, is_filled, are_files, names_of, users_of, landmarks_of}
use Rattle.kin_words.specs.Commands.{AsksReplay, AsksDemo}
use Rattle.kin_replay.specs.Files.{Text}
use Rattle.kin_replay.specs.Loaded.{AreInRange}

none≢some : {X : Type 0} (x : X) → None ≡ Some x → ⊥
none≢some x e = true≢false (sym (ap is_some e))

some_is : {X : Type 0} (x y : X) → Some x ≡ Some y → x ≡ y
some_is x y e = ap (λ o. unwrap_or o x) e

-- a value that a test lets through passed it
passed : {X : Type 0} (t : Bool) (x y : X) → cond t (Some x) None ≡ Some y → (t ≡ true) × (x ≡ y)
passed true x y e = (refl, some_is x y e)
passed false x y e = absurd (none≢some y e)

names-few : (text : Text) (names : List Text) → names_of text ≡ Some names → (0 < length names) × (length names ≤ 16)
names-few text names e =
    let p = passed (are_files (parts_of text)) (parts_of text) names e in
    let few = leb-true (length (parts_of text)) 16 (and_parts (list_all is_filled (parts_of text)) _ p.0).1 in
    let count = length-slice_split (λ b. b == 44) text in
    let same = ap (λ (xs : List Text). length xs) p.1 in
    (omega (arith, count, same), omega (arith, few, same))

number-within : (least most : ℕ) (o : Option ℕ) (n : ℕ) → in_range least most o ≡ Some n → (least ≤ n) × (n ≤ most)
number-within least most None n e = absurd (none≢some n e)
number-within least most (Some m) n e =
    let p = passed (leb least m && leb m most) m n e in
    let both = and_parts (leb least m) (leb m most) p.0 in
    let low = leb-true least m both.0 in
    let high = leb-true m most both.1 in
    let same = p.1 in
    (omega (arith, low, same), omega (arith, high, same))

parts-few : (value : Option Text) (n : ℕ) → or_default 1 (number_from 1 64) value ≡ Some n → (0 < n) × (n ≤ 64)
parts-few None n e = let same = some_is 1 n e in (omega (arith, same), omega (arith, same))
parts-few (Some text) n e = let b = number-within 1 64 (number_of (2 ^ 64) text) n e in let low = b.0 in (omega (arith, low), b.1)

one-more : (u : User) (o : Option (List User)) (us : List User) (n : ℕ) → ((vs : List User) → o ≡ Some vs → length vs ≡ n) → option_map (λ vs. u ∷ vs) o ≡ Some us → length us ≡ suc n
one-more u None us n next e = absurd (none≢some us e)
one-more u (Some vs) us n next e = let same = ap (λ (xs : List User). length xs) (some_is (u ∷ vs) us e) in let is = next vs refl in omega (arith, same, is)

users-count : (ts : List Text) (us : List User) → users_of ts ≡ Some us → length us ≡ length ts
users-count [] us e = sym (ap (λ (xs : List User). length xs) (some_is [] us e))
users-count (t ∷ ts) us e =
    option_and_then_some (λ u. option_map (λ vs. u ∷ vs) (users_of ts)) (user_of t) us e
    (λ u is f. one-more u (users_of ts) us (length ts) (users-count ts) f)

landmarks-few : (value : Option Text) (us : List User) → or_default [] landmarks_of value ≡ Some us → length us ≤ 16
landmarks-few None us e = let same = ap (λ (xs : List User). length xs) (some_is [] us e) in omega (arith, same)
landmarks-few (Some text) us e = by-tests (leb (length (parts_of text)) 16) (are_distinct (parts_of text)) refl e
  where
    by-tests : (t d : Bool) → leb (length (parts_of text)) 16 ≡ t → cond (t && d) (users_of (parts_of text)) None ≡ Some us → length us ≤ 16
    by-tests false d few e = absurd (none≢some us e)
    by-tests true false few e = absurd (none≢some us e)
    by-tests true true few e =
        let most = leb-true (length (parts_of text)) 16 few in
        let count = users-count (parts_of text) us e in
        omega (arith, most, count)

-- what the words of `replay` ask for lies within its limits
pub in-range : (words : List Text) (w : ReplayWords) → AsksReplay words w → AreInRange w
in-range words w asks =
    let r = asks.chooses in
    let feeds = option_and_then_some names_of (value_at (codes "feeds") asks.items) w.feeds r.feeds (λ text is e. names-few text w.feeds e) in
    let parts = parts-few (value_at (codes "parts") asks.items) w.parts r.parts in
    record {
      some_feeds = feeds.0;
      few_feeds = feeds.1;
      some_parts = parts.0;
      few_parts = parts.1;
      few_landmarks = landmarks-few (value_at (codes "landmarks") asks.items) w.options.landmarks r.landmarks;
    }

-- what the words of `demo` ask for has at most 500000 records
pub demo-few : (words : List Text) (w : DemoWords) → AsksDemo words w → w.records ≤ 500000
demo-few words w asks =
    option_and_then_some (number_from 1 500000) (value_at (codes "records") asks.items) w.records asks.chooses.records
    (λ text is e. (number-within 1 500000 (number_of (2 ^ 64) text) w.records e).1)
