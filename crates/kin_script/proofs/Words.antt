-- Words between spaces, and numbers read from them.
use Rattle.std.proofs.Common.{rules, ◌≡◌, ◌∙◌, ◌<◌, ◌≤◌, ◌==◌, ◌+◌, ◌^◌, ℕ, List, [], ◌∷◌, ◌++◌, length, take, drop, true, false, refl, sym, ap, subst, arith, All, Option, Some, None}
use Rattle.std.specs.Prelude.{slice_index, option_map, option_and_then, is_some, is_none, unwrap_or, MatchOption}
use Rattle.std.specs.Borrow.{Bor}
use Rattle.std.proofs.lemmas.Bool.{true≢false}
use Rattle.std.proofs.lemmas.List.{append_assoc, append-nil, take-append-drop, drop_more, take_all, length-append}
use Rattle.std.proofs.lemmas.List.Splits.{slice_split_at, slice_split_none, length-slice_split}
use Rattle.kin_ids.specs.Texts.{number_of}
use Rattle.kin_script.specs.Schedules.{Text}
use Rattle.kin_script.specs.Readings.{spaced, read_all}

abbrev pub HasNoSpace : Text → Type 0
HasNoSpace text = All (λ b. (b == 32) ≡ false) text

-- the first word ends at the first space
pub word_before : (text : Text) (at : ℕ) → at < length text → HasNoSpace (take at text) → slice_index text at ≡ 32
    → spaced text ≡ take at text ∷ spaced (drop (at + 1) text)
word_before text at lt none here =
    let whole : text ≡ take at text ++ 32 ∷ drop (at + 1) text =
    sym (take-append-drop at text) ∙ ap (λ t. take at text ++ t) (drop_more text at 0 lt ∙ ap (λ b. b ∷ drop (at + 1) text) here) in
    ap spaced whole ∙ slice_split_at (λ b. b == 32) (take at text) 32 (drop (at + 1) text) none refl

pub one_word : (text : Text) (at : ℕ) → length text ≤ at → HasNoSpace (take at text) → spaced text ≡ text ∷ []
one_word text at past none = slice_split_none (λ b. b == 32) text (subst HasNoSpace (take_all at text past) none)

-- numbers in front of those that are still to be read
abbrev pub onto : List ℕ → Option (List ℕ) → Option (List ℕ)
onto ns rest = option_map (λ ms. ns ++ ms) rest

pub onto_one : (ns : List ℕ) (n : ℕ) (rest : Option (List ℕ)) → onto ns (option_map (λ ms. n ∷ ms) rest) ≡ onto (ns ++ n ∷ []) rest
onto_one ns n None = refl
onto_one ns n (Some ms) = ap Some (sym (append_assoc ns (n ∷ []) ms))

-- the words that are left
abbrev pub left : Option Text → List Text
left None = []
left (Some text) = spaced text

pub record IsReading (text : Text) (ns : List ℕ) (rest : Option Text) : Type 0 where
  pub all : read_all (spaced text) ≡ onto ns (read_all (left rest))

pub starts : (text : Text) → IsReading text [] (Some text)
starts text = record { all = go (read_all (spaced text)) }
  where
    go : (o : Option (List ℕ)) → o ≡ onto [] o
    go None = refl
    go (Some ns) = refl

-- one more number
pub reads : (text : Text) (ns : List ℕ) (here word : Text) (next : Option Text) (n : ℕ) → IsReading text ns (Some here) → spaced here ≡ word ∷ left next
    → number_of (2 ^ 64) word ≡ Some n → IsReading text (ns ++ n ∷ []) next
reads text ns here word next n r words is = record {
  all = r.all ∙ ap (λ ws. onto ns (read_all ws)) words
      ∙ ap (λ o. onto ns (option_and_then (λ m. option_map (λ ms. m ∷ ms) (read_all (left next))) o)) is
      ∙ onto_one ns n (read_all (left next));
}

-- no number
pub fails : (text : Text) (ns : List ℕ) (here word : Text) (next : Option Text) → IsReading text ns (Some here) → spaced here ≡ word ∷ left next
    → number_of (2 ^ 64) word ≡ None → read_all (spaced text) ≡ None
fails text ns here word next r words is =
    r.all ∙ ap (λ ws. onto ns (read_all ws)) words
    ∙ ap (λ o. onto ns (option_and_then (λ m. option_map (λ ms. m ∷ ms) (read_all (left next))) o)) is

pub ends : (text : Text) (ns : List ℕ) → IsReading text ns None → read_all (spaced text) ≡ Some ns
ends text ns r = r.all ∙ ap Some (append-nil ns)

pub none≢some : {X : Type 0} (x : X) → None ≡ Some x → ⊥
none≢some x e = true≢false (sym (ap is_some e))

pub some_is : {X : Type 0} (x y : X) → Some x ≡ Some y → x ≡ y
some_is x y e = ap (λ o. unwrap_or o x) e

some_more : (t : Text) (ts : List Text) (ms : List ℕ) → read_all (t ∷ ts) ≡ Some ms → 0 < length ms
some_more t ts ms is = go (number_of (2 ^ 64) t) (read_all ts) is
  where
    go : (o : Option ℕ) (p : Option (List ℕ)) → option_and_then (λ m. option_map (λ ks. m ∷ ks) p) o ≡ Some ms → 0 < length ms
    go None p e = absurd (none≢some ms e)
    go (Some n) None e = absurd (none≢some ms e)
    go (Some n) (Some ks) e = subst (λ (xs : List ℕ). 0 < length xs) (some_is (n ∷ ks) ms e) (search rules)

spaced_some : (text : Text) → (P : List Text → Type 0) → ((t : Text) (ts : List Text) → P (t ∷ ts)) → P (spaced text)
spaced_some text P h = go (spaced text) (let many = length-slice_split (λ b. b == 32) text in omega (arith, many))
  where
    go : (ts : List Text) → 0 < length ts → P ts
    go [] lt = absurd (omega arith)
    go (t ∷ ts) lt = h t ts

-- words are left over
pub too_many : (text : Text) (ns : List ℕ) (here : Text) → IsReading text ns (Some here) → (all : List ℕ) → read_all (spaced text) ≡ Some all → length ns < length all
too_many text ns here r all is = go (read_all (spaced here)) (spaced_some here (λ ts. (ms : List ℕ) → read_all ts ≡ Some ms → 0 < length ms) some_more) (sym r.all ∙ is)
  where
    go : (o : Option (List ℕ)) → ((ms : List ℕ) → o ≡ Some ms → 0 < length ms) → onto ns o ≡ Some all → length ns < length all
    go None more e = absurd (none≢some all e)
    go (Some ms) more e =
        let some = more ms refl in
        let both = length-append ns ms in
        subst (λ (xs : List ℕ). length ns < length xs) (some_is (ns ++ ms) all e) (omega (arith, some, both))

module _ {X : Type 0} where
  pub emptied : (o : Option X) → is_none o ≡ true → o ≡ None
  emptied None h = refl
  emptied (Some x) h = absurd (true≢false (sym h))

  pub filled : (o : Option X) → is_none o ≡ false → (x : X) × (o ≡ Some x)
  filled None h = absurd (true≢false h)
  filled (Some x) h = (x, refl)

abbrev pub texts_of : Option (Bor Text) → Option Text
texts_of o = option_map (λ t. t.now) o

pub as_left : (here word : Text) (o : Option (Bor Text)) → MatchOption o (spaced here ≡ word ∷ []) (λ rest. spaced here ≡ word ∷ spaced rest.now)
    → spaced here ≡ word ∷ left (texts_of o)
as_left here word None h = h
as_left here word (Some rest) h = h
