-- Items and the words that write them.
use Rattle.std.proofs.Common.{arith, ◌≡◌, ◌∙◌, ◌+◌, inl, inr, ◌==◌, ◌&&◌, ◌||◌, not, cond, codes, ℕ, suc, List, [], ◌∷◌, ◌++◌, take, drop, Bool, true, false, refl, sym, ap, ap₂, subst, Option, Some, None}
use Rattle.std.specs.Prelude.{flat_map, option_map, option_and_then}
use Rattle.std.specs.List.{list_all, prefix_len, before_first, after_first}
use Rattle.std.specs.Str.{bytes_eq}
use Rattle.std.proofs.lemmas.Bool.{true≢false, and_parts, eqb-true}
use Rattle.std.proofs.lemmas.List.{append_assoc}
use Rattle.clap.specs.Lexer.{long_of, has_byte, long_of_rest, strip_byte}
use Rattle.kin_words.specs.Items.{Text, Item, flag, spaced, joined, words_of, has, is_item, is_value, Names}
use Rattle.kin_words.specs.Formed.{after_equals, is_value_if_any, is_formed_name, is_formed}
use Rattle.kin_words.proofs.Walks.{IsLong, IsPlain, has_fine}
use Rattle.kin_words.proofs.Readings.{read, begun, begun_at, IsFormed, AreFormed, is_fine, none≢some, some_is, one_more}
use Rattle.std.proofs.lemmas.Slice.Eq.{bytes_eq-Decides}

-- a name without `=`
abbrev pub is_name : Text → Bool
is_name text = not (has_byte 61 text)

take_one : (n b : ℕ) (t : Text) → take (1 + n) (b ∷ t) ≡ b ∷ take n t
take_one n b t = let e : 1 + n ≡ suc n = omega arith in ap (λ m. take m (b ∷ t)) e

drop_one : (n b : ℕ) (t : Text) → drop (1 + n + 1) (b ∷ t) ≡ drop (n + 1) t
drop_one n b t = let e : 1 + n + 1 ≡ suc (n + 1) = omega arith in ap (λ m. drop m (b ∷ t)) e

abbrev first_part : Text → Text
first_part text = before_first (λ x. x == 61) text

abbrev last_part : Text → Text
last_part text = after_first (λ x. x == 61) text

abbrev until : Text → ℕ
until text = prefix_len (λ x. not (x == 61)) text

-- the text is what stands before the first `=`, that, and what stands after it
record IsCut (text : Text) : Type 0 where
  some : has_byte 61 text ≡ true → text ≡ first_part text ++ 61 ∷ last_part text
  none : has_byte 61 text ≡ false → text ≡ first_part text
  value : after_equals text ≡ cond (has_byte 61 text) (Some (last_part text)) None

rejoined : (text : Text) → IsCut text
rejoined [] = record { some = λ h. absurd (true≢false (sym h)); none = λ h. refl; value = refl }
rejoined (b ∷ bs) = go (b == 61) refl (rejoined bs)
  where
    go : (c : Bool) → (b == 61) ≡ c → IsCut bs → IsCut (b ∷ bs)
    go true e more = record {
      some = λ h. rw e (ap (λ x. x ∷ bs) (eqb-true b 61 e));
      none = λ h. absurd (true≢false (sym (ap (λ c. c || has_byte 61 bs) e) ∙ h));
      value = rw e refl;
    }
    go false e more = record {
      some = λ h. rw e (ap (λ t. b ∷ t) (more.some (sym (ap (λ c. c || has_byte 61 bs) e) ∙ h)) ∙ sym (ap₂ (λ x y. x ++ 61 ∷ y) (take_one (until bs) b bs) (drop_one (until bs) b bs)));
      none = λ h. rw e (ap (λ t. b ∷ t) (more.none (sym (ap (λ c. c || has_byte 61 bs) e) ∙ h)) ∙ sym (take_one (until bs) b bs));
      value = rw e (more.value ∙ ap (λ t. cond (has_byte 61 bs) (Some t) None) (sym (drop_one (until bs) b bs)));
    }

-- a name, and a name with what follows it
record IsJoin (name v : Text) : Type 0 where
  front : first_part (name ++ 61 ∷ v) ≡ name
  back : last_part (name ++ 61 ∷ v) ≡ v
  has_it : has_byte 61 (name ++ 61 ∷ v) ≡ true
  value : after_equals (name ++ 61 ∷ v) ≡ Some v
  whole : first_part name ≡ name
  alone : has_byte 61 name ≡ false
  nothing : after_equals name ≡ None

cut : (name v : Text) → is_name name ≡ true → IsJoin name v
cut [] v h = record { front = refl; back = refl; has_it = refl; value = refl; whole = refl; alone = refl; nothing = refl }
cut (b ∷ bs) v h = go (b == 61) refl h (cut bs v)
  where
    go : (c : Bool) → (b == 61) ≡ c → not (c || has_byte 61 bs) ≡ true → (is_name bs ≡ true → IsJoin bs v) → IsJoin (b ∷ bs) v
    go true e h more = absurd (true≢false (sym h))
    go false e h more =
        let r = more h in
        record {
          front = rw e (take_one (until (bs ++ 61 ∷ v)) b (bs ++ 61 ∷ v) ∙ ap (λ t. b ∷ t) r.front);
          back = rw e (drop_one (until (bs ++ 61 ∷ v)) b (bs ++ 61 ∷ v) ∙ r.back);
          has_it = rw e r.has_it;
          value = rw e r.value;
          whole = rw e (take_one (until bs) b bs ∙ ap (λ t. b ∷ t) r.whole);
          alone = rw e r.alone;
          nothing = rw e r.nothing;
        }

-- ---- words that are formed

plain_word : (a : ℕ) (rest : Text) → (a == 45) ≡ false → IsPlain (a ∷ rest)
plain_word a rest e = record { other = rw e refl; long = rw e refl; short = rw e refl; fine = rw e refl }

not_true : (b : Bool) → not b ≡ true → b ≡ false
not_true false h = refl
not_true true h = absurd (true≢false (sym h))

fine_value : (t : Text) → is_formed_name t ≡ true → (v : Option Text) → after_equals t ≡ v → has_fine v ≡ true
fine_value [] h v is = absurd (true≢false (sym h))
fine_value (x ∷ xs) h v is = go v (sym (ap is_value_if_any is) ∙ h)
  where
    go : (v : Option Text) → is_value_if_any v ≡ true → has_fine v ≡ true
    go None h = refl
    go (Some v) h = h

pub formed_word : (w : Text) → is_formed w ≡ true → IsFormed w
formed_word [] h = absurd (true≢false (sym h))
formed_word (a ∷ []) h = inr (plain_word a [] (not_true (a == 45) h))
formed_word (a ∷ b ∷ name) h = go (a == 45) (b == 45) refl refl h
  where
    long : (name : Text) → (a == 45) ≡ true → (b == 45) ≡ true → is_formed_name name ≡ true → IsFormed (a ∷ b ∷ name)
    long [] ea eb h = absurd (true≢false (sym h))
    long (x ∷ xs) ea eb h = inl (
      first_part (x ∷ xs),
      cond (has_byte 61 (x ∷ xs)) (Some (last_part (x ∷ xs))) None,
      record {
        other = rw (ea, eb) refl;
        long = rw (ea, eb) refl;
        fine = fine_value (x ∷ xs) h _ (rejoined (x ∷ xs)).value;
      },
    )

    go : (c d : Bool) → (a == 45) ≡ c → (b == 45) ≡ d → cond (c && d) (is_formed_name name) (not c) ≡ true → IsFormed (a ∷ b ∷ name)
    go true true ea eb h = long name ea eb h
    go true false ea eb h = absurd (true≢false (sym h))
    go false d ea eb h = inr (plain_word a (b ∷ name) ea)

pub formed_words : (ws : List Text) → list_all is_formed ws ≡ true → AreFormed ws
formed_words [] h = tt
formed_words (w ∷ ws) h = let parts = and_parts (is_formed w) (list_all is_formed ws) h in (formed_word w parts.0, formed_words ws parts.1)

-- ---- what read items write

abbrev spelled : Text → Option Text → Text
spelled name None = 45 ∷ 45 ∷ name
spelled name (Some v) = 45 ∷ 45 ∷ (name ++ 61 ∷ v)

long_spelled : (w name : Text) (v : Option Text) → long_of w ≡ Some (name, v) → w ≡ spelled name v
long_spelled [] name v h = absurd (none≢some (name, v) h)
long_spelled (a ∷ rest) name v h = go (a == 45) refl rest h
  where
    parts : (t : Text) (c : Bool) → has_byte 61 t ≡ c → 45 ∷ 45 ∷ t ≡ spelled (first_part t) (cond c (Some (last_part t)) None)
    parts t true e = ap (λ x. 45 ∷ 45 ∷ x) ((rejoined t).some e)
    parts t false e = ap (λ x. 45 ∷ 45 ∷ x) ((rejoined t).none e)

    two : (x : ℕ) (xs : Text) → long_of_rest (x ∷ xs) ≡ Some (name, v) → 45 ∷ 45 ∷ x ∷ xs ≡ spelled name v
    two x xs e = subst (λ p. 45 ∷ 45 ∷ x ∷ xs ≡ spelled p.0 p.1) (some_is _ (name, v) e) (parts (x ∷ xs) (has_byte 61 (x ∷ xs)) refl)

    one : (d : Bool) (b : ℕ) → (b == 45) ≡ d → (r : Text) → option_and_then long_of_rest (cond d (Some r) None) ≡ Some (name, v) → 45 ∷ b ∷ r ≡ spelled name v
    one false b eb r e = absurd (none≢some (name, v) e)
    one true b eb [] e = absurd (none≢some (name, v) e)
    one true b eb (x ∷ xs) e = ap (λ y. 45 ∷ y ∷ x ∷ xs) (eqb-true b 45 eb) ∙ two x xs e

    go : (c : Bool) → (a == 45) ≡ c → (rest : Text) → option_and_then long_of_rest (option_and_then (strip_byte 45) (cond c (Some rest) None)) ≡ Some (name, v) → a ∷ rest ≡ spelled name v
    go false ea rest e = absurd (none≢some (name, v) e)
    go true ea [] e = absurd (none≢some (name, v) e)
    go true ea (b ∷ r) e = ap (λ y. y ∷ b ∷ r) (eqb-true a 45 ea) ∙ one (b == 45) b refl r e

module _ (os fs : List Text) where
  abbrev Writes : Option Text → List Item → List Text → Type 0
  Writes None items ws = flat_map words_of items ≡ ws
  Writes (Some name) items ws = flat_map words_of items ≡ (codes "--" ++ name) ∷ ws

  abbrev Written : List Text → Type 0
  Written ws = (p : Option Text) (items : List Item) → read os fs ws p ≡ Some items → Writes p items ws

  module _ (w : Text) (ws : List Text) (next : Written ws) where
    long_written : (name : Text) (v : Option Text) → IsLong w name v → (items : List Item) → begun_at os fs name v (read os fs ws) ≡ Some items
        → (b c : Bool) → has name os ≡ b → has name fs ≡ c → flat_map words_of items ≡ w ∷ ws
    long_written name (Some v) l items is true c o f =
        let rest = one_more (joined name v) (read os fs ws None) items (sym (ap (λ b. cond b (option_map (λ is. joined name v ∷ is) (read os fs ws None)) None) o) ∙ is) in
        ap (flat_map words_of) rest.2
        ∙ ap₂ (λ x xs. x ∷ xs) (ap (λ t. 45 ∷ 45 ∷ t) (append_assoc name (61 ∷ []) v) ∙ sym (long_spelled w name (Some v) l.long)) (next None rest.0 rest.1)
    long_written name None l items is true c o f =
        next (Some name) items (sym (ap (λ b. cond b (read os fs ws (Some name)) (cond (has name fs) (option_map (λ is. flag name ∷ is) (read os fs ws None)) None)) o) ∙ is)
        ∙ ap (λ x. x ∷ ws) (sym (long_spelled w name None l.long))
    long_written name None l items is false true o f =
        let rest = one_more (flag name) (read os fs ws None) items
        (sym (ap₂ (λ b c. cond b (read os fs ws (Some name)) (cond c (option_map (λ is. flag name ∷ is) (read os fs ws None)) None)) o f) ∙ is) in
        ap (flat_map words_of) rest.2 ∙ ap₂ (λ x xs. x ∷ xs) (sym (long_spelled w name None l.long)) (next None rest.0 rest.1)
    long_written name None l items is false false o f =
        absurd (none≢some items (sym (ap₂ (λ b c. cond b (read os fs ws (Some name)) (cond c (option_map (λ is. flag name ∷ is) (read os fs ws None)) None)) o f) ∙ is))
    long_written name (Some v) l items is false c o f =
        absurd (none≢some items (sym (ap (λ b. cond b (option_map (λ is. joined name v ∷ is) (read os fs ws None)) None) o) ∙ is))

    word_written : IsFormed w → (p : Option Text) (items : List Item) → read os fs (w ∷ ws) p ≡ Some items → Writes p items (w ∷ ws)
    word_written (inl (name, v, l)) None items is =
        long_written name v l items (sym (ap (λ x. begun os fs x (read os fs ws)) l.long) ∙ is) (has name os) (has name fs) refl refl
    word_written (inr l) None items is = absurd (none≢some items (ap (λ x. begun os fs x (read os fs ws)) (sym l.long) ∙ is))
    word_written f (Some n) items is =
        let rest = one_more (spaced n w) (read os fs ws None) items is in
        ap (flat_map words_of) rest.2 ∙ ap (λ xs. (codes "--" ++ n) ∷ w ∷ xs) (next None rest.0 rest.1)

  -- items that are read write the words
  pub written : (ws : List Text) → AreFormed ws → Written ws
  written [] f None items is = ap (flat_map words_of) (sym (some_is [] items is))
  written [] f (Some n) items is = absurd (none≢some items is)
  written (w ∷ ws) f p items is = word_written w ws (written ws f.1) f.0 p items is

-- ---- words that are written are read

abbrev pub is_proper : Text → Bool
is_proper [] = false
is_proper (x ∷ xs) = is_name (x ∷ xs)

-- names have a byte and no `=`, and no flag is an option
pub record AreNames (os fs : List Text) : Type 0 where
  pub options : list_all is_proper os ≡ true
  pub flags : list_all is_proper fs ≡ true
  pub apart : list_all (λ n. not (has n os)) fs ≡ true

pub of_all : (P : Text → Bool) (name : Text) (xs : List Text) → list_all P xs ≡ true → has name xs ≡ true → P name ≡ true
of_all P name [] h k = absurd (true≢false (sym k))
of_all P name (x ∷ xs) h k = go (bytes_eq x name) refl k (of_all P name xs)
  where
    go : (c : Bool) → bytes_eq x name ≡ c → (c || has name xs) ≡ true → (list_all P xs ≡ true → has name xs ≡ true → P name ≡ true) → P name ≡ true
    go true e k more = subst (λ t. P t ≡ true) ((bytes_eq-Decides x name).0 e) (and_parts (P x) (list_all P xs) h).0
    go false e k more = more (and_parts (P x) (list_all P xs) h).1 k

alone_long : (name : Text) → is_proper name ≡ true → long_of (45 ∷ 45 ∷ name) ≡ Some (name, None)
alone_long [] h = absurd (true≢false (sym h))
alone_long (x ∷ xs) h = let j = cut (x ∷ xs) [] h in ap₂ (λ a c. Some (a, cond c (Some (last_part (x ∷ xs))) None)) j.whole j.alone

joined_long : (name v : Text) → is_proper name ≡ true → long_of (45 ∷ 45 ∷ (name ++ 61 ∷ v)) ≡ Some (name, Some v)
joined_long [] v h = absurd (true≢false (sym h))
joined_long (x ∷ xs) v h =
    let j = cut (x ∷ xs) v h in
    ap₂ (λ a c. Some (a, cond c (Some (last_part (x ∷ xs ++ 61 ∷ v))) None)) j.front j.has_it ∙ ap (λ t. Some (x ∷ xs, Some t)) j.back

alone_formed : (name : Text) → is_proper name ≡ true → is_formed (45 ∷ 45 ∷ name) ≡ true
alone_formed [] h = absurd (true≢false (sym h))
alone_formed (x ∷ xs) h = ap is_value_if_any (cut (x ∷ xs) [] h).nothing

joined_formed : (name v : Text) → is_proper name ≡ true → is_value v ≡ true → is_formed (45 ∷ 45 ∷ (name ++ 61 ∷ v)) ≡ true
joined_formed [] v h k = absurd (true≢false (sym h))
joined_formed (x ∷ xs) v h k = ap is_value_if_any (cut (x ∷ xs) v h).value ∙ k

value_formed : (v : Text) → is_value v ≡ true → is_formed v ≡ true
value_formed [] h = h
value_formed (a ∷ []) h = h
value_formed (a ∷ b ∷ rest) h = rw (not_true (a == 45) h) refl

module _ (os fs : List Text) (names : AreNames os fs) where
  abbrev all : Names
  all = record { options = os; flags = fs }

  pub all_formed : (items : List Item) → list_all (is_item all) items ≡ true → list_all is_formed (flat_map words_of items) ≡ true
  all_formed [] h = refl
  all_formed (flag name ∷ items) h =
      let k = and_parts (has name fs) (list_all (is_item all) items) h in
      ap₂ (λ a b. a && b) (alone_formed name (of_all is_proper name fs names.flags k.0)) (all_formed items k.1)
  all_formed (spaced name v ∷ items) h =
      let k = and_parts (has name os && is_value v) (list_all (is_item all) items) h in
      let j = and_parts (has name os) (is_value v) k.0 in
      ap₂ (λ a b. a && b) (alone_formed name (of_all is_proper name os names.options j.0)) (ap₂ (λ a b. a && b) (value_formed v j.1) (all_formed items k.1))
  all_formed (joined name v ∷ items) h =
      let k = and_parts (has name os && is_value v) (list_all (is_item all) items) h in
      let j = and_parts (has name os) (is_value v) k.0 in
      ap₂ (λ a b. a && b) (ap (λ t. is_formed (45 ∷ 45 ∷ t)) (append_assoc name (61 ∷ []) v) ∙ joined_formed name v (of_all is_proper name os names.options j.0) j.1) (all_formed items k.1)

  pub all_fine : (items : List Item) → list_all (is_item all) items ≡ true → list_all is_fine items ≡ true
  all_fine [] h = refl
  all_fine (flag name ∷ items) h = all_fine items (and_parts (has name fs) (list_all (is_item all) items) h).1
  all_fine (spaced name v ∷ items) h =
      let k = and_parts (has name os && is_value v) (list_all (is_item all) items) h in
      ap₂ (λ a b. a && b) (and_parts (has name os) (is_value v) k.0).1 (all_fine items k.1)
  all_fine (joined name v ∷ items) h = all_fine items (and_parts (has name os && is_value v) (list_all (is_item all) items) h).1

  pub read_back : (items : List Item) → list_all (is_item all) items ≡ true → read os fs (flat_map words_of items) None ≡ Some items
  read_back [] h = refl
  read_back (flag name ∷ items) h =
      let k = and_parts (has name fs) (list_all (is_item all) items) h in
      let other = not_true (has name os) (of_all (λ n. not (has n os)) name fs names.apart k.0) in
      let ws = flat_map words_of items in
      ap (λ x. begun os fs x (read os fs ws)) (alone_long name (of_all is_proper name fs names.flags k.0))
      ∙ ap₂ (λ b c. cond b (read os fs ws (Some name)) (cond c (option_map (λ is. flag name ∷ is) (read os fs ws None)) None)) other k.0
      ∙ ap (option_map (λ is. flag name ∷ is)) (read_back items k.1)
  read_back (spaced name v ∷ items) h =
      let k = and_parts (has name os && is_value v) (list_all (is_item all) items) h in
      let j = and_parts (has name os) (is_value v) k.0 in
      let ws = flat_map words_of items in
      ap (λ x. begun os fs x (read os fs (v ∷ ws))) (alone_long name (of_all is_proper name os names.options j.0))
      ∙ ap (λ b. cond b (read os fs (v ∷ ws) (Some name)) (cond (has name fs) (option_map (λ is. flag name ∷ is) (read os fs (v ∷ ws) None)) None)) j.0
      ∙ ap (option_map (λ is. spaced name v ∷ is)) (read_back items k.1)
  read_back (joined name v ∷ items) h =
      let k = and_parts (has name os && is_value v) (list_all (is_item all) items) h in
      let j = and_parts (has name os) (is_value v) k.0 in
      let ws = flat_map words_of items in
      ap (λ t. begun os fs (long_of (45 ∷ 45 ∷ t)) (read os fs ws)) (append_assoc name (61 ∷ []) v)
      ∙ ap (λ x. begun os fs x (read os fs ws)) (joined_long name v (of_all is_proper name os names.options j.0))
      ∙ ap (λ b. cond b (option_map (λ is. joined name v ∷ is) (read os fs ws None)) None) j.0
      ∙ ap (option_map (λ is. joined name v ∷ is)) (read_back items k.1)
