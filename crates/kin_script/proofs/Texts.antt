-- The lines of events: what is read is what was written.
use Rattle.std.proofs.Common.{rules, ◌≡◌, ◌∙◌, ◌<◌, ◌==◌, ◌+◌, ◌^◌, ◌&&◌, not, cond, codes, ℕ, List, [], ◌∷◌, length, map, Bool, true, false, refl, sym, ap, subst, arith, Option, Some, None, nat_lt}
use Rattle.std.specs.Prelude.{option_map, option_and_then}
use Rattle.std.specs.List.{list_all, join_with_byte}
use Rattle.std.specs.Str.{bytes_eq}
use Rattle.std.specs.Str.Parse.{digits_value}
use Rattle.std.specs.Fmt.{decimal}
use Rattle.std.proofs.lemmas.Bool.{and_parts, ltb-true, lt-ltb, true≢false}
use Rattle.std.proofs.lemmas.Fmt.{decimal_by_steps}
use Rattle.std.proofs.lemmas.Slice.Eq.{bytes_eq-Decides}
use Rattle.std.proofs.lemmas.List.Elements.{All-nil, All-cons, All-append}
use Rattle.std.proofs.lemmas.List.Splits.{slice_split_at, slice_split_none, join_with_byte-slice_split}
use Rattle.kin_ids.specs.declared.ids.IngestId.{IngestId}
use Rattle.kin_ids.specs.declared.ids.PartId.{PartId}
use Rattle.kin_ids.specs.Texts.{number_of}
use Rattle.kin_ids.proofs.Numerals.{number-law}
use Rattle.kin_script.specs.declared.events.Event.{Event}
use Rattle.kin_script.specs.declared.events.Event.TheVariants as event
use Rattle.kin_script.specs.Schedules.{Text, word_of, numbers_of, event_text, IsInRange}
use Rattle.kin_script.specs.Readings.{spaced, read_all, node_in, part_in, user_in, cut_in, bare, single, stamped, delivered, event_in, event_of_words, event_read}
use Rattle.kin_script.proofs.Words.{HasNoSpace, none≢some, some_is}

-- ---- words that are joined, and split again

plain : (text : Text) → list_all (λ b. not (b == 32)) text ≡ true → HasNoSpace text
plain [] h = All-nil _
plain (b ∷ bs) h =
    let parts = and_parts (not (b == 32)) (list_all (λ b. not (b == 32)) bs) h in
    All-cons (λ b. (b == 32) ≡ false) b bs (turned (b == 32) parts.0) (plain bs parts.1)
  where
    turned : (x : Bool) → not x ≡ true → x ≡ false
    turned false h = refl
    turned true h = absurd (true≢false (sym h))

digit_plain : (n : ℕ) → n < 10 → HasNoSpace ((48 + n) ∷ [])
digit_plain n lt = All-cons (λ b. (b == 32) ≡ false) (48 + n) [] (search rules) (All-nil _)

number_plain : (n : ℕ) → n < 2 ^ 64 → HasNoSpace (decimal n)
number_plain n lt = decimal_by_steps (λ _ ds. HasNoSpace ds) digit_plain
    (λ n ds ten before. All-append (λ b. (b == 32) ≡ false) ds _ before (digit_plain _ (search rules))) n lt

abbrev AllPlain : List Text → Type 0
AllPlain [] = Unit {0}
AllPlain (t ∷ ts) = HasNoSpace t × AllPlain ts

split_joined : (w : Text) (ws : List Text) → HasNoSpace w → AllPlain ws → spaced (join_with_byte 32 (w ∷ ws)) ≡ w ∷ ws
split_joined w [] none all = slice_split_none (λ b. b == 32) w none
split_joined w (x ∷ xs) none all =
    slice_split_at (λ b. b == 32) w 32 (join_with_byte 32 (x ∷ xs)) none refl ∙ ap (λ ts. w ∷ ts) (split_joined x xs all.0 all.1)

-- ---- numbers

abbrev AreSmall : List ℕ → Type 0
AreSmall [] = Unit {0}
AreSmall (n ∷ ns) = (n < 2 ^ 64) × AreSmall ns

all_plain : (ns : List ℕ) → AreSmall ns → AllPlain (map decimal ns)
all_plain [] small = tt
all_plain (n ∷ ns) small = (number_plain n small.0, all_plain ns small.1)

read_written : (ns : List ℕ) → AreSmall ns → read_all (map decimal ns) ≡ Some ns
read_written [] small = refl
read_written (n ∷ ns) small =
    ap (option_and_then (λ m. option_map (λ ms. m ∷ ms) (read_all (map decimal ns)))) (number-law n small.0)
    ∙ ap (option_map (λ ms. n ∷ ms)) (read_written ns small.1)

number_writes : (text : Text) (n : ℕ) → number_of (2 ^ 64) text ≡ Some n → decimal n ≡ text
number_writes text n is = go (bytes_eq (decimal (digits_value 10 text)) text && nat_lt (digits_value 10 text) (2 ^ 64)) refl is
  where
    go : (b : Bool) → (bytes_eq (decimal (digits_value 10 text)) text && nat_lt (digits_value 10 text) (2 ^ 64)) ≡ b
        → cond b (Some (digits_value 10 text)) None ≡ Some n → decimal n ≡ text
    go false e h = absurd (none≢some n h)
    go true e h = subst (λ m. decimal m ≡ text) (some_is (digits_value 10 text) n h)
        ((bytes_eq-Decides (decimal (digits_value 10 text)) text).0 (and_parts _ _ e).0)

all_written : (ts : List Text) (ns : List ℕ) → read_all ts ≡ Some ns → map decimal ns ≡ ts
all_written [] ns is = ap (map decimal) (sym (some_is [] ns is))
all_written (t ∷ ts) ns is = go (number_of (2 ^ 64) t) (read_all ts) (all_written ts) refl is
  where
    go : (o : Option ℕ) (p : Option (List ℕ)) → ((ms : List ℕ) → p ≡ Some ms → map decimal ms ≡ ts) → number_of (2 ^ 64) t ≡ o
        → option_and_then (λ n. option_map (λ ns. n ∷ ns) p) o ≡ Some ns → map decimal ns ≡ t ∷ ts
    go None p rest a h = absurd (none≢some ns h)
    go (Some n) None rest a h = absurd (none≢some ns h)
    go (Some n) (Some ms) rest a h =
        subst (λ ks. map decimal ks ≡ t ∷ ts) (some_is (n ∷ ms) ns h)
        (ap (λ x. x ∷ map decimal ms) (number_writes t n a) ∙ ap (λ xs. t ∷ xs) (rest ms refl))

-- ---- reading what was written

five : (nodes parts : ℕ) (word : Text) (ns : List ℕ) → 4 < length ns → event_in nodes parts word ns ≡ None
five nodes parts word [] lt = absurd (omega arith)
five nodes parts word (a ∷ []) lt = absurd (omega arith)
five nodes parts word (a ∷ b ∷ []) lt = absurd (omega arith)
five nodes parts word (a ∷ b ∷ c ∷ []) lt = absurd (omega arith)
five nodes parts word (a ∷ b ∷ c ∷ d ∷ []) lt = absurd (omega arith)
five nodes parts word (a ∷ b ∷ c ∷ d ∷ e ∷ more) lt = refl

-- with more than four numbers, or a word that is none, there is no event
pub no_event : (nodes parts : ℕ) (line word : Text) (ws : List Text) → spaced line ≡ word ∷ ws
    → ((ns : List ℕ) → read_all ws ≡ Some ns → 4 < length ns) → event_read nodes parts line ≡ None
no_event nodes parts line word ws is many = ap (event_of_words nodes parts) is ∙ go (read_all ws) many
  where
    go : (o : Option (List ℕ)) → ((ns : List ℕ) → o ≡ Some ns → 4 < length ns) → option_and_then (event_in nodes parts word) o ≡ None
    go None more = refl
    go (Some ns) more = five nodes parts word ns (more ns refl)

-- an event in range whose word and numbers these are
pub record Says (nodes parts : ℕ) (word : Text) (ns : List ℕ) (e : Event) : Type 0 where
  pub range : IsInRange nodes parts e
  pub word_is : word_of e ≡ word
  pub numbers_are : numbers_of e ≡ ns

either : {X R : Type 0} (b : Bool) (x y v : X) → (b ≡ true → x ≡ v → R) → (y ≡ v → R) → cond b x y ≡ v → R
either {R = R} b x y v here there = go b here
  where
    go : (b : Bool) → (b ≡ true → x ≡ v → R) → cond b x y ≡ v → R
    go true here h = here refl h
    go false here h = there h

same_text : (a b : Text) → bytes_eq a b ≡ true → b ≡ a
same_text a b e = sym ((bytes_eq-Decides a b).0 e)

module _ (nodes parts : ℕ) (word : Text) (e : Event) where
  said : (ns : List ℕ) (f : Event) → IsInRange nodes parts f → word_of f ≡ word → numbers_of f ≡ ns → Some f ≡ Some e → Says nodes parts word ns e
  said ns f range is numbers h = subst (Says nodes parts word ns) (some_is f e h) (record { range = range; word_is = is; numbers_are = numbers })

  nothing : (ns : List ℕ) → None ≡ Some e → Says nodes parts word ns e
  nothing ns h = absurd (none≢some e h)

  bare_says : bare word ≡ Some e → Says nodes parts word [] e
  bare_says = either (bytes_eq word (codes "cut")) _ _ (Some e) (λ w. said [] (event.Cut None) tt (same_text word _ w) refl)
      (either (bytes_eq word (codes "begin")) _ _ (Some e) (λ w. said [] event.Begin tt (same_text word _ w) refl)
      (either (bytes_eq word (codes "mine")) _ _ (Some e) (λ w. said [] event.Mine tt (same_text word _ w) refl) (nothing [])))

  at_node : (n : ℕ) (f : IngestId → Event) → ((lt : n < nodes) → IsInRange nodes parts (f (record { 0 = n }))) → word_of (f (record { 0 = n })) ≡ word
      → numbers_of (f (record { 0 = n })) ≡ n ∷ [] → option_map f (node_in nodes n) ≡ Some e → Says nodes parts word (n ∷ []) e
  at_node n f range is numbers h = go (nat_lt n nodes) refl h
    where
      go : (b : Bool) → nat_lt n nodes ≡ b → option_map f (cond b (Some (record { 0 = n })) None) ≡ Some e → Says nodes parts word (n ∷ []) e
      go true lt h = said (n ∷ []) (f (record { 0 = n })) (range (ltb-true n nodes lt)) is numbers h
      go false lt h = nothing (n ∷ []) h

  at_part : (n : ℕ) (f : PartId → Event) → ((lt : n < parts) → IsInRange nodes parts (f (record { 0 = n }))) → word_of (f (record { 0 = n })) ≡ word
      → numbers_of (f (record { 0 = n })) ≡ n ∷ [] → option_map f (part_in parts n) ≡ Some e → Says nodes parts word (n ∷ []) e
  at_part n f range is numbers h = go (nat_lt n parts) refl h
    where
      go : (b : Bool) → nat_lt n parts ≡ b → option_map f (cond b (Some (record { 0 = n })) None) ≡ Some e → Says nodes parts word (n ∷ []) e
      go true lt h = said (n ∷ []) (f (record { 0 = n })) (range (ltb-true n parts lt)) is numbers h
      go false lt h = nothing (n ∷ []) h

  at_user : (n : ℕ) → word_of (event.Turn (record { 0 = n })) ≡ word → option_map (λ u. event.Turn u) (user_in n) ≡ Some e → Says nodes parts word (n ∷ []) e
  at_user n is h = go (nat_lt n 4294967296) refl h
    where
      go : (b : Bool) → nat_lt n 4294967296 ≡ b → option_map (λ u. event.Turn u) (cond b (Some (record { 0 = n })) None) ≡ Some e → Says nodes parts word (n ∷ []) e
      go true lt h = said (n ∷ []) (event.Turn (record { 0 = n })) (let small = ltb-true n 4294967296 lt in omega arith) is refl h
      go false lt h = nothing (n ∷ []) h

  at_cut : (n : ℕ) → codes "cut" ≡ word → cut_in n ≡ Some e → Says nodes parts word (n ∷ []) e
  at_cut n is = either (nat_lt 0 n && nat_lt n 2097153) _ _ (Some e)
      (λ lt. let both = and_parts (nat_lt 0 n) (nat_lt n 2097153) lt in
      said (n ∷ []) (event.Cut (Some n)) (ltb-true 0 n both.0, (let small = ltb-true n 2097153 both.1 in omega arith)) is refl) (nothing (n ∷ []))

  single_says : (n : ℕ) → single nodes parts word n ≡ Some e → Says nodes parts word (n ∷ []) e
  single_says n =
      either (bytes_eq word (codes "report")) _ _ (Some e) (λ w. at_part n (λ p. event.Report p) (λ lt. lt) (same_text word _ w) refl)
      (either (bytes_eq word (codes "raise")) _ _ (Some e) (λ w. at_node n (λ i. event.Raise i) (λ lt. lt) (same_text word _ w) refl)
      (either (bytes_eq word (codes "commit")) _ _ (Some e) (λ w. at_part n (λ p. event.Commit p) (λ lt. lt) (same_text word _ w) refl)
      (either (bytes_eq word (codes "turn")) _ _ (Some e) (λ w. at_user n (same_text word _ w))
      (either (bytes_eq word (codes "cut")) _ _ (Some e) (λ w. at_cut n (same_text word _ w))
      (either (bytes_eq word (codes "crash")) _ _ (Some e) (λ w. at_node n (λ i. event.Crash i) (λ lt. lt) (same_text word _ w) refl)
      (either (bytes_eq word (codes "restart")) _ _ (Some e) (λ w. at_node n (λ i. event.Restart i) (λ lt. lt) (same_text word _ w) refl)
      (nothing (n ∷ []))))))))

  stamped_says : (i n : ℕ) → stamped nodes word i n ≡ Some e → Says nodes parts word (i ∷ n ∷ []) e
  stamped_says i n = either (bytes_eq word (codes "stamp") && nat_lt i nodes && nat_lt 0 n && nat_lt n 17) _ _ (Some e)
      (λ t. let a = and_parts _ (nat_lt n 17) t in
      let b = and_parts _ (nat_lt 0 n) a.0 in
      let c = and_parts (bytes_eq word (codes "stamp")) (nat_lt i nodes) b.0 in
      said (i ∷ n ∷ []) (event.Stamp (record { 0 = i }) n) (ltb-true i nodes c.1, ltb-true 0 n b.1, (let small = ltb-true n 17 a.1 in omega arith)) (same_text word _ c.0) refl)
      (nothing (i ∷ n ∷ []))

  delivered_says : (p i c to : ℕ) → delivered nodes parts word p i c to ≡ Some e → Says nodes parts word (p ∷ i ∷ c ∷ to ∷ []) e
  delivered_says p i c to = either (bytes_eq word (codes "deliver") && nat_lt p parts && nat_lt i nodes && nat_lt c 65536 && nat_lt to 2097153) _ _ (Some e)
      (λ t. let a = and_parts _ (nat_lt to 2097153) t in
      let b = and_parts _ (nat_lt c 65536) a.0 in
      let d = and_parts _ (nat_lt i nodes) b.0 in
      let f = and_parts (bytes_eq word (codes "deliver")) (nat_lt p parts) d.0 in
      said (p ∷ i ∷ c ∷ to ∷ []) (event.Deliver (record { 0 = p }) (record { 0 = i }) (record { 0 = c }) to)
      (ltb-true p parts f.1, ltb-true i nodes d.1, (let small = ltb-true c 65536 b.1 in omega arith), (let small = ltb-true to 2097153 a.1 in omega arith))
      (same_text word _ f.0) refl)
      (nothing (p ∷ i ∷ c ∷ to ∷ []))

  in_says : (ns : List ℕ) → event_in nodes parts word ns ≡ Some e → Says nodes parts word ns e
  in_says [] = bare_says
  in_says (n ∷ []) = single_says n
  in_says (i ∷ n ∷ []) = stamped_says i n
  in_says (a ∷ b ∷ c ∷ []) = nothing (a ∷ b ∷ c ∷ [])
  in_says (p ∷ i ∷ c ∷ to ∷ []) = delivered_says p i c to
  in_says (a ∷ b ∷ c ∷ d ∷ f ∷ more) = nothing (a ∷ b ∷ c ∷ d ∷ f ∷ more)

-- what is read of a line is an event in range, whose text it is
pub read_says : (nodes parts : ℕ) (line : Text) (e : Event) → event_read nodes parts line ≡ Some e → IsInRange nodes parts e × (event_text e ≡ line)
read_says nodes parts line e is = go (spaced line) (join_with_byte-slice_split 32 line) is
  where
    with_numbers : (w : Text) (ws : List Text) (o : Option (List ℕ)) → read_all ws ≡ o → join_with_byte 32 (w ∷ ws) ≡ line
        → option_and_then (event_in nodes parts w) o ≡ Some e → IsInRange nodes parts e × (event_text e ≡ line)
    with_numbers w ws None a joined h = absurd (none≢some e h)
    with_numbers w ws (Some ns) a joined h =
        let says = in_says nodes parts w e ns h in (
          says.range,
          ap (λ x. join_with_byte 32 (x ∷ map decimal (numbers_of e))) says.word_is
              ∙ ap (λ xs. join_with_byte 32 (w ∷ map decimal xs)) says.numbers_are
              ∙ ap (λ xs. join_with_byte 32 (w ∷ xs)) (all_written ws ns a) ∙ joined,
        )

    go : (ws : List Text) → join_with_byte 32 ws ≡ line → event_of_words nodes parts ws ≡ Some e → IsInRange nodes parts e × (event_text e ≡ line)
    go [] joined h = absurd (none≢some e h)
    go (w ∷ ws) joined h = with_numbers w ws (read_all ws) refl joined h

word_plain : (e : Event) → HasNoSpace (word_of e)
word_plain (event.Stamp i n) = plain (codes "stamp") refl
word_plain (event.Deliver p i c to) = plain (codes "deliver") refl
word_plain (event.Report p) = plain (codes "report") refl
word_plain (event.Raise i) = plain (codes "raise") refl
word_plain (event.Cut n) = plain (codes "cut") refl
word_plain (event.Commit p) = plain (codes "commit") refl
word_plain event.Begin = plain (codes "begin") refl
word_plain (event.Turn u) = plain (codes "turn") refl
word_plain event.Mine = plain (codes "mine") refl
word_plain (event.Crash i) = plain (codes "crash") refl
word_plain (event.Restart i) = plain (codes "restart") refl

module _ (nodes parts : ℕ) (few_nodes : nodes < 65536) (few_parts : parts < 65536) where
  are_small : (e : Event) → IsInRange nodes parts e → AreSmall (numbers_of e)
  are_small (event.Stamp i n) r = let a = r.0 in let b = r.2 in (omega arith, (omega arith, tt))
  are_small (event.Deliver p i c to) r =
      let a = r.0 in let b = r.1 in let d = r.2 in let f = r.3 in (omega arith, (omega arith, (omega arith, (omega arith, tt))))
  are_small (event.Report p) r = (omega arith, tt)
  are_small (event.Raise i) r = (omega arith, tt)
  are_small (event.Cut None) r = tt
  are_small (event.Cut (Some n)) r = let a = r.1 in (omega arith, tt)
  are_small (event.Commit p) r = (omega arith, tt)
  are_small event.Begin r = tt
  are_small (event.Turn u) r = (omega arith, tt)
  are_small event.Mine r = tt
  are_small (event.Crash i) r = (omega arith, tt)
  are_small (event.Restart i) r = (omega arith, tt)

  within : (e : Event) → IsInRange nodes parts e → event_in nodes parts (word_of e) (numbers_of e) ≡ Some e
  within (event.Stamp i n) r = rw (lt-ltb i.0 nodes r.0, lt-ltb 0 n r.1, lt-ltb n 17 (let a = r.2 in omega arith)) refl
  within (event.Deliver p i c to) r =
      rw (lt-ltb p.0 parts r.0, lt-ltb i.0 nodes r.1, lt-ltb c.0 65536 (let a = r.2 in omega arith), lt-ltb to 2097153 (let a = r.3 in omega arith)) refl
  within (event.Report p) r = rw (lt-ltb p.0 parts r) refl
  within (event.Raise i) r = rw (lt-ltb i.0 nodes r) refl
  within (event.Cut None) r = refl
  within (event.Cut (Some n)) r = rw (lt-ltb 0 n r.0, lt-ltb n 2097153 (let a = r.1 in omega arith)) refl
  within (event.Commit p) r = rw (lt-ltb p.0 parts r) refl
  within event.Begin r = refl
  within (event.Turn u) r = rw (lt-ltb u.0 4294967296 (omega arith)) refl
  within event.Mine r = refl
  within (event.Crash i) r = rw (lt-ltb i.0 nodes r) refl
  within (event.Restart i) r = rw (lt-ltb i.0 nodes r) refl

  -- the text of an event in range is read as that event
  pub read_back : (e : Event) → IsInRange nodes parts e → event_read nodes parts (event_text e) ≡ Some e
  read_back e r =
      let small = are_small e r in
      ap (event_of_words nodes parts) (split_joined (word_of e) (map decimal (numbers_of e)) (word_plain e) (all_plain (numbers_of e) small))
      ∙ ap (option_and_then (event_in nodes parts (word_of e))) (read_written (numbers_of e) small) ∙ within e r

  -- no two events in range have one text
  pub one_text : (a b : Event) → IsInRange nodes parts a → IsInRange nodes parts b → event_text a ≡ event_text b → a ≡ b
  one_text a b ra rb same = some_is a b (sym (read_back a ra) ∙ ap (event_read nodes parts) same ∙ read_back b rb)
