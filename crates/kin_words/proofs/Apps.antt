-- A command of options and flags: clap's faults and matches are those of the walk over its words.
use Rattle.std.proofs.Common.{◌≡◌, ◌∙◌, ◌&&◌, ◌||◌, not, cond, codes, ℕ, List, [], ◌∷◌, ◌++◌, map, Bool, true, false, refl, sym, ap, ap₂, subst, Some, None, Result, Ok, Err}
use Rattle.std.specs.Prelude.{◌≢◌, find, fold, option_and_then, slice_get}
use Rattle.std.specs.List.{list_all, list_any}
use Rattle.std.specs.Str.{bytes_eq}
use Rattle.std.proofs.lemmas.Bool.{true≢false, and_parts}
use Rattle.clap.specs.Kinds.{Kinds, or_else}
use Rattle.clap.specs.Walk.{Row, Rule, Held, idle, has_row, nothing_held, walked, settled, with_default, finished, rows_after, first_of, one_of, row_text, default_rows, reading_by, rows_of, more_values}
use Rattle.clap.specs.Matches.{found_of}
use Rattle.clap.specs.declared.parser.matches.ArgMatches.{ArgMatches}
use Rattle.clap.proofs.WalkLemmas.{first_value-rows, one_text-rows}
use Rattle.clap.specs.Simple.{App, built, filled_from, matches_of}
use Rattle.clap.specs.Faults.{fault_of, level_fault, settle_fault, walk_fault, defaults_fault, default_fault}
use Rattle.clap.specs.Takes.{is_given}
use Rattle.std.proofs.lemmas.Slice.Eq.{bytes_eq-Decides}
use Rattle.clap.specs.declared.parser.matches.ValueSource.TheVariants.{DefaultValue}
use Rattle.clap.specs.declared.error.kind.ErrorKind.TheVariants as kind
use Rattle.clap.proofs.FaultLemmas.{leaf_fault}
use Rattle.kin_words.specs.Items.{Text, Item, flag, spaced, joined, has, is_item, is_value, name_of, value_of, value_at, is_taken, Names, IsLine}
use Rattle.kin_words.specs.Formed.{is_formed}
use Rattle.kin_words.specs.Reads.{Parses, HasItems, Matches}
use Rattle.kin_words.specs.declared.faults.WordsFault.{WordsFault}
use Rattle.kin_words.specs.declared.faults.WordsFault.TheVariants as fault
use Rattle.kin_words.proofs.Spellings.{AreNames, of_all, written, formed_words, all_formed, all_fine, read_back}
use Rattle.kin_words.proofs.Readings.{end_of, items_found, items_pass, read, some_is}
use Rattle.kin_words.specs.Rules.{option_rule, flag_rule, app_for}
use Rattle.kin_words.proofs.Walks.{full_option, full_flag, rules_for, shape_for, at, row_of, taken_row, row_added, total, or_else-nil}

filled_flags : (i : ℕ) (xs : List Text) → filled_from i (map flag_rule xs) ≡ map full_flag xs
filled_flags i [] = refl
filled_flags i (x ∷ xs) = ap (λ rs. full_flag x ∷ rs) (filled_flags i xs)

filled_all : (i : ℕ) (os fs : List Text) → filled_from i (map option_rule os ++ map flag_rule fs) ≡ rules_for os fs
filled_all i [] fs = filled_flags i fs
filled_all i (x ∷ xs) fs = ap (λ rs. full_option x ∷ rs) (filled_all i xs fs)

different : (n name : Text) (xs : List Text) → has n xs ≡ true → has name xs ≡ false → bytes_eq n name ≡ false
different n name xs there absent = go (bytes_eq n name) refl
  where
    go : (b : Bool) → bytes_eq n name ≡ b → b ≡ false
    go false e = refl
    go true e = absurd (true≢false (sym there ∙ ap (λ t. has t xs) ((bytes_eq-Decides n name).0 e) ∙ absent))

-- the row of a flag that wasn't there
abbrev pub flag_row : Text → Row
flag_row x = record { id = x; values = codes "false" ∷ []; count = None; source = Some DefaultValue; reading = reading_by (full_flag x) }

-- nothing fails after the walk
no_default : (rows : List Row) (x : Text) → default_fault rows (full_option x) ≡ []
no_default rows x = go (has_row x rows) _
  where
    go : (b : Bool) (ks : Kinds) → cond (b || true) [] ks ≡ []
    go true ks = refl
    go false ks = refl

flag_default : (rows : List Row) (x : Text) → default_fault rows (full_flag x) ≡ []
flag_default rows x = go (has_row x rows)
  where
    go : (b : Bool) → cond {A = Kinds} (b || false) [] [] ≡ []
    go true = refl
    go false = refl

no_flag_faults : (fs : List Text) (rows : List Row) → defaults_fault rows (map full_flag fs) ≡ []
unfolding defaults_fault
no_flag_faults [] rows = refl
no_flag_faults (x ∷ xs) rows = ap₂ or_else (flag_default rows x) (no_flag_faults xs (with_default rows (full_flag x)))

no_faults : (os fs : List Text) (rows : List Row) → defaults_fault rows (rules_for os fs) ≡ []
unfolding defaults_fault
no_faults [] fs rows = no_flag_faults fs rows
no_faults (x ∷ xs) fs rows = ap₂ or_else (no_default rows x) (no_faults xs fs (with_default rows (full_option x)))

no_flag_wanted : (fs : List Text) (rows : List Row) → list_any (λ a. a.required && not (is_given a.id rows)) (map full_flag fs) ≡ false
no_flag_wanted [] rows = refl
no_flag_wanted (x ∷ xs) rows = no_flag_wanted xs rows

none_wanted : (os fs : List Text) (rows : List Row) → list_any (λ a. a.required && not (is_given a.id rows)) (rules_for os fs) ≡ false
none_wanted [] fs rows = no_flag_wanted fs rows
none_wanted (x ∷ xs) fs rows = none_wanted xs fs rows

-- the faults are those of the walk
pub fault_is : (name : Text) (os fs words : List Text) → fault_of (app_for name os fs) words ≡ total name os fs nothing_held idle words
unfolding total
fault_is name os fs words =
    leaf_fault (built (app_for name os fs)) nothing_held words refl
    ∙ ap (λ rs. level_fault (record (shape_for name os fs) { rules = rs }) [] nothing_held words false []) (filled_all 1 os fs)
    ∙ ap (or_else (walk_fault (shape_for name os fs) [] (at name os fs nothing_held idle) words))
    (ap (or_else (settle_fault (rules_for os fs) false end))
    (ap₂ or_else (no_faults os fs (settled (rules_for os fs) end).rows)
    (ap (λ b. cond b (kind.MissingRequiredArgument ∷ []) []) (none_wanted os fs (finished (rules_for os fs) end))))
    ∙ or_else-nil (settle_fault (rules_for os fs) false end))
  where
    end : Held
    end = (fold (walked (rules_for os fs) []) (at name os fs nothing_held idle) words).held

options_kept : (os : List Text) (rest : List Rule) (rows : List Row) → fold with_default rows (map full_option os ++ rest) ≡ fold with_default rows rest
options_kept [] rest rows = refl
options_kept (x ∷ xs) rest rows = ap (λ rs. fold with_default rs (map full_option xs ++ rest)) (same (has_row x rows)) ∙ options_kept xs rest rows
  where
    same : (b : Bool) → cond b rows rows ≡ rows
    same true = refl
    same false = refl

-- the matches are the rows of the walk, and of the flags that weren't there
pub matches_are : (name : Text) (os fs words : List Text)
    → matches_of (app_for name os fs) words ≡ fold with_default (settled (rules_for os fs) (end_of name os fs nothing_held idle words)).rows (map full_flag fs)
matches_are name os fs words =
    ap (λ rs. rows_after rs [] words) (filled_all 1 os fs)
    ∙ options_kept os (map full_flag fs) (settled (rules_for os fs) (end_of name os fs nothing_held idle words)).rows

-- ---- values in rows

find_before : (p : Row → Bool) (r : Row) → p r ≡ false → (rows : List Row) → find p (rows ++ r ∷ []) ≡ find p rows
find_before p r other [] = ap (λ b. cond b (Some r) None) other
find_before p r other (x ∷ xs) = ap (cond (p x) (Some x)) (find_before p r other xs)

first_kept : (name : Text) (fs : List Text) (rows : List Row) → has name fs ≡ false → first_of name (fold with_default rows (map full_flag fs)) ≡ first_of name rows
first_kept name [] rows absent = refl
first_kept name (x ∷ xs) rows absent = go (bytes_eq x name) refl absent (first_kept name xs (with_default rows (full_flag x)))
  where
    one : (b : Bool) → has_row x rows ≡ b → bytes_eq x name ≡ false → first_of name (with_default rows (full_flag x)) ≡ first_of name rows
    one true here e = ap (λ b. first_of name (cond b rows (default_rows x (reading_by (full_flag x)) (codes "false" ∷ []) rows))) here
    one false here e =
        ap (λ b. first_of name (cond b rows (default_rows x (reading_by (full_flag x)) (codes "false" ∷ []) rows))) here
        ∙ ap (first_of name) (row_added x (more_values DefaultValue (codes "false" ∷ [])) (flag_row x ∷ []) rows here)
        ∙ ap (option_and_then (λ r. slice_get r.values 0)) (find_before (λ r. bytes_eq r.id name) (flag_row x) e rows)

    go : (c : Bool) → bytes_eq x name ≡ c → (c || has name xs) ≡ false
        → (has name xs ≡ false → first_of name (fold with_default (with_default rows (full_flag x)) (map full_flag xs)) ≡ first_of name (with_default rows (full_flag x)))
        → first_of name (fold with_default rows (map full_flag (x ∷ xs))) ≡ first_of name rows
    go true e h more = absurd (true≢false h)
    go false e h more = more h ∙ one (has_row x rows) refl e

value_kept : (name : Text) (os fs : List Text) → has name fs ≡ false → (items : List Item) → list_all (is_item (record { options = os; flags = fs })) items ≡ true
    → first_of name (map row_of items) ≡ value_at name items
value_kept name os fs absent [] known = refl
value_kept name os fs absent (flag n ∷ items) known =
    let k = and_parts (has n fs) (list_all (is_item (record { options = os; flags = fs })) items) known in
    let other = different n name fs k.0 absent in
    rw other (value_kept name os fs absent items k.1)
value_kept name os fs absent (spaced n v ∷ items) known = go (bytes_eq n name) (value_kept name os fs absent items (and_parts (has n os && is_value v) _ known).1)
  where
    go : (b : Bool) → first_of name (map row_of items) ≡ value_at name items
        → option_and_then (λ r. slice_get r.values 0) (cond b (Some (row_of (spaced n v))) (find (λ r. bytes_eq r.id name) (map row_of items)))
        ≡ option_and_then value_of (cond b (Some (spaced n v)) (find (λ item. bytes_eq (name_of item) name) items))
    go true more = refl
    go false more = more
value_kept name os fs absent (joined n v ∷ items) known = go (bytes_eq n name) (value_kept name os fs absent items (and_parts (has n os && is_value v) _ known).1)
  where
    go : (b : Bool) → first_of name (map row_of items) ≡ value_at name items
        → option_and_then (λ r. slice_get r.values 0) (cond b (Some (row_of (joined n v))) (find (λ r. bytes_eq r.id name) (map row_of items)))
        ≡ option_and_then value_of (cond b (Some (joined n v)) (find (λ item. bytes_eq (name_of item) name) items))
    go true more = refl
    go false more = more

-- ---- flags

find_last : (x : Text) (rows : List Row) → has_row x rows ≡ false → find (λ r. bytes_eq r.id x) (rows ++ flag_row x ∷ []) ≡ Some (flag_row x)
find_last x [] none = ap (λ b. cond b (Some (flag_row x)) None) ((bytes_eq-Decides x x).1 refl)
find_last x (r ∷ rs) none = go (bytes_eq r.id x) none (find_last x rs)
  where
    go : (b : Bool) → (b || has_row x rs) ≡ false → (has_row x rs ≡ false → find (λ r. bytes_eq r.id x) (rs ++ flag_row x ∷ []) ≡ Some (flag_row x))
        → cond b (Some r) (find (λ r. bytes_eq r.id x) (rs ++ flag_row x ∷ [])) ≡ Some (flag_row x)
    go true h more = absurd (true≢false h)
    go false h more = more h

flag_there : (x : Text) (os fs : List Text) → has x os ≡ false → (items : List Item) → list_all (is_item (record { options = os; flags = fs })) items ≡ true → is_taken x items ≡ true
    → one_of x (map row_of items) ≡ Some (codes "true")
flag_there x os fs absent [] known taken = absurd (true≢false (sym taken))
flag_there x os fs absent (flag n ∷ items) known taken =
    go (bytes_eq n x) taken (flag_there x os fs absent items (and_parts (has n fs) _ known).1)
  where
    go : (b : Bool) → (b || is_taken x items) ≡ true → (is_taken x items ≡ true → one_of x (map row_of items) ≡ Some (codes "true"))
        → option_and_then row_text (cond b (Some (row_of (flag n))) (find (λ r. bytes_eq r.id x) (map row_of items))) ≡ Some (codes "true")
    go true h more = refl
    go false h more = more h
flag_there x os fs absent (spaced n v ∷ items) known taken =
    let k = and_parts (has n os && is_value v) _ known in
    let other = different n x os (and_parts (has n os) (is_value v) k.0).0 absent in
    rw other (flag_there x os fs absent items k.1 (sym (ap (λ b. b || is_taken x items) other) ∙ taken))
flag_there x os fs absent (joined n v ∷ items) known taken =
    let k = and_parts (has n os && is_value v) _ known in
    let other = different n x os (and_parts (has n os) (is_value v) k.0).0 absent in
    rw other (flag_there x os fs absent items k.1 (sym (ap (λ b. b || is_taken x items) other) ∙ taken))

-- one flag
pub flag_kept : (x : Text) (os : List Text) → has x os ≡ false → (items : List Item) → list_all (is_item (record { options = os; flags = x ∷ [] })) items ≡ true
    → one_of x (fold with_default (map row_of items) (map full_flag (x ∷ []))) ≡ Some (cond (is_taken x items) (codes "true") (codes "false"))
flag_kept x os absent items known = go (is_taken x items) refl
  where
    go : (b : Bool) → is_taken x items ≡ b → one_of x (with_default (map row_of items) (full_flag x)) ≡ Some (cond (is_taken x items) (codes "true") (codes "false"))
    go true e = rw (taken_row x items, e) (flag_there x os (x ∷ []) absent items known e)
    go false e =
        let none : has_row x (map row_of items) ≡ false = taken_row x items ∙ e in
        rw (taken_row x items, e)
        (ap (one_of x) (row_added x (more_values DefaultValue (codes "false" ∷ [])) (flag_row x ∷ []) (map row_of items) none) ∙ ap (option_and_then row_text) (find_last x (map row_of items) none))

-- ---- what a parse tells

-- what the matches of a command without flags, or with one, tell of it
abbrev FlagsTold : List Text → List Text → Type 0
FlagsTold os fs = (items : List Item) → list_all (is_item (record { options = os; flags = fs })) items ≡ true → (n : Text) → has n fs ≡ true
    → one_of n (fold with_default (map row_of items) (map full_flag fs)) ≡ Some (cond (is_taken n items) (codes "true") (codes "false"))

pub no_flag : (os : List Text) → FlagsTold os []
no_flag os items known n there = absurd (true≢false (sym there))

pub one_flag : (x : Text) (os : List Text) → has x os ≡ false → FlagsTold os (x ∷ [])
one_flag x os absent items known n there = go (bytes_eq x n) refl there
  where
    go : (b : Bool) → bytes_eq x n ≡ b → (b || false) ≡ true → one_of n (fold with_default (map row_of items) (map full_flag (x ∷ []))) ≡ Some (cond (is_taken n items) (codes "true") (codes "false"))
    go true e h =
        subst (λ t. one_of t (fold with_default (map row_of items) (map full_flag (x ∷ []))) ≡ Some (cond (is_taken t items) (codes "true") (codes "false")))
        ((bytes_eq-Decides x n).0 e) (flag_kept x os absent items known)
    go false e h = absurd (true≢false (sym h))

module _ (name : Text) (os fs : List Text) (names : AreNames os fs) (flags : FlagsTold os fs) (words : List Text) where
  abbrev c : Names
  c = record { options = os; flags = fs }

  not_flag : (n : Text) → has n os ≡ true → has n fs ≡ false
  not_flag n o = go (has n fs) refl
    where
      go : (b : Bool) → has n fs ≡ b → has n fs ≡ false
      go false e = e
      go true e = absurd (true≢false (sym (of_all (λ n. not (has n os)) n fs names.apart e) ∙ ap not o))

  items_of : (m : ArgMatches) → list_all is_formed words ≡ true → fault_of (app_for name os fs) words ≡ [] → rows_of (found_of m) ≡ matches_of (app_for name os fs) words → HasItems c words m
  items_of m formed clear rows =
      let found = items_found name os fs words (formed_words words formed) None nothing_held [] refl (sym (fault_is name os fs words) ∙ clear) in
      let rows_are = rows ∙ matches_are name os fs words ∙ ap (λ rs. fold with_default rs (map full_flag fs)) found.rows in
      record {
        items = found.items;
        line = record { written = written os fs words (formed_words words formed) None found.items found.is; known = found.known; once = found.new };
        values = λ n o. first_value-rows (found_of m) n ∙ ap (first_of n) rows_are ∙ first_kept n fs (map row_of found.items) (not_flag n o)
            ∙ value_kept n os fs (not_flag n o) found.items found.known;
        flags = λ n f. one_text-rows (found_of m) n ∙ ap (one_of n) rows_are ∙ flags found.items found.known n f;
      }

  read_line : (items : List Item) → IsLine c words items → read os fs words None ≡ Some items
  read_line items line = subst (λ ws. read os fs ws None ≡ Some items) line.written (read_back os fs names items line.known)

  no_items : (list_all is_formed words ≡ true → fault_of (app_for name os fs) words ≢ []) → (items : List Item) → IsLine c words items → ⊥
  no_items fails items line =
      let formed = subst (λ ws. list_all is_formed ws ≡ true) line.written (all_formed os fs names items line.known) in
      fails formed (fault_is name os fs words
      ∙ items_pass name os fs words (formed_words words formed) None nothing_held [] refl refl items (read_line items line) (all_fine os fs names items line.known) line.once)

  -- the same words are of one list of items
  pub one_line : (a b : List Item) → IsLine c words a → IsLine c words b → a ≡ b
  one_line a b la lb = some_is a b (sym (read_line a la) ∙ read_line b lb)

  pub tells : (app : App) → app ≡ app_for name os fs → (r : Result ArgMatches WordsFault) → Parses app words r → Matches c words r
  tells app is (Ok m) h = items_of m h.0 (ap (λ a. fault_of a words) (sym is) ∙ h.1) (h.2 ∙ ap (λ a. matches_of a words) is)
  tells app is (Err fault.Usage) h = no_items (λ formed clear. h formed (ap (λ a. fault_of a words) is ∙ clear))
  tells app is (Err fault.Memory) h = tt
