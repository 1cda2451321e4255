-- What clap makes of words, item by item.
use Rattle.std.proofs.Common.{◌≡◌, ◌∙◌, ◌&&◌, ◌||◌, cond, codes, ℕ, List, [], ◌∷◌, ◌++◌, map, Bool, true, false, refl, sym, ap, ap₂, Option, Some, None}
use Rattle.std.specs.Prelude.{find, fold, ◌==◌}
use Rattle.std.specs.Option.{option_map_or}
use Rattle.std.specs.Str.{bytes_eq}
use Rattle.std.proofs.lemmas.Bool.{true≢false}
use Rattle.std.proofs.lemmas.List.{append-nil}
use Rattle.std.proofs.lemmas.Slice.Eq.{bytes_eq-Decides}
use Rattle.clap.specs.Lexer.{long_of, short_of}
use Rattle.clap.specs.Kinds.{Kinds, or_else}
use Rattle.clap.specs.Walk.{Rule, Row, Held, Walk, Waiting, idle, option, positional, has_row, arg_by_long, arg_by_id, arg_by_index, walked, settled, used, reacted, reading_by, at_row, with_values, more_values, subcommand_met, used_by_id}
use Rattle.clap.specs.Simple.{Shape, new_shape, filled}
use Rattle.clap.specs.Faults.{turn_fault, walk_fault, settle_fault, use_fault, repeat_fault, react_fault}
use Rattle.clap.specs.declared.parser.matches.ValueSource.TheVariants.{CommandLine}
use Rattle.clap.specs.declared.error.kind.ErrorKind.TheVariants as kind
use Rattle.kin_words.specs.Rules.{option_rule, flag_rule}
use Rattle.kin_words.specs.Items.{Text, Item, flag, spaced, joined, has, is_taken, is_value}

-- ---- the rules of a command's options and flags

abbrev pub full_option : Text → Rule
full_option name = filled (option_rule name)

abbrev pub full_flag : Text → Rule
full_flag name = filled (flag_rule name)

abbrev pub rules_for : List Text → List Text → List Rule
rules_for os fs = map full_option os ++ map full_flag fs

abbrev pub shape_for : Text → List Text → List Text → Shape
shape_for name os fs = record (new_shape name) {
  rules = rules_for os fs;
  no_binary_name = true;
  disable_help_flag = true;
  disable_help_subcommand = true;
  is_built = true;
}

-- the rule of a name
abbrev pub rule_named : List Text → List Text → Text → Option Rule
rule_named os fs name = cond (has name os) (Some (full_option name)) (cond (has name fs) (Some (full_flag name)) None)

module _ (f : Text → Rule) (p : Rule → Bool) (name : Text) (is : (n : Text) → p (f n) ≡ bytes_eq n name) where
  find_named : (xs : List Text) (rest : List Rule) → find p (map f xs ++ rest) ≡ cond (has name xs) (Some (f name)) (find p rest)
  find_named [] rest = refl
  find_named (x ∷ xs) rest = go (p (f x)) (bytes_eq x name) refl (is x) (find_named xs rest)
    where
      go : (b c : Bool) → bytes_eq x name ≡ c → b ≡ bytes_eq x name → find p (map f xs ++ rest) ≡ cond (has name xs) (Some (f name)) (find p rest)
          → cond b (Some (f x)) (find p (map f xs ++ rest)) ≡ cond (c || has name xs) (Some (f name)) (find p rest)
      go b true c-is b-is more = rw (b-is, c-is) (ap (λ n. Some (f n)) ((bytes_eq-Decides x name).0 c-is))
      go b false c-is b-is more = rw (b-is, c-is) more

or-false : (b : Bool) → (b || false) ≡ b
or-false true = refl
or-false false = refl

pub by_long : (os fs : List Text) (name : Text) → arg_by_long (rules_for os fs) name ≡ rule_named os fs name
by_long os fs name =
    find_named full_option _ name (λ n. or-false (bytes_eq n name)) os (map full_flag fs)
    ∙ ap (cond (has name os) (Some (full_option name)))
    (ap (find _) (sym (append-nil (map full_flag fs))) ∙ find_named full_flag _ name (λ n. or-false (bytes_eq n name)) fs [])

pub by_id : (os fs : List Text) (name : Text) → arg_by_id (rules_for os fs) name ≡ rule_named os fs name
by_id os fs name =
    find_named full_option _ name (λ n. refl) os (map full_flag fs)
    ∙ ap (cond (has name os) (Some (full_option name)))
    (ap (find _) (sym (append-nil (map full_flag fs))) ∙ find_named full_flag _ name (λ n. refl) fs [])

-- ---- rows

abbrev pub row_for : Rule → List Text → Row
row_for a values = record { id = a.id; values = values; count = None; source = Some CommandLine; reading = reading_by a }

abbrev pub row_of : Item → Row
row_of (flag name) = row_for (full_flag name) (codes "true" ∷ [])
row_of (spaced name value) = row_for (full_option name) (value ∷ [])
row_of (joined name value) = row_for (full_option name) (value ∷ [])

pub taken_row : (name : Text) (items : List Item) → has_row name (map row_of items) ≡ is_taken name items
taken_row name [] = refl
taken_row name (flag n ∷ items) = ap (λ b. bytes_eq n name || b) (taken_row name items)
taken_row name (spaced n v ∷ items) = ap (λ b. bytes_eq n name || b) (taken_row name items)
taken_row name (joined n v ∷ items) = ap (λ b. bytes_eq n name || b) (taken_row name items)

pub row_added : (id : Text) (change : Row → List Row) (missing : List Row) (rows : List Row) → has_row id rows ≡ false → at_row id change missing rows ≡ rows ++ missing
row_added id change missing [] none = refl
row_added id change missing (r ∷ rs) none = go (bytes_eq r.id id) none (row_added id change missing rs)
  where
    go : (b : Bool) → (b || has_row id rs) ≡ false → (has_row id rs ≡ false → at_row id change missing rs ≡ rs ++ missing)
        → cond b (change r ++ rs) (r ∷ at_row id change missing rs) ≡ r ∷ (rs ++ missing)
    go true h more = absurd (true≢false h)
    go false h more = ap (λ t. r ∷ t) (more h)

-- an option, or a flag, that no row has
module _ (name : Text) (rows : List Row) (none : has_row name rows ≡ false) where
  same_rows : at_row name (λ _. []) [] rows ≡ rows
  same_rows = row_added name (λ _. []) [] rows none ∙ append-nil rows

  pub option_used : (value : Text) → used (full_option name) (value ∷ []) rows ≡ rows ++ row_for (full_option name) (value ∷ []) ∷ []
  option_used value =
      ap (with_values name (reading_by (full_option name)) CommandLine (value ∷ [])) same_rows
      ∙ row_added name (more_values CommandLine (value ∷ [])) (row_for (full_option name) (value ∷ []) ∷ []) rows none

  pub flag_used : used (full_flag name) [] rows ≡ rows ++ row_for (full_flag name) (codes "true" ∷ []) ∷ []
  flag_used =
      ap (with_values name (reading_by (full_flag name)) CommandLine (codes "true" ∷ [])) same_rows
      ∙ row_added name (more_values CommandLine (codes "true" ∷ [])) (row_for (full_flag name) (codes "true" ∷ []) ∷ []) rows none

-- ---- faults

pub is_clear : Kinds → Bool
is_clear [] = true
is_clear (k ∷ ks) = false

pub faulty : {X : Type 0} (k : _) (ks : Kinds) → k ∷ ks ≡ [] → X
unfolding is_clear
faulty k ks e = absurd (true≢false (sym (ap is_clear e)))

pub both_clear : (a b : Kinds) → or_else a b ≡ [] → (a ≡ []) × (b ≡ [])
both_clear [] b e = (refl, e)
both_clear (k ∷ ks) b e = faulty k ks e

pub or_else_assoc : (a b c : Kinds) → or_else (or_else a b) c ≡ or_else a (or_else b c)
or_else_assoc [] b c = refl
or_else_assoc (k ∷ ks) b c = refl

pub or_else-nil : (a : Kinds) → or_else a [] ≡ a
or_else-nil [] = refl
or_else-nil (k ∷ ks) = refl

-- the fault of a name that was taken
abbrev pub again : Bool → Kinds
again taken = cond taken (kind.ArgumentConflict ∷ []) []

and-true : (b : Bool) → (b && true) ≡ b
and-true true = refl
and-true false = refl

pub option_use : (name value : Text) (rows : List Row) → use_fault false (full_option name) (value ∷ []) rows ≡ again (has_row name rows)
option_use name value rows = or_else-nil (repeat_fault false name rows) ∙ ap again (and-true (has_row name rows))

pub flag_use : (name : Text) (rows : List Row) → use_fault false (full_flag name) [] rows ≡ again (has_row name rows)
flag_use name rows = or_else-nil (repeat_fault false name rows) ∙ ap again (and-true (has_row name rows))

-- ---- the rule that a name has

module _ (os fs : List Text) (name : Text) where
  pub named_option : has name os ≡ true → rule_named os fs name ≡ Some (full_option name)
  named_option h = ap (λ b. cond b (Some (full_option name)) (cond (has name fs) (Some (full_flag name)) None)) h

  pub named_flag : has name os ≡ false → has name fs ≡ true → rule_named os fs name ≡ Some (full_flag name)
  named_flag h k = ap₂ (λ b c. cond b (Some (full_option name)) (cond c (Some (full_flag name)) None)) h k

  pub named_none : has name os ≡ false → has name fs ≡ false → rule_named os fs name ≡ None
  named_none h k = ap₂ (λ b c. cond b (Some (full_option name)) (cond c (Some (full_flag name)) None)) h k

-- ---- single words

-- what stands after `=`, if that is there, is a value
abbrev pub has_fine : Option Text → Bool
has_fine None = true
has_fine (Some v) = is_value v

pub record IsLong (w name : Text) (v : Option Text) : Type 0 where
  pub other : bytes_eq w (45 ∷ 45 ∷ []) ≡ false
  pub long : long_of w ≡ Some (name, v)
  pub fine : has_fine v ≡ true

pub record IsPlain (w : Text) : Type 0 where
  pub other : bytes_eq w (45 ∷ 45 ∷ []) ≡ false
  pub long : long_of w ≡ None
  pub short : short_of w ≡ None
  pub fine : is_value w ≡ true

no_subcommand : (wt : Waiting) (w : Text) → subcommand_met [] wt w ≡ None
no_subcommand idle w = refl
no_subcommand (option id) w = refl
no_subcommand positional w = refl

module _ (app : Text) (os fs : List Text) where
  abbrev pub at : Held → Waiting → Walk
  at h wt = record { held = h; waiting = wt; position = 1; is_trailing = false; stopped = None }

  -- a word's fault, and where the walk stands after it
  pub record Steps (h : Held) (wt : Waiting) (w : Text) (fault : Kinds) (after : Held) (next : Waiting) : Type 0 where
    pub fault_is : turn_fault (shape_for app os fs) [] (at h wt) w ≡ fault
    pub walks : walked (rules_for os fs) [] (at h wt) w ≡ at after next

  module _ (h : Held) (wt : Waiting) (w name : Text) where
    pub joined_step : (v : Text) → IsLong w name (Some v) → has name os ≡ true
        → Steps h wt w (react_fault (rules_for os fs) false (full_option name) (v ∷ []) h) (reacted (rules_for os fs) (full_option name) (v ∷ []) h) idle
    unfolding walked
    joined_step v l o =
        let rule = by_long os fs name ∙ named_option os fs name o in
        record {
          fault_is = rw (no_subcommand wt w, l.other, l.long, rule) (or_else-nil _);
          walks = rw (no_subcommand wt w, l.other, l.long, rule) refl;
        }

    pub spaced_step : IsLong w name None → has name os ≡ true
        → Steps h wt w (settle_fault (rules_for os fs) false h) (record { rows = (settled (rules_for os fs) h).rows; pending = Some (name, []); skip = h.skip }) (option name)
    unfolding walked
    spaced_step l o =
        let rule = by_long os fs name ∙ named_option os fs name o in
        record {
          fault_is = rw (no_subcommand wt w, l.other, l.long, rule) (or_else-nil _);
          walks = rw (no_subcommand wt w, l.other, l.long, rule) refl;
        }

    pub flag_step : IsLong w name None → has name os ≡ false → has name fs ≡ true
        → Steps h wt w (react_fault (rules_for os fs) false (full_flag name) [] h) (reacted (rules_for os fs) (full_flag name) [] h) idle
    unfolding walked
    flag_step l o f =
        let rule = by_long os fs name ∙ named_flag os fs name o f in
        record {
          fault_is = rw (no_subcommand wt w, l.other, l.long, rule) (or_else-nil _);
          walks = rw (no_subcommand wt w, l.other, l.long, rule) refl;
        }

    -- a flag with a value, and a name that is none
    pub valued_flag : (v : Text) → IsLong w name (Some v) → has name os ≡ false → has name fs ≡ true
        → turn_fault (shape_for app os fs) [] (at h wt) w ≡ kind.TooManyValues ∷ []
    valued_flag v l o f =
        let rule = by_long os fs name ∙ named_flag os fs name o f in
        rw (no_subcommand wt w, l.other, l.long, rule) refl

    pub unknown : (v : Option Text) → IsLong w name v → has name os ≡ false → has name fs ≡ false
        → turn_fault (shape_for app os fs) [] (at h wt) w ≡ kind.UnknownArgument ∷ []
    unknown v l o f =
        let rule = by_long os fs name ∙ named_none os fs name o f in
        rw (no_subcommand wt w, l.other, l.long, rule) refl

  no_index : (i : ℕ) → arg_by_index (rules_for os fs) i ≡ None
  no_index i = go os
    where
      flags : (xs : List Text) → find (λ a. option_map_or (λ k. k == i) a.index false) (map full_flag xs) ≡ None
      flags [] = refl
      flags (x ∷ xs) = flags xs

      go : (xs : List Text) → find (λ a. option_map_or (λ k. k == i) a.index false) (map full_option xs ++ map full_flag fs) ≡ None
      go [] = flags fs
      go (x ∷ xs) = go xs

  -- a plain word where nothing waits for it
  pub stray : (h : Held) (w : Text) → IsPlain w → turn_fault (shape_for app os fs) [] (at h idle) w ≡ kind.UnknownArgument ∷ []
  stray h w l = rw (l.other, l.long, l.short, no_index 1) refl

  -- the value of an option
  pub value_step : (rows : List Row) (skip : ℕ) (w name : Text) → IsPlain w → has name os ≡ true
      → Steps (record { rows = rows; pending = Some (name, []); skip = skip }) (option name) w [] (record { rows = rows; pending = Some (name, w ∷ []); skip = skip }) idle
  unfolding walked
  value_step rows skip w name l o =
      let rule = by_id os fs name ∙ named_option os fs name o in
      let same : bytes_eq name name ≡ true = (bytes_eq-Decides name name).1 refl in
      record {
        fault_is = rw (l.other, l.long, l.short) refl;
        walks = rw (l.other, l.long, l.short, rule, same) refl;
      }

  -- ---- what is pending

  module _ (rows : List Row) (skip : ℕ) (name : Text) (o : has name os ≡ true) where
    pub wanting_fault : settle_fault (rules_for os fs) false (record { rows = rows; pending = Some (name, []); skip = skip }) ≡ kind.InvalidValue ∷ []
    wanting_fault = ap (λ r. option_map_or (λ a. use_fault false a [] rows) r []) (by_id os fs name ∙ named_option os fs name o)

    pub pending_fault : (v : Text) → settle_fault (rules_for os fs) false (record { rows = rows; pending = Some (name, v ∷ []); skip = skip }) ≡ again (has_row name rows)
    pending_fault v = ap (λ r. option_map_or (λ a. use_fault false a (v ∷ []) rows) r []) (by_id os fs name ∙ named_option os fs name o) ∙ option_use name v rows

    pub pending_rows : (v : Text) → has_row name rows ≡ false
        → (settled (rules_for os fs) (record { rows = rows; pending = Some (name, v ∷ []); skip = skip })).rows ≡ rows ++ row_for (full_option name) (v ∷ []) ∷ []
    pending_rows v none = ap (λ r. used_by_id r (v ∷ []) rows) (by_id os fs name ∙ named_option os fs name o) ∙ option_used name rows none v

  -- ---- whole lists of words

  unfoldable pub total : Held → Waiting → List Text → Kinds
  total h wt ws =
      or_else (walk_fault (shape_for app os fs) [] (at h wt) ws)
      (settle_fault (rules_for os fs) false (fold (walked (rules_for os fs) []) (at h wt) ws).held)

  pub one_step : (h : Held) (wt : Waiting) (w : Text) (fault : Kinds) (after : Held) (next : Waiting) → Steps h wt w fault after next → (ws : List Text)
      → total h wt (w ∷ ws) ≡ or_else fault (total after next ws)
  unfolding total walk_fault
  one_step h wt w fault after next s ws =
      ap₂ (λ f W. or_else (or_else f (walk_fault (shape_for app os fs) [] W ws)) (settle_fault (rules_for os fs) false (fold (walked (rules_for os fs) []) W ws).held)) s.fault_is s.walks
      ∙ or_else_assoc fault _ _

  -- a first word that fails
  pub fails_at_once : {X : Type 0} (h : Held) (wt : Waiting) (w : Text) (ws : List Text) (k : _) (ks : Kinds) → turn_fault (shape_for app os fs) [] (at h wt) w ≡ k ∷ ks → total h wt (w ∷ ws) ≡ [] → X
  unfolding total walk_fault
  fails_at_once h wt w ws k ks is clear =
      faulty k (or_else_rest ks) (sym (ap (λ f. or_else (or_else f (walk_fault (shape_for app os fs) [] (walked (rules_for os fs) [] (at h wt) w) ws))
      (settle_fault (rules_for os fs) false (fold (walked (rules_for os fs) []) (walked (rules_for os fs) [] (at h wt) w) ws).held)) is) ∙ clear)
    where
      or_else_rest : Kinds → Kinds
      or_else_rest ks = ks
