-- The rows that were read are a front of all rows, and at the end all of them.
use Rattle.std.proofs.Common.{◌≡◌, ℕ, zero, suc, ◌+◌, ◌-◌, ◌<◌, ◌≤◌, ◌||◌, ◌==◌, Bool, true, false, List, [], ◌∷◌, ◌++◌, length, Option, Some, None, sym, ap, ◌∙◌, refl, subst, inl, inr, ◌⊎◌, arith, cond}
use Rattle.std.proofs.lemmas.List.{append-nil}
use Rattle.csv.specs.Machine.{Read, next_record, step, in_field, start_field, start_record, is_end, fields_after, field_after, ends_at_end}
use Rattle.csv.specs.Reading.{Reached, records_from, default_config}
use Rattle.csv.specs.declared.parser.Config.{Config}
use Rattle.csv.specs.declared.parser.State.{State}
use Rattle.csv.specs.declared.parser.State.TheVariants as st
use Rattle.csv.specs.declared.parser.Action.{Action}
use Rattle.csv.specs.declared.parser.Action.TheVariants as act

-- with enough turns, the rows that were reached and then the rows of the rest are the rows
pub rows_split : (cfg : Config) (n : ℕ) (s s2 : State) (xs ys : List ℕ) (rows : List (List (List ℕ))) → Reached cfg s xs rows s2 ys
    → records_from cfg (length rows + n) s xs ≡ rows ++ records_from cfg n s2 ys
unfolding Reached records_from
rows_split cfg n s s2 xs ys [] h = let e : 0 + n ≡ n = omega arith in rw (e, h.0, h.1) refl
rows_split cfg n s s2 xs ys (r ∷ rs) h =
    let e : suc (length rs) + n ≡ suc (length rs + n) = omega arith in
    rw (e, h.1, h.2) (ap (λ (t : List (List (List ℕ))). h.0.0 ∷ t) (rows_split cfg n h.0.1 s2 h.0.2 ys rs h.3))

-- at the end of the text there are no more rows
pub no_rows : (cfg : Config) (n : ℕ) (s : State) (xs : List ℕ) → next_record cfg s [] [] xs ≡ None → records_from cfg n s xs ≡ []
unfolding records_from
no_rows cfg zero s xs h = refl
no_rows cfg (suc n) s xs h = rw h refl

some_rest : (b : Bool) (p q : Read) → cond b (Some p) None ≡ Some q → (b ≡ true) × (p ≡ q)
some_rest true p q e = (refl, cc)
some_rest false p q e = cc

either_rest : (b : Bool) (p q : Read) (o : Option Read) → cond b (Some p) o ≡ Some q → ((b ≡ true) × (p ≡ q)) ⊎ ((b ≡ false) × (o ≡ Some q))
either_rest true p q o e = inl (refl, cc)
either_rest false p q o e = inr (refl, e)

-- a record leaves no more than there was
pub rest_fits : (cfg : Config) (s : State) (fields : List (List ℕ)) (field xs : List ℕ) (q : Read) → next_record cfg s fields field xs ≡ Some q → length q.2 ≤ length xs
unfolding next_record
rest_fits cfg s fields field [] q e = let h = some_rest _ _ q e in omega (arith, ap (λ (p : Read). length p.2) h.1)
rest_fits cfg s fields field (c ∷ rest) q e =
    elim (either_rest (is_end (step cfg s c).1) (fields_after (step cfg s c).1 fields field, (step cfg s c).0, rest) q _ e) [
      | inl h ↦ omega (arith, ap (λ (p : Read). length p.2) h.1)
      | inr h ↦ let k = rest_fits cfg (step cfg s c).0 (fields_after (step cfg s c).1 fields field) (field_after (step cfg s c).1 c field) rest q h.1 in omega arith
    ]

-- a record that begins takes a byte
pub takes_byte : (cfg : Config) (s : State) (xs : List ℕ) (q : Read) → ends_at_end s ≡ false → next_record cfg s [] [] xs ≡ Some q → length q.2 < length xs
unfolding next_record
takes_byte cfg s [] q start e = let h = some_rest _ _ q e in cc
takes_byte cfg s (c ∷ rest) q start e =
    elim (either_rest (is_end (step cfg s c).1) (fields_after (step cfg s c).1 [] [], (step cfg s c).0, rest) q _ e) [
      | inl h ↦ omega (arith, ap (λ (p : Read). length p.2) h.1)
      | inr h ↦ let k = rest_fits cfg _ _ _ rest q h.1 in omega arith
    ]

-- where an action ends a record, the next one begins
EndsWell : State × Action → Type 0
EndsWell p = is_end p.1 ≡ true → ends_at_end p.0 ≡ false

ends_field : (a b d : Bool) → EndsWell (cond a (st.StartField, act.EndField) (cond b (cond d st.AfterCr st.StartRecord, act.EndRecord) (st.InField, act.Copy)))
unfolding EndsWell
ends_field true b d e = cc
ends_field false true true e = refl
ends_field false true false e = refl
ends_field false false d e = cc

ends_if : (a : Bool) (p q : State × Action) → EndsWell p → EndsWell q → EndsWell (cond a p q)
ends_if true p q h k = h
ends_if false p q h k = k

skips : (s : State) → EndsWell (s, act.Skip)
unfolding EndsWell
skips s e = cc

copies : (s : State) → EndsWell (s, act.Copy)
unfolding EndsWell
copies s e = cc

in_ends : (c : ℕ) → EndsWell (in_field default_config c)
in_ends c = ends_field (c == 44) ((c == 13) || (c == 10)) (c == 13)

field_ends : (c : ℕ) → EndsWell (start_field default_config c)
field_ends c = ends_if _ _ _ (skips st.InQuoted) (in_ends c)

record_ends : (c : ℕ) → EndsWell (start_record default_config c)
record_ends c = ends_if _ _ _ (skips st.StartRecord) (field_ends c)

step_ends : (s : State) (c : ℕ) → EndsWell (step default_config s c)
step_ends st.StartRecord c = record_ends c
step_ends st.StartField c = field_ends c
step_ends st.InField c = in_ends c
step_ends st.InQuoted c = ends_if _ _ _ (skips st.AfterQuote) (copies st.InQuoted)
step_ends st.InEscape c = copies st.InQuoted
step_ends st.AfterQuote c = ends_if _ _ _ (copies st.InQuoted) (in_ends c)
step_ends st.InComment c = ends_if _ _ _ (skips st.StartRecord) (skips st.InComment)
step_ends st.AfterCr c = ends_if _ _ _ (skips st.StartRecord) (record_ends c)

-- after a record the next one begins
pub begins_next : (s : State) (fields : List (List ℕ)) (field xs : List ℕ) (q : Read) → next_record default_config s fields field xs ≡ Some q → ends_at_end q.1 ≡ false
unfolding next_record EndsWell
begins_next s fields field [] q e = let h = some_rest _ _ q e in ap (λ (p : Read). ends_at_end p.1) (sym h.1)
begins_next s fields field (c ∷ rest) q e =
    elim (either_rest (is_end (step default_config s c).1) (fields_after (step default_config s c).1 fields field, (step default_config s c).0, rest) q _ e) [
      | inl h ↦ ap (λ (p : Read). ends_at_end p.1) (sym h.1) ∙ step_ends s c h.0
      | inr h ↦ begins_next (step default_config s c).0 (fields_after (step default_config s c).1 fields field) (field_after (step default_config s c).1 c field) rest q h.1
    ]

-- no more rows than bytes
pub rows_fit : (s s2 : State) (xs ys : List ℕ) (rows : List (List (List ℕ))) → ends_at_end s ≡ false → Reached default_config s xs rows s2 ys → length rows + length ys ≤ length xs
unfolding Reached
rows_fit s s2 xs ys [] start h = omega (arith, ap (λ (t : List ℕ). length t) h.1)
rows_fit s s2 xs ys (r ∷ rs) start h =
    let shorter = takes_byte default_config s xs h.0 start h.1 in
    let more = rows_fit h.0.1 s2 h.0.2 ys rs (begins_next s [] [] xs h.0 h.1) h.3 in
    omega arith

-- the rows that were reached begin the rows
pub front_rows : (s s2 : State) (xs ys : List ℕ) (rows : List (List (List ℕ))) → ends_at_end s ≡ false → Reached default_config s xs rows s2 ys
    → (more : List (List (List ℕ))) × (records_from default_config (length xs + 1) s xs ≡ rows ++ more)
front_rows s s2 xs ys rows start h =
    let fit = rows_fit s s2 xs ys rows start h in
    let n = length xs + 1 - length rows in
    let e : length xs + 1 ≡ length rows + n = omega arith in
    (records_from default_config n s2 ys, subst (λ (k : ℕ). records_from default_config k s xs ≡ rows ++ records_from default_config n s2 ys) (sym e) (rows_split default_config n s s2 xs ys rows h))

-- at the end they are all
pub all_rows : (s s2 : State) (xs ys : List ℕ) (rows : List (List (List ℕ))) → ends_at_end s ≡ false → Reached default_config s xs rows s2 ys
    → next_record default_config s2 [] [] ys ≡ None → records_from default_config (length xs + 1) s xs ≡ rows
all_rows s s2 xs ys rows start h over =
    let fit = rows_fit s s2 xs ys rows start h in
    let n = length xs + 1 - length rows in
    let e : length xs + 1 ≡ length rows + n = omega arith in
    ap (λ (k : ℕ). records_from default_config k s xs) e ∙ rows_split default_config n s s2 xs ys rows h ∙ ap (λ (t : List (List (List ℕ))). rows ++ t) (no_rows default_config n s2 ys over) ∙ append-nil rows
