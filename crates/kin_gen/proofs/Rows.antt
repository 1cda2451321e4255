-- Each line of a generated feed is one row of csv.
use Rattle.std.proofs.Common.{ℕ, zero, suc, ◌≡◌, ◌≢◌, ◌∙◌, ◌+◌, ◌-◌, ◌/◌, ◌%◌, ◌<◌, ◌≤◌, ◌++◌, Bool, true, false, List, [], ◌∷◌, get_or, length, refl, ap, arith, append_assoc, length-append}
use Rattle.std.specs.Prelude.{◌==◌, if◌then◌else◌, Option, Some}
use Rattle.std.proofs.lemmas.Bool.Decides.{nat_tests}
use Rattle.std.proofs.lemmas.List.{length-map}
use Rattle.csv.specs.Machine.{Read, next_record, step, is_end, fields_after, field_after}
use Rattle.csv.specs.Reading.{default_config, records_from, records_next, strip_bom}
use Rattle.csv.specs.declared.parser.State.{State}
use Rattle.csv.specs.declared.parser.State.TheVariants as st
use Rattle.csv.specs.declared.parser.Action.{Action}
use Rattle.csv.specs.declared.parser.Action.TheVariants as act
use Rattle.kin_feed.specs.Records.{record_of, rows_of, records_of}
use Rattle.kin_gen.specs.Feeds.{Text, lines_from, dealt, gen_feed, user_count}
use Rattle.kin_gen.specs.Draws.{seeded}
use Rattle.kin_gen.specs.Rounds.{feed_length}
use Rattle.kin_gen.proofs.Texts.{IsOrdinary, IsPlain, IsEnded}
use Rattle.kin_gen.proofs.Totals.{AreEnded, none, more, lines-ended, length-lines, few-users}

-- within a row: at the beginning of a field, or past it
abbrev within : Bool → State
within true = st.StartField
within false = st.InField

abbrev taken : Bool → State × Action
taken b = if b then (st.StartField, act.EndField) else (st.InField, act.Copy)

-- what csv does at one byte
abbrev goes : State × Action → ℕ → List (List ℕ) → List ℕ → List ℕ → Option Read
goes p c fields field rest =
    if is_end p.1 then Some (fields_after p.1 fields field, p.0, rest)
    else next_record default_config p.0 (fields_after p.1 fields field) (field_after p.1 c field) rest

goes-on : (s : State) (c : ℕ) (fields : List (List ℕ)) (field rest : List ℕ) → next_record default_config s fields field (c ∷ rest) ≡ goes (step default_config s c) c fields field rest
unfolding next_record
goes-on s c fields field rest = refl

no-quote : (c : ℕ) → IsOrdinary c → (c == 34) ≡ false
no-quote c h = let far = h.0 in grind (arith, nat_tests)

no-return : (c : ℕ) → IsOrdinary c → (c == 13) ≡ false
no-return c h = let far = h.0 in grind (arith, nat_tests)

no-feed : (c : ℕ) → IsOrdinary c → (c == 10) ≡ false
no-feed c h = let far = h.0 in grind (arith, nat_tests)

-- an ordinary byte ends a field, where it is the comma, or joins it
step-within : (m : Bool) (c : ℕ) → IsOrdinary c → step default_config (within m) c ≡ taken (c == 44)
step-within true c h = rw (no-quote c h, no-return c h, no-feed c h) refl
step-within false c h = rw (no-return c h, no-feed c h) refl

-- at the beginning of a row it does the same
step-first : (c : ℕ) → IsOrdinary c → step default_config st.StartRecord c ≡ taken (c == 44)
step-first c h = rw (no-return c h, no-feed c h, no-quote c h) refl

goes-within : (b : Bool) (c : ℕ) (fields : List (List ℕ)) (field rest : List ℕ)
    → goes (taken b) c fields field rest ≡ next_record default_config (within b) (if b then fields ++ (field ∷ []) else fields) (if b then [] else field ++ (c ∷ [])) rest
goes-within true c fields field rest = refl
goes-within false c fields field rest = refl

-- the LF ends the row
ends-row : (m : Bool) (fields : List (List ℕ)) (field rest : List ℕ) → next_record default_config (within m) fields field (10 ∷ rest) ≡ Some (fields ++ (field ∷ []), st.StartRecord, rest)
unfolding next_record
ends-row true fields field rest = refl
ends-row false fields field rest = refl

abbrev IsRow : State → List (List ℕ) → List ℕ → List ℕ → List ℕ → Type 0
IsRow s fields field text rest = (row : List (List ℕ)) × (next_record default_config s fields field text ≡ Some (row, st.StartRecord, rest))

row-within : (body rest : List ℕ) (m : Bool) (fields : List (List ℕ)) (field : List ℕ) → IsPlain body → IsRow (within m) fields field (body ++ 10 ∷ rest) rest
row-within [] rest m fields field h = (fields ++ (field ∷ []), ends-row m fields field rest)
row-within (c ∷ body) rest m fields field h =
    let ordinary : IsOrdinary c = h 0 0 (omega arith) in
    let tail : IsPlain body = λ k d lt. h (suc k) d (omega arith) in
    let b = c == 44 in
    let row = row-within body rest b (if b then fields ++ (field ∷ []) else fields) (if b then [] else field ++ (c ∷ [])) tail in
    let same = goes-on (within m) c fields field (body ++ 10 ∷ rest)
    ∙ ap (λ (p : State × Action). goes p c fields field (body ++ 10 ∷ rest)) (step-within m c ordinary)
    ∙ goes-within b c fields field (body ++ 10 ∷ rest) in
    (row.0, same ∙ row.1)

-- a line is one row
row-of : (body rest : List ℕ) → IsPlain body → 0 < length body → IsRow st.StartRecord [] [] (body ++ 10 ∷ rest) rest
row-of [] rest h some = absurd (omega arith)
row-of (c ∷ body) rest h some =
    let ordinary : IsOrdinary c = h 0 0 (omega arith) in
    let tail : IsPlain body = λ k d lt. h (suc k) d (omega arith) in
    let b = c == 44 in
    let row = row-within body rest b (if b then [] ++ ([] ∷ []) else []) (if b then [] else [] ++ (c ∷ [])) tail in
    let same = goes-on st.StartRecord c [] [] (body ++ 10 ∷ rest)
    ∙ ap (λ (p : State × Action). goes p c [] [] (body ++ 10 ∷ rest)) (step-first c ordinary)
    ∙ goes-within b c [] [] (body ++ 10 ∷ rest) in
    (row.0, same ∙ row.1)

-- how many rows csv gives of a text, with so many turns
abbrev turns_of : ℕ → Text → ℕ
turns_of n text = length (records_from default_config n st.StartRecord text)

one-row : (n : ℕ) (text rest : Text) → IsEnded text → turns_of (suc n) (text ++ rest) ≡ suc (turns_of n rest)
unfolding records_from
one-row n text rest h =
    let row = row-of h.body rest h.piece.plain h.some in
    rw (h.whole, append_assoc h.body (10 ∷ []) rest) (ap (λ (o : Option Read). length (records_next (records_from default_config n) o)) row.1)

no-rows : (n : ℕ) → turns_of n [] ≡ 0
unfolding records_from next_record
no-rows zero = refl
no-rows (suc n) = refl

rows-choice : (b : Bool) (feed r n : ℕ) (text rest : Text) (count : ℕ) → feed < 3 → (r % 3 == feed) ≡ b → IsEnded text
    → ((m : ℕ) → length rest < m → turns_of m rest + (r + 1 + 2 - feed) / 3 ≡ (r + 1 + count + 2 - feed) / 3)
    → length ((if b then text else []) ++ rest) < n → turns_of n ((if b then text else []) ++ rest) + (r + 2 - feed) / 3 ≡ (r + suc count + 2 - feed) / 3
rows-choice true feed r zero text rest count inside e h before fits = absurd (omega arith)
rows-choice true feed r (suc n) text rest count inside e h before fits =
    let here : r % 3 ≡ feed = grind (arith, nat_tests) in
    let both = length-append text rest in
    let whole = ap length h.whole ∙ length-append h.body (10 ∷ []) in
    let some = h.some in
    let one = one-row n text rest h in
    let others = before n (omega arith) in
    omega arith
rows-choice false feed r n text rest count inside e h before fits =
    let other : r % 3 ≢ feed = grind (arith, nat_tests) in
    let others = before n fits in
    omega arith

rows-dealt : (feed r n : ℕ) (texts : List Text) → feed < 3 → AreEnded texts → length (dealt feed r texts) < n → turns_of n (dealt feed r texts) + (r + 2 - feed) / 3 ≡ (r + length texts + 2 - feed) / 3
unfolding dealt
rows-dealt feed r n [] inside none fits = let empty = no-rows n in omega arith
rows-dealt feed r n (text ∷ texts) inside (more _ _ h rest) fits =
    rows-choice (r % 3 == feed) feed r n text (dealt feed (r + 1) texts) (length texts) inside refl h (λ m lt. rows-dealt feed (r + 1) m texts inside rest lt) fits

-- no feed begins with a byte order mark
no-mark : (xs : List ℕ) → get_or xs 0 0 < 128 → strip_bom xs ≡ xs
unfolding strip_bom
no-mark [] h = refl
no-mark (a ∷ []) h = refl
no-mark (a ∷ b ∷ []) h = refl
no-mark (a ∷ b ∷ c ∷ rest) h =
    let low : a < 128 = h in
    let other : (a == 239) ≡ false = grind (arith, nat_tests) in
    rw other refl

first-line : (body rest : Text) → IsPlain body → 0 < length body → get_or (body ++ rest) 0 0 < 128
first-line [] rest h some = absurd (omega arith)
first-line (c ∷ body) rest h some = (h 0 0 (omega arith)).1

first-choice : (b : Bool) (text rest : Text) → IsEnded text → get_or rest 0 0 < 128 → get_or ((if b then text else []) ++ rest) 0 0 < 128
first-choice true text rest h low = rw (h.whole, append_assoc h.body (10 ∷ []) rest) (first-line h.body (10 ∷ rest) h.piece.plain h.some)
first-choice false text rest h low = low

first-dealt : (feed r : ℕ) (texts : List Text) → AreEnded texts → get_or (dealt feed r texts) 0 0 < 128
unfolding dealt
first-dealt feed r [] none = omega arith
first-dealt feed r (text ∷ texts) (more _ _ h rest) = first-choice (r % 3 == feed) text (dealt feed (r + 1) texts) h (first-dealt feed (r + 1) texts rest)

pub count-records : (seed n feed : ℕ) → n ≤ 500000 → feed < 3 → length (records_of (gen_feed seed n feed)) ≡ feed_length n feed
unfolding gen_feed
count-records seed n feed h inside =
    let texts = lines_from (user_count n) n (seeded seed) in
    let text = dealt feed 0 texts in
    let ended = lines-ended (user_count n) n (seeded seed) (few-users n h) in
    let all = length-lines (user_count n) n (seeded seed) in
    let rows = rows-dealt feed 0 (length text + 1) texts inside ended (omega arith) in
    let same = no-mark text (first-dealt feed 0 texts ended) in
    let mapped : length (records_of text) ≡ length (rows_of text) = length-map (rows_of text) record_of in
    let plain : length (rows_of text) ≡ turns_of (length text + 1) text = ap (λ (t : Text). turns_of (length t + 1) t) same in
    omega arith
