-- Joining the records between positions of a feed.
use Rattle.std.proofs.Common.{◌≡◌, ℕ, suc, ◌+◌, ◌-◌, ◌<◌, ◌≤◌, cond, leb, ⊎_elim, List, [], ◌∷◌, ◌++◌, length, take, drop, refl, sym, ◌∙◌, ap, arith}
use Rattle.std.specs.Prelude.{map, filter}
use Rattle.std.proofs.lemmas.Bool.{cases_lt, cond_both, cond-true, cond-false, leb-false, lt-leb}
use Rattle.std.proofs.lemmas.List.{map-append, length-take, length-drop, drop-drop, drop_all, take_all}
use Rattle.std.proofs.Math.Seq.{take-add}
use Rattle.kin_ids.specs.Types.{Stamp, Record}
use Rattle.kin_ids.specs.Lines.{IsLine, IsEnd, end_of, upto, past}
use Rattle.kin_ids.specs.Order.{Entry, entries, between, folded}
use Rattle.kin_ids.specs.Graph.{Graph, applied}
use Rattle.kin_ids.specs.Records.{Counted, counted, line_records, line_entries, BetweenEndsLaw, WithinLaw}
use Rattle.kin_ids.proofs.Lines.{line_grows, upto-line, upto-ends, upto-end, past-line, upto-past, end_of-append}

-- the records from one position to another are those to a position between, and those from there
pub between-split : (feed : List Record) (from mid to : ℕ) → from ≤ mid → mid ≤ to → between feed from to ≡ between feed from mid ++ between feed mid to
between-split feed from mid to low high =
    let len : to - from ≡ (mid - from) + (to - mid) = omega arith in
    let at : from + (mid - from) ≡ mid = omega arith in
    rw len (take-add (mid - from) (to - mid) (drop from feed) ∙ ap (λ (xs : List Record). take (mid - from) (drop from feed) ++ take (to - mid) xs) (drop-drop (mid - from) from feed ∙ ap (λ (n : ℕ). drop n feed) at))

pub between-none : (feed : List Record) (at : ℕ) → between feed at at ≡ []
between-none feed at = let none : at - at ≡ 0 = omega arith in rw none refl

pub between-past : (feed : List Record) (from to : ℕ) → length feed ≤ from → between feed from to ≡ []
between-past feed from to le = rw (drop_all from feed le) (take_all (to - from) [] (omega arith))

-- the whole front
pub between-front : (feed : List Record) (to : ℕ) → between feed 0 to ≡ take to feed
between-front feed to = let e : to - 0 ≡ to = omega arith in rw e refl

length-between : (feed : List Record) (from to : ℕ) → from ≤ to → to ≤ length feed → length (between feed from to) ≡ to - from
length-between feed from to le fits = length-take (to - from) (drop from feed) ∙ omega (arith, length-drop from feed)

pub counted-append : (n : ℕ) (xs ys : List Record) → counted n (xs ++ ys) ≡ counted n xs ++ counted (n + length xs) ys
counted-append n [] ys = let e : n + 0 ≡ n = omega arith in rw e refl
counted-append n (x ∷ xs) ys =
    let e : n + 1 + length xs ≡ n + length (x ∷ xs) = omega arith in
    ap (λ cs. record { number = n + 1; content = x } ∷ cs) (counted-append (n + 1) xs ys ∙ ap (λ (m : ℕ). counted (n + 1) xs ++ counted m ys) e)

pub counted-split : (feed : List Record) (from mid to : ℕ) → from ≤ mid → mid ≤ to → counted from (between feed from to) ≡ counted from (between feed from mid) ++ counted mid (between feed mid to)
counted-split feed from mid to low high = rw (between-split feed from mid to low high)
    (counted-append from (between feed from mid) (between feed mid to)
    ∙ ap (λ cs. counted from (between feed from mid) ++ cs)
    (⊎_elim (λ (past_end : length feed < mid). let none = between-past feed mid to (omega arith) in rw none refl)
    (λ (fits : mid ≤ length feed). let e : from + length (between feed from mid) ≡ mid = omega (arith, length-between feed from mid low fits) in ap (λ (m : ℕ). counted m (between feed mid to)) e)
    (cases_lt (length feed) mid)))

-- the entries of numbered records
abbrev entry_of : ℕ → ℕ → Counted → Entry
entry_of e i c = record { place = record { epoch = record { 0 = e }; ingest = record { 0 = i }; number = c.number }; content = c.content }

pub entries-are : (e i n : ℕ) (rs : List Record) → entries e i n rs ≡ map (entry_of e i) (counted n rs)
entries-are e i n [] = refl
entries-are e i n (r ∷ rs) = ap (λ xs. entry_of e i (record { number = n + 1; content = r }) ∷ xs) (entries-are e i (n + 1) rs)

pub entries-split : (e i : ℕ) (feed : List Record) (from mid to : ℕ) → from ≤ mid → mid ≤ to → entries e i from (between feed from to) ≡ entries e i from (between feed from mid) ++ entries e i mid (between feed mid to)
entries-split e i feed from mid to low high = rw (entries-are e i from (between feed from to), entries-are e i from (between feed from mid), entries-are e i mid (between feed mid to), counted-split feed from mid to low high)
    (map-append (entry_of e i) (counted from (between feed from mid)) (counted mid (between feed mid to)))

-- stamps that follow each other have the records from the first to the last
pub line_records-are : (feed : List Record) (at : ℕ) (ss : List Stamp) → IsLine at ss → line_records feed ss ≡ between feed at (end_of at ss)
line_records-are feed at [] l = sym (between-none feed at)
line_records-are feed at (s ∷ ss) l =
    let some : at < s.to = l.1 in
    ap (λ (n : ℕ). between feed n s.to ++ line_records feed ss) l.0 ∙ (ap (λ rs. between feed at s.to ++ rs) (line_records-are feed s.to ss l.2)
    ∙ sym (between-split feed at s.to (end_of s.to ss) (omega arith) (line_grows s.to ss l.2)))

-- the entries of stamps that follow each other
pub line_entries-are : (e i : ℕ) (feed : List Record) (at : ℕ) (ss : List Stamp) → IsLine at ss → line_entries e i feed ss ≡ entries e i at (between feed at (end_of at ss))
line_entries-are e i feed at [] l = sym (ap (entries e i at) (between-none feed at))
line_entries-are e i feed at (s ∷ ss) l =
    let some : at < s.to = l.1 in
    ap (λ (n : ℕ). entries e i n (between feed n s.to) ++ line_entries e i feed ss) l.0 ∙ (ap (λ xs. entries e i at (between feed at s.to) ++ xs) (line_entries-are e i feed s.to ss l.2)
    ∙ sym (entries-split e i feed at s.to (end_of s.to ss) (omega arith) (line_grows s.to ss l.2)))

-- records in two lots
pub folded-append : (g : Graph) (xs ys : List Entry) → folded g (xs ++ ys) ≡ folded (folded g xs) ys
folded-append g [] ys = refl
folded-append g (x ∷ xs) ys = folded-append (applied x.place g x.content) xs ys

-- what is left past an end of a line leads to the line's end
pub past-end_of : (at g : ℕ) (ss : List Stamp) → IsLine at ss → IsEnd at ss g → end_of g (past g ss) ≡ end_of at ss
past-end_of at g ss l e = ap (λ (n : ℕ). end_of n (past g ss)) (sym (upto-end at g ss l e)) ∙ (sym (end_of-append at (upto g ss) (past g ss)) ∙ ap (end_of at) (upto-past g ss))

pub between-ends-law : BetweenEndsLaw
between-ends-law feed line was now l from to le =
    let front = upto-line 0 now line l in
    let inside = upto-ends 0 now was line l from le in
    line_records-are feed was (past was (upto now line)) (past-line 0 was (upto now line) front inside)
    ∙ ap (between feed was) (past-end_of 0 was (upto now line) front inside ∙ upto-end 0 now line l to)

-- no stamp of a line from a position on ends at it or before
filter-none : (at b : ℕ) (ss : List Stamp) → IsLine at ss → b ≤ at → filter (λ (s : Stamp). leb s.to b) ss ≡ []
filter-none at b [] l le = refl
filter-none at b (s ∷ ss) l le = let some : at < s.to = l.1 in cond-false (leb s.to b) _ _ (lt-leb _ _ (omega arith)) ∙ filter-none s.to b ss l.2 (omega arith)

pub filter-upto : (at b : ℕ) (ss : List Stamp) → IsLine at ss → filter (λ (s : Stamp). leb s.to b) ss ≡ upto b ss
filter-upto at b [] l = refl
filter-upto at b (s ∷ ss) l = cond_both (leb s.to b) (s ∷ upto b ss) [] (λ ys. cond (leb s.to b) (s ∷ filter (λ (s : Stamp). leb s.to b) ss) (filter (λ (s : Stamp). leb s.to b) ss) ≡ ys)
    (λ t. cond-true (leb s.to b) _ _ t ∙ ap (λ ys. s ∷ ys) (filter-upto s.to b ss l.2))
    (λ n. cond-false (leb s.to b) _ _ n ∙ filter-none s.to b ss l.2 (let low = leb-false _ _ n in omega arith))

pub within-law : WithinLaw
within-law lines vectors k i at l = filter-upto at (vectors k i) (lines i) l

-- as many entries as records
pub length-entries : (e i n : ℕ) (rs : List Record) → length (entries e i n rs) ≡ length rs
length-entries e i n [] = refl
length-entries e i n (r ∷ rs) = ap suc (length-entries e i (n + 1) rs)
