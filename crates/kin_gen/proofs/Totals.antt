-- How many lines a feed has, and how many bytes all feeds have.
use Rattle.std.proofs.Common.{ℕ, zero, suc, ◌≡◌, ◌≢◌, ◌∙◌, ◌+◌, ◌-◌, ◌*◌, ◌/◌, ◌%◌, ◌<◌, ◌≤◌, ◌++◌, Bool, true, false, List, [], ◌∷◌, length, refl, ap, arith, append_assoc, length-append}
use Rattle.std.specs.Prelude.{◌==◌, if◌then◌else◌, sum_by}
use Rattle.std.proofs.lemmas.Bool.Decides.{nat_tests}
use Rattle.std.proofs.lemmas.List.Elements.{All-weaker}
use Rattle.kin_line.specs.Lines.{lines}
use Rattle.kin_line.proofs.Cuts.{first_line}
use Rattle.kin_gen.specs.Draws.{State, seeded}
use Rattle.kin_gen.specs.Feeds.{Text, line, after_line, lines_from, dealt, gen_feed, gen_feeds, user_count}
use Rattle.kin_gen.specs.Rounds.{feed_length}
use Rattle.kin_gen.proofs.Texts.{IsOrdinary, AreFew, IsEnded, line-ended}

-- every text is a line with its LF
pub data AreEnded : List Text → Type 0 where
  none : AreEnded []
  more : (text : Text) (texts : List Text) → IsEnded text → AreEnded texts → AreEnded (text ∷ texts)

pub lines-ended : (users n : ℕ) (s : State) → AreFew users → AreEnded (lines_from users n s)
unfolding lines_from
lines-ended users zero s h = none
lines-ended users (suc n) s h = more (line users s) (lines_from users n (after_line s)) (line-ended users s h) (lines-ended users n (after_line s) h)

pub length-lines : (users n : ℕ) (s : State) → length (lines_from users n s) ≡ n
unfolding lines_from
length-lines users zero s = refl
length-lines users (suc n) s = let rest = length-lines users n (after_line s) in omega arith

-- a line before a text is one line more
one-more : (text rest : Text) → IsEnded text → length (lines (text ++ rest)) ≡ suc (length (lines rest))
one-more text rest h =
    let plain = All-weaker IsOrdinary (λ b. (b == 10) ≡ false) (λ b k. let far = k.0 in grind (arith, nat_tests)) h.body h.piece.plain in
    rw (h.whole, append_assoc h.body (10 ∷ []) rest) (ap length (first_line h.body rest plain))

count-choice : (b : Bool) (feed r : ℕ) (text rest : Text) (count : ℕ) → feed < 3 → (r % 3 == feed) ≡ b → IsEnded text → length (lines rest) + (r + 1 + 2 - feed) / 3 ≡ (r + 1 + count + 2 - feed) / 3
    → length (lines ((if b then text else []) ++ rest)) + (r + 2 - feed) / 3 ≡ (r + suc count + 2 - feed) / 3
count-choice true feed r text rest count within e h before =
    let here : r % 3 ≡ feed = grind (arith, nat_tests) in
    let more = one-more text rest h in
    omega arith
count-choice false feed r text rest count within e h before =
    let other : r % 3 ≢ feed = grind (arith, nat_tests) in
    omega arith

count-dealt : (feed r : ℕ) (texts : List Text) → feed < 3 → AreEnded texts → length (lines (dealt feed r texts)) + (r + 2 - feed) / 3 ≡ (r + length texts + 2 - feed) / 3
unfolding dealt
count-dealt feed r [] within none = omega arith
count-dealt feed r (text ∷ texts) within (more _ _ h rest) =
    count-choice (r % 3 == feed) feed r text (dealt feed (r + 1) texts) (length texts) within refl h (count-dealt feed (r + 1) texts within rest)

pub few-users : (n : ℕ) → n ≤ 500000 → AreFew (user_count n)
few-users n h = (omega arith, omega arith)

pub count-lines : (seed n feed : ℕ) → n ≤ 500000 → feed < 3 → length (lines (gen_feed seed n feed)) ≡ feed_length n feed
unfolding gen_feed
count-lines seed n feed h within =
    let texts = lines_from (user_count n) n (seeded seed) in
    let dealt_lines = count-dealt feed 0 texts within (lines-ended (user_count n) n (seeded seed) (few-users n h)) in
    let all = length-lines (user_count n) n (seeded seed) in
    omega arith

-- each line goes to one feed
once : (c : ℕ) (text : Text) → c < 3 → length (if c == 0 then text else []) + length (if c == 1 then text else []) + length (if c == 2 then text else []) ≡ length text
once zero text h = omega arith
once (suc zero) text h = omega arith
once (suc (suc zero)) text h = omega arith
once (suc (suc (suc c))) text h = absurd (omega arith)

short-dealt : (r : ℕ) (texts : List Text) → AreEnded texts → length (dealt 0 r texts) + length (dealt 1 r texts) + length (dealt 2 r texts) ≤ 36 * length texts
unfolding dealt
short-dealt r [] none = omega arith
short-dealt r (text ∷ texts) (more _ _ h rest) =
    let before = short-dealt (r + 1) texts rest in
    let one = once (r % 3) text (omega arith) in
    let short = h.piece.short in
    let whole = ap length h.whole ∙ length-append h.body (10 ∷ []) in
    let first = length-append (if r % 3 == 0 then text else []) (dealt 0 (r + 1) texts) in
    let second = length-append (if r % 3 == 1 then text else []) (dealt 1 (r + 1) texts) in
    let third = length-append (if r % 3 == 2 then text else []) (dealt 2 (r + 1) texts) in
    omega arith

pub small : (seed n : ℕ) → n ≤ 500000 → sum_by (λ (text : Text). length text) (gen_feeds seed n) ≤ 33554432
unfolding gen_feed
small seed n h =
    let texts = lines_from (user_count n) n (seeded seed) in
    let short = short-dealt 0 texts (lines-ended (user_count n) n (seeded seed) (few-users n h)) in
    let all = length-lines (user_count n) n (seeded seed) in
    omega arith
