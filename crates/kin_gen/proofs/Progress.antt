-- How far nodes are: each round takes every node at least nine records further, or to the end of its feed.
use Rattle.std.proofs.Common.{ℕ, zero, suc, ◌≡◌, ◌≢◌, ◌∙◌, ◌+◌, ◌-◌, ◌*◌, ◌/◌, ◌%◌, ◌<◌, ◌≤◌, ◌++◌, min, Bool, true, false, List, [], ◌∷◌, get_or, set, length, refl, sym, ap, subst, arith, length-append, length-set, get_or-set_same, get_or-set_other}
use Rattle.std.specs.Prelude.{◌==◌, ◌||◌, nat_lt, if◌then◌else◌, map, slice_index, None}
use Rattle.std.proofs.lemmas.Bool.Decides.{nat_tests}
use Rattle.std.proofs.lemmas.List.{length-map}
use Rattle.kin_script.specs.declared.events.Event.{Event}
use Rattle.kin_script.specs.declared.events.Event.TheVariants as event
use Rattle.kin_gen.specs.declared.rounds.Standing.{Standing}
use Rattle.kin_gen.specs.Draws.{draw}
use Rattle.kin_gen.specs.Rounds as rounds
use Rattle.kin_gen.specs.Rounds.{feed_length, has_left, stamp_end, turn, after_turn, after_turns, nodes, round, after_round, with_restart, restarted, is_going, every, opening, gen_events}

-- after k rounds a node is at least so far
abbrev pub IsFar : ℕ → ℕ → List ℕ → ℕ → Type 0
IsFar n k next i = min (9 * k) (feed_length n i) ≤ get_or next i 0

-- where the rounds stand after k of them
pub record IsAfter (n k : ℕ) (next : List ℕ) : Type 0 where
  pub count : length next ≡ 3
  pub first : IsFar n k next 0
  pub second : IsFar n k next 1
  pub third : IsFar n k next 2

length-choice : (b : Bool) (x y : Standing) → length x.next ≡ length y.next → length (if b then x else y).next ≡ length y.next
length-choice true x y e = e
length-choice false x y e = refl

length-turn : (n : ℕ) (at : Standing) (i : ℕ) → length (after_turn n at i).next ≡ length at.next
unfolding after_turn
length-turn n at i = length-choice (has_left n at i) _ at (length-set at.next i _)

far-choice : (b : Bool) (n k w i : ℕ) (x at : Standing) → i < length at.next → nat_lt (get_or at.next i 0) (feed_length n i) ≡ b
    → x.next ≡ set at.next i (stamp_end n at i w) → IsFar n k at.next i → IsFar n (k + 1) (if b then x else at).next i
far-choice true n k w i x at h b e far =
    let more : get_or (set at.next i (stamp_end n at i w)) i 0 ≡ stamp_end n at i w = get_or-set_same at.next i (stamp_end n at i w) 0 h in
    rw (e, more) (omega arith)
far-choice false n k w i x at h b e far = let done : feed_length n i ≤ get_or at.next i 0 = grind (arith, nat_tests) in omega arith

far-turn : (n k : ℕ) (at : Standing) (i : ℕ) → i < length at.next → IsFar n k at.next i → IsFar n (k + 1) (after_turn n at i).next i
unfolding after_turn
far-turn n k at i h far = far-choice (has_left n at i) n k (draw at.draws) i _ at h refl refl far

other-choice : (b : Bool) (i j to : ℕ) (x at : Standing) → j ≢ i → x.next ≡ set at.next i to → get_or (if b then x else at).next j 0 ≡ get_or at.next j 0
other-choice true i j to x at h e = rw e (get_or-set_other at.next i j to 0 h)
other-choice false i j to x at h e = refl

other-turn : (n : ℕ) (at : Standing) (i j : ℕ) → j ≢ i → get_or (after_turn n at i).next j 0 ≡ get_or at.next j 0
unfolding after_turn
other-turn n at i j h = other-choice (has_left n at i) i j _ _ at h refl

far-same : (n k i : ℕ) (xs ys : List ℕ) → get_or ys i 0 ≡ get_or xs i 0 → IsFar n k xs i → IsFar n k ys i
far-same n k i xs ys e h = rw e h

-- after the turns of a round every node is further
after-turns : (n k : ℕ) (at : Standing) → IsAfter n k at.next → IsAfter n (k + 1) (after_turns n at nodes).next
after-turns n k at h =
    let one = after_turn n at 0 in
    let two = after_turn n one 1 in
    let three = after_turn n two 2 in
    let count : length at.next ≡ 3 = h.count in
    let count1 : length one.next ≡ 3 = length-turn n at 0 ∙ count in
    let count2 : length two.next ≡ 3 = length-turn n one 1 ∙ count1 in
    let first1 = far-turn n k at 0 (omega arith) h.first in
    let second1 = far-same n k 1 at.next one.next (other-turn n at 0 1 (omega arith)) h.second in
    let third1 = far-same n k 2 at.next one.next (other-turn n at 0 2 (omega arith)) h.third in
    let first2 = far-same n (k + 1) 0 one.next two.next (other-turn n one 1 0 (omega arith)) first1 in
    let second2 = far-turn n k one 1 (omega arith) second1 in
    let third2 = far-same n k 2 one.next two.next (other-turn n one 1 2 (omega arith)) third1 in
    record {
      count = length-turn n two 2 ∙ count2;
      first = far-same n (k + 1) 0 two.next three.next (other-turn n two 2 0 (omega arith)) first2;
      second = far-same n (k + 1) 1 two.next three.next (other-turn n two 2 1 (omega arith)) second2;
      third = far-turn n k two 2 (omega arith) third2;
    }

restarted-choice : (b : Bool) (k : ℕ) (at : Standing) → (if b then with_restart k at else at).next ≡ at.next
restarted-choice true k at = refl
restarted-choice false k at = refl

pub after-round : (n k number : ℕ) (at : Standing) → IsAfter n k at.next → IsAfter n (k + 1) (after_round n number at).next
unfolding after_round
after-round n k number at h = subst (IsAfter n (k + 1)) (sym (restarted-choice (number % 256 == 0) (restarted number) (after_turns n at nodes))) (after-turns n k at h)

pub after-none : (n seed : ℕ) → IsAfter n 0 (opening seed).next
after-none n seed = record { count = refl; first = omega arith; second = omega arith; third = omega arith }

-- how many rounds there are at most
abbrev pub most_rounds : ℕ → ℕ
most_rounds n = (feed_length n 0 + 8) / 9

-- a node has records left, or another does
going-by : (a b c : Bool) (n k : ℕ) (next : List ℕ) → IsAfter n k next → nat_lt (get_or next 0 0) (feed_length n 0) ≡ a → nat_lt (get_or next 1 0) (feed_length n 1) ≡ b
    → nat_lt (get_or next 2 0) (feed_length n 2) ≡ c → (a || b || c) ≡ true → k < most_rounds n
going-by true b c n k next h p q r t = let left : get_or next 0 0 < feed_length n 0 = grind (arith, nat_tests) in let far = h.first in omega arith
going-by false true c n k next h p q r t = let left : get_or next 1 0 < feed_length n 1 = grind (arith, nat_tests) in let far = h.second in omega arith
going-by false false true n k next h p q r t = let left : get_or next 2 0 < feed_length n 2 = grind (arith, nat_tests) in let far = h.third in omega arith
going-by false false false n k next h p q r t = absurd cc

-- after so many rounds no node has records left
pub still-going : (n k : ℕ) (at : Standing) → IsAfter n k at.next → is_going n at ≡ true → k < most_rounds n
still-going n k at h going = going-by (has_left n at 0) (has_left n at 1) (has_left n at 2) n k at.next h refl refl refl going

-- a round has at most 28 events
length-some : (b : Bool) (xs : List Event) (most : ℕ) → length xs ≤ most → length (if b then xs else []) ≤ most
length-some true xs most h = h
length-some false xs most h = omega arith

length-parts : (b : Bool) (xs ys : List ℕ) (most : ℕ) → length xs ≤ most → length ys ≤ most → length (if b then xs else ys) ≤ most
length-parts true xs ys most h k = h
length-parts false xs ys most h k = k

few-stamping : (n : ℕ) (at : Standing) (i w : ℕ) → length (rounds.stamping n at i w) ≤ 6
few-stamping n at i w =
    let order = rounds.in_order w in
    let again = rounds.again w in
    let four : length order ≤ 4 = length-parts (w / 8 % 2 == 0) (0 ∷ 1 ∷ 2 ∷ 3 ∷ []) (3 ∷ 2 ∷ 1 ∷ 0 ∷ []) 4 (omega arith) (omega arith) in
    let one : length again ≤ 1 = length-parts (w / 16 % 8 == 0) (w / 128 % 4 ∷ []) [] 1 (omega arith) (omega arith) in
    let whole : length (map (rounds.delivered i (slice_index at.incs i) (stamp_end n at i w)) (order ++ again)) ≡ length order + length again = length-map (order ++ again) _ ∙ length-append order again in
    omega arith

few-turn : (n : ℕ) (at : Standing) (i : ℕ) → length (turn n at i) ≤ 6
unfolding turn
few-turn n at i = length-some (has_left n at i) _ 6 (few-stamping n at i (draw at.draws))

few-turns : (n : ℕ) (at : Standing) → length (rounds.turns n at nodes) ≤ 18
few-turns n at =
    let at1 = after_turn n at 0 in
    let at2 = after_turn n at1 1 in
    let one = few-turn n at 0 in
    let two = few-turn n at1 1 in
    let three = few-turn n at2 2 in
    let third = length-append (turn n at2 2) [] in
    let second = length-append (turn n at1 1) (turn n at2 2 ++ []) in
    let first = length-append (turn n at 0) (turn n at1 1 ++ (turn n at2 2 ++ [])) in
    omega arith

few-round : (n number : ℕ) (at : Standing) → length (round n number at) ≤ 28
unfolding round
few-round n number at =
    let stamps = rounds.turns n at nodes in
    let agreed = every 8 number rounds.agreement in
    let cut = every 64 number (event.Cut None ∷ []) in
    let again = every 256 number (rounds.restart (restarted number)) in
    let a = few-turns n at in
    let b = length-some (number % 8 == 0) rounds.agreement 7 (omega arith) in
    let c = length-some (number % 64 == 0) (event.Cut None ∷ []) 1 (omega arith) in
    let d = length-some (number % 256 == 0) (rounds.restart (restarted number)) 2 (omega arith) in
    let first = length-append stamps agreed in
    let second = length-append (stamps ++ agreed) cut in
    let third = length-append (stamps ++ agreed ++ cut) again in
    omega arith

-- the rounds that are left have at most 28 events each
few-choice : (b : Bool) (n k : ℕ) (now rest : List Event) → (b ≡ true → k < most_rounds n) → length now ≤ 28 → length rest ≤ 28 * (most_rounds n - (k + 1))
    → length (if b then now ++ rest else []) ≤ 28 * (most_rounds n - k)
few-choice true n k now rest more h j =
    let left : k < most_rounds n = more refl in
    let both = length-append now rest in
    omega arith
few-choice false n k now rest more h j = omega arith

few-rounds : (n most k : ℕ) (at : Standing) → IsAfter n k at.next → length (rounds.rounds n most (k + 1) at) ≤ 28 * (most_rounds n - k)
unfolding rounds.rounds
few-rounds n zero k at h = omega arith
few-rounds n (suc most) k at h =
    few-choice (is_going n at) n k _ _ (still-going n k at h) (few-round n (k + 1) at) (few-rounds n most (k + 1) (after_round n (k + 1) at) (after-round n k (k + 1) at h))

pub few : (seed n : ℕ) → n ≤ 500000 → length (gen_events seed n) ≤ 1048576
unfolding gen_events
few seed n h =
    let played = rounds.rounds n n 1 (opening seed) in
    let many = few-rounds n n 0 (opening seed) (after-none n seed) in
    let first = length-append played rounds.agreement in
    let second = length-append (played ++ rounds.agreement) (event.Cut None ∷ []) in
    omega arith

-- with leave for enough rounds, leave for more adds none
none-left : (n k most : ℕ) (at : Standing) → IsAfter n k at.next → most_rounds n ≤ k → rounds.rounds n most (k + 1) at ≡ []
unfolding rounds.rounds
none-left n k zero at h over = refl
none-left n k (suc most) at h over = none-by (is_going n at) _ (λ going. let more = still-going n k at h going in omega arith)
  where
    none-by : (b : Bool) (x : List Event) → (b ≡ true → ⊥) → (if b then x else []) ≡ []
    none-by true x never = absurd (never refl)
    none-by false x never = refl

pub enough : (n few most k : ℕ) (at : Standing) → IsAfter n k at.next → most_rounds n ≤ k + few → few ≤ most → rounds.rounds n most (k + 1) at ≡ rounds.rounds n few (k + 1) at
unfolding rounds.rounds
enough n zero most k at h some less = none-left n k most at h (omega arith)
enough n (suc few) zero k at h some less = absurd (omega arith)
enough n (suc few) (suc most) k at h some less =
    ap (λ (rest : List Event). if is_going n at then round n (k + 1) at ++ rest else [])
    (enough n few most (k + 1) (after_round n (k + 1) at) (after-round n k (k + 1) at h) (omega arith) (omega arith))

pub ended : (seed n most : ℕ) → n ≤ most → rounds.rounds n most 1 (opening seed) ≡ rounds.rounds n n 1 (opening seed)
ended seed n most h = enough n n most 0 (opening seed) (after-none n seed) (omega arith) h
