-- The events of a generated job are in range.
use Rattle.std.proofs.Common.{ℕ, zero, suc, ◌+◌, ◌*◌, ◌/◌, ◌%◌, ◌<◌, ◌≤◌, ◌++◌, Bool, true, false, List, [], ◌∷◌, All, get_or, arith}
use Rattle.std.specs.Prelude.{◌==◌, if◌then◌else◌, map, None, slice_index}
use Rattle.std.proofs.lemmas.List.Elements.{All-append, All-cons, All-nil, All-map}
use Rattle.kin_script.specs.Schedules.{IsInRange}
use Rattle.kin_script.specs.declared.events.Event.{Event}
use Rattle.kin_script.specs.declared.events.Event.TheVariants as event
use Rattle.kin_gen.specs.declared.rounds.Standing.{Standing}
use Rattle.kin_gen.specs.Draws.{draw}
use Rattle.kin_gen.specs.Rounds as rounds
use Rattle.kin_gen.specs.Rounds.{AreYoung, has_left, stamp_end, turn, after_turn, nodes, round, after_round, restarted, is_going, opening, gen_events}
use Rattle.kin_gen.proofs.Young.{incs-turn, young-next, young-opening}

abbrev pub AreInRange : List Event → Type 0
AreInRange events = All (IsInRange 3 4) events

all-if : {X : Type 0} (P : X → Type 0) (b : Bool) (xs ys : List X) → All P xs → All P ys → All P (if b then xs else ys)
all-if P true xs ys h k = h
all-if P false xs ys h k = k

abbrev IsPart : ℕ → Type 0
IsPart p = p < 4

all-parts : All IsPart rounds.parts
all-parts = All-cons IsPart 0 (1 ∷ 2 ∷ 3 ∷ []) (omega arith) (All-cons IsPart 1 (2 ∷ 3 ∷ []) (omega arith) (All-cons IsPart 2 (3 ∷ []) (omega arith) (All-cons IsPart 3 [] (omega arith) (All-nil IsPart))))

parts-of : (w : ℕ) → All IsPart (rounds.in_order w ++ rounds.again w)
parts-of w =
    let back = All-cons IsPart 3 (2 ∷ 1 ∷ 0 ∷ []) (omega arith) (All-cons IsPart 2 (1 ∷ 0 ∷ []) (omega arith) (All-cons IsPart 1 (0 ∷ []) (omega arith) (All-cons IsPart 0 [] (omega arith) (All-nil IsPart)))) in
    let drawn : IsPart (w / 128 % 4) = omega arith in
    All-append IsPart (rounds.in_order w) (rounds.again w)
    (all-if IsPart (w / 8 % 2 == 0) (0 ∷ 1 ∷ 2 ∷ 3 ∷ []) (3 ∷ 2 ∷ 1 ∷ 0 ∷ []) all-parts back)
    (all-if IsPart (w / 16 % 8 == 0) (w / 128 % 4 ∷ []) [] (All-cons IsPart (w / 128 % 4) [] drawn (All-nil IsPart)) (All-nil IsPart))

all-weaker : {X : Type 0} (P Q : X → Type 0) (xs : List X) → ((x : X) → P x → Q x) → All P xs → All Q xs
all-weaker P Q xs f h k d lt = f (get_or xs k d) (h k d lt)

range-stamping : (n number : ℕ) (at : Standing) (i w : ℕ) → n ≤ 500000 → number ≤ n → i < 3 → AreYoung number at → AreInRange (rounds.stamping n at i w)
range-stamping n number at i w h k node young =
    let inc = slice_index at.incs i in
    let to = stamp_end n at i w in
    let size : 9 + w % 8 ≤ 16 = omega arith in
    let some : 0 < 9 + w % 8 = omega arith in
    let few : inc * 256 < number = young i in
    let small : inc ≤ 65535 = omega arith in
    let near : to ≤ 2097152 = omega arith in
    let parts = rounds.in_order w ++ rounds.again w in
    let pieces : All (λ p. IsInRange 3 4 (rounds.delivered i inc to p)) parts = all-weaker IsPart (λ p. IsInRange 3 4 (rounds.delivered i inc to p)) parts (λ p within. (within, node, small, near)) (parts-of w) in
    All-cons (IsInRange 3 4) (event.Stamp (record { 0 = i }) (9 + w % 8)) (map (rounds.delivered i inc to) parts) (node, some, size) (All-map (IsInRange 3 4) (rounds.delivered i inc to) parts pieces)

range-turn : (n number : ℕ) (at : Standing) (i : ℕ) → n ≤ 500000 → number ≤ n → i < 3 → AreYoung number at → AreInRange (turn n at i)
unfolding turn
range-turn n number at i h k node young = all-if (IsInRange 3 4) (has_left n at i) (rounds.stamping n at i (draw at.draws)) [] (range-stamping n number at i (draw at.draws) h k node young) (All-nil (IsInRange 3 4))

young-turn : (n number : ℕ) (at : Standing) (i : ℕ) → AreYoung number at → AreYoung number (after_turn n at i)
young-turn n number at i h = λ j. let same = incs-turn n at i in let here : get_or at.incs j 0 * 256 < number = h j in rw same here

range-turns : (n number : ℕ) (at : Standing) → n ≤ 500000 → number ≤ n → AreYoung number at → AreInRange (rounds.turns n at nodes)
range-turns n number at h k young =
    let at1 = after_turn n at 0 in
    let at2 = after_turn n at1 1 in
    let young1 = young-turn n number at 0 young in
    let young2 = young-turn n number at1 1 young1 in
    let P = IsInRange 3 4 in
    All-append P (turn n at 0) (turn n at1 1 ++ (turn n at2 2 ++ [])) (range-turn n number at 0 h k (omega arith) young)
    (All-append P (turn n at1 1) (turn n at2 2 ++ []) (range-turn n number at1 1 h k (omega arith) young1)
    (All-append P (turn n at2 2) [] (range-turn n number at2 2 h k (omega arith) young2) (All-nil P)))

abbrev IsNode : ℕ → Type 0
IsNode i = i < 3

nodes-of : All IsNode nodes
nodes-of = All-cons IsNode 0 (1 ∷ 2 ∷ []) (omega arith) (All-cons IsNode 1 (2 ∷ []) (omega arith) (All-cons IsNode 2 [] (omega arith) (All-nil IsNode)))

range-agreement : AreInRange rounds.agreement
range-agreement =
    let P = IsInRange 3 4 in
    let report : ℕ → Event = λ p. event.Report (record { 0 = p }) in
    let raise : ℕ → Event = λ i. event.Raise (record { 0 = i }) in
    All-append P (map report rounds.parts) (map raise nodes) (All-map P report rounds.parts all-parts) (All-map P raise nodes nodes-of)

range-cut : AreInRange (event.Cut None ∷ [])
range-cut = All-cons (IsInRange 3 4) (event.Cut None) [] tt (All-nil (IsInRange 3 4))

range-restart : (number : ℕ) → AreInRange (rounds.restart (restarted number))
range-restart number =
    let node : restarted number < 3 = omega arith in
    All-cons (IsInRange 3 4) (event.Crash (record { 0 = restarted number })) (event.Restart (record { 0 = restarted number }) ∷ []) node (All-cons (IsInRange 3 4) (event.Restart (record { 0 = restarted number })) [] node (All-nil (IsInRange 3 4)))

range-round : (n number : ℕ) (at : Standing) → n ≤ 500000 → number ≤ n → AreYoung number at → AreInRange (round n number at)
unfolding round
range-round n number at h k young =
    let P = IsInRange 3 4 in
    let stamps = range-turns n number at h k young in
    let agreed = all-if P (number % 8 == 0) rounds.agreement [] range-agreement (All-nil P) in
    let cut = all-if P (number % 64 == 0) (event.Cut None ∷ []) [] range-cut (All-nil P) in
    let again = all-if P (number % 256 == 0) (rounds.restart (restarted number)) [] (range-restart number) (All-nil P) in
    let first = rounds.turns n at nodes in
    let second = rounds.every 8 number rounds.agreement in
    let third = rounds.every 64 number (event.Cut None ∷ []) in
    let fourth = rounds.every 256 number (rounds.restart (restarted number)) in
    All-append P (first ++ second ++ third) fourth (All-append P (first ++ second) third (All-append P first second stamps agreed) cut) again

range-rounds : (n most number : ℕ) (at : Standing) → n ≤ 500000 → number + most ≤ n + 1 → AreYoung number at → AreInRange (rounds.rounds n most number at)
unfolding rounds.rounds
range-rounds n zero number at h k young = All-nil (IsInRange 3 4)
range-rounds n (suc most) number at h k young =
    let rest = rounds.rounds n most (number + 1) (after_round n number at) in
    all-if (IsInRange 3 4) (is_going n at) (round n number at ++ rest) []
    (All-append (IsInRange 3 4) (round n number at) rest (range-round n number at h (omega arith) young) (range-rounds n most (number + 1) (after_round n number at) h (omega arith) (young-next n number at young)))
    (All-nil (IsInRange 3 4))

pub in-range : (seed n : ℕ) → n ≤ 500000 → AreInRange (gen_events seed n)
unfolding gen_events
in-range seed n h =
    let P = IsInRange 3 4 in
    let played = rounds.rounds n n 1 (opening seed) in
    All-append P (played ++ rounds.agreement) (event.Cut None ∷ []) (All-append P played rounds.agreement (range-rounds n n 1 (opening seed) h (omega arith) (young-opening seed)) range-agreement) range-cut
