-- Lines of generated records are short, and all their bytes but the LF are ordinary.
use Rattle.std.proofs.Common.{ℕ, zero, suc, ◌≡◌, ◌≢◌, ◌+◌, ◌-◌, ◌*◌, ◌/◌, ◌%◌, ◌^◌, ◌<◌, ◌≤◌, ◌++◌, Bool, true, false, [], ◌∷◌, All, length, refl, arith, length-append}
use Rattle.std.specs.Prelude.{◌==◌, nat_lt, if◌then◌else◌, codes}
use Rattle.std.specs.Fmt.{decimal}
use Rattle.std.proofs.lemmas.Bool.Decides.{nat_tests}
use Rattle.std.proofs.lemmas.Fmt.{length-decimal-le, decimal_by_steps}
use Rattle.std.proofs.lemmas.List.Elements.{All-append, All-cons, All-nil}
use Rattle.kin_gen.specs.Draws.{State, draw, after}
use Rattle.kin_gen.specs.Feeds.{Text, user, other, item, items, edge, item_count, tweet, record_text, line}

-- a byte past the quote and of ASCII: no line ends at it, and csv takes it as it stands
abbrev pub IsOrdinary : ℕ → Type 0
IsOrdinary b = (34 < b) × (b < 128)

abbrev pub IsPlain : Text → Type 0
IsPlain text = All IsOrdinary text

-- a text of at most so many bytes, all of them ordinary
pub record IsPiece (most : ℕ) (text : Text) : Type 0 where
  pub short : length text ≤ most
  pub plain : IsPlain text

piece-append : (a b : ℕ) (s t : Text) → IsPiece a s → IsPiece b t → IsPiece (a + b) (s ++ t)
piece-append a b s t h k =
    let one = h.short in
    let two = k.short in
    let both = length-append s t in
    record { short = omega arith; plain = All-append IsOrdinary s t h.plain k.plain }

piece-more : (a b : ℕ) (t : Text) → a ≤ b → IsPiece a t → IsPiece b t
piece-more a b t h k = let short = k.short in record { short = omega arith; plain = k.plain }

piece-if : (most : ℕ) (b : Bool) (s t : Text) → IsPiece most s → IsPiece most t → IsPiece most (if b then s else t)
piece-if most true s t h k = h
piece-if most false s t h k = k

piece-none : IsPiece 0 []
piece-none = record { short = omega arith; plain = All-nil _ }

piece-byte : (b : ℕ) → IsOrdinary b → IsPiece 1 (b ∷ [])
piece-byte b h = record { short = omega arith; plain = All-cons IsOrdinary b [] h (All-nil IsOrdinary) }

piece-two : (a b : ℕ) → IsOrdinary a → IsOrdinary b → IsPiece 2 (a ∷ b ∷ [])
piece-two a b h k = piece-append 1 1 (a ∷ []) (b ∷ []) (piece-byte a h) (piece-byte b k)

digit-plain : (d : ℕ) → d < 10 → IsPlain ((48 + d) ∷ [])
digit-plain d h = All-cons IsOrdinary (48 + d) [] (omega arith, omega arith) (All-nil IsOrdinary)

decimal-plain : (n : ℕ) → n < 2 ^ 64 → IsPlain (decimal n)
decimal-plain = decimal_by_steps (λ _ ds. IsPlain ds) (λ m h. digit-plain m h) (λ m ds _ h. All-append IsOrdinary ds ((48 + m % 10) ∷ []) h (digit-plain (m % 10) (omega arith)))

piece-decimal : (n : ℕ) → n < 1000000 → IsPiece 6 (decimal n)
piece-decimal n h = record { short = length-decimal-le 6 n (omega arith) h (omega arith); plain = decimal-plain n (omega arith) }

-- users of a job
abbrev pub AreFew : ℕ → Type 0
AreFew users = (2 ≤ users) × (users ≤ 125002)

user-small : (users a : ℕ) → AreFew users → a % users < 1000000
user-small users a h = let some = h.0 in let few = h.1 in omega arith

other-choice : (b : Bool) (m u users : ℕ) → nat_lt m u ≡ b → m + 1 < users → ((if b then m else m + 1) < users) × ((if b then m else m + 1) ≢ u)
other-choice true m u users e h = let less : m < u = grind (arith, nat_tests) in (omega arith, λ same. omega arith)
other-choice false m u users e h = let more : u ≤ m = grind (arith, nat_tests) in (h, λ same. omega arith)

-- the other user of an edge is another one
pub others : (users u b : ℕ) → 2 ≤ users → (other users u b < users) × (other users u b ≢ u)
others users u b h = other-choice (nat_lt (b % (users - 1)) u) (b % (users - 1)) u users refl (let some : 0 < users - 1 = omega arith in omega arith)

other-small : (users u b : ℕ) → AreFew users → other users u b < 1000000
other-small users u b h = let few = h.1 in let less = (others users u b h.0).0 in omega arith

piece-item : (users c : ℕ) → AreFew users → IsPiece 8 (item users c)
piece-item users c h =
    piece-if 8 (c % 2 == 0) (codes "@" ++ decimal (c / 2 % users)) (codes "#t" ++ decimal (c / 2 % 50))
    (piece-more 7 8 _ (omega arith) (piece-append 1 6 (codes "@") (decimal (c / 2 % users)) (piece-byte 64 (omega arith, omega arith)) (piece-decimal (c / 2 % users) (user-small users (c / 2) h))))
    (piece-append 2 6 (codes "#t") (decimal (c / 2 % 50)) (piece-two 35 116 (omega arith, omega arith) (omega arith, omega arith)) (piece-decimal (c / 2 % 50) (omega arith)))

piece-items : (users count : ℕ) (s : State) → AreFew users → IsPiece (9 * count) (items users count s)
unfolding items
piece-items users zero s h = piece-none
piece-items users (suc count) s h =
    let first = piece-append 1 8 (codes ",") (item users (draw s)) (piece-byte 44 (omega arith, omega arith)) (piece-item users (draw s) h) in
    let rest = piece-items users count (after s) h in
    piece-more (9 + 9 * count) (9 * suc count) _ (omega arith) (piece-append 9 (9 * count) (codes "," ++ item users (draw s)) (items users count (after s)) first rest)

piece-edge : (kind : Text) (users u b : ℕ) → AreFew users → u < 1000000 → IsPiece 2 kind → IsPiece 15 (edge kind users u b)
piece-edge kind users u b h k p =
    piece-append 9 6 (kind ++ decimal u ++ codes ",") (decimal (other users u b))
    (piece-append 8 1 (kind ++ decimal u) (codes ",") (piece-append 2 6 kind (decimal u) p (piece-decimal u k)) (piece-byte 44 (omega arith, omega arith)))
    (piece-decimal (other users u b) (other-small users u b h))

piece-record : (users a b : ℕ) (s : State) → AreFew users → IsPiece 35 (record_text users a b s)
unfolding record_text
piece-record users a b s h =
    let u = user users a in
    let small = user-small users (a / 16) h in
    let follow = piece-more 15 35 _ (omega arith) (piece-edge (codes "f,") users u b h small (piece-two 102 44 (omega arith, omega arith) (omega arith, omega arith))) in
    let unfollow = piece-more 15 35 _ (omega arith) (piece-edge (codes "x,") users u b h small (piece-two 120 44 (omega arith, omega arith) (omega arith, omega arith))) in
    let tags = items users (item_count b) s in
    let head = piece-append 2 6 (codes "t,") (decimal u) (piece-two 116 44 (omega arith, omega arith) (omega arith, omega arith)) (piece-decimal u small) in
    let tweet = piece-more (8 + 9 * item_count b) 35 _ (omega arith) (piece-append 8 (9 * item_count b) (codes "t," ++ decimal u) tags head (piece-items users (item_count b) s h)) in
    let bad = piece-more 1 35 _ (omega arith) (piece-byte 63 (omega arith, omega arith)) in
    piece-if 35 (nat_lt (a % 16) 9) (edge (codes "f,") users u b) _ follow
    (piece-if 35 (a % 16 == 9) (edge (codes "x,") users u b) _ unfollow
    (piece-if 35 (nat_lt (a % 16) 15) (codes "t," ++ decimal u ++ tags) (codes "?") tweet bad))

filled-if : (b : Bool) (s t : Text) → 0 < length s → 0 < length t → 0 < length (if b then s else t)
filled-if true s t h k = h
filled-if false s t h k = k

filled-record : (users a b : ℕ) (s : State) → 0 < length (record_text users a b s)
unfolding record_text
filled-record users a b s =
    let u = user users a in
    filled-if (nat_lt (a % 16) 9) (edge (codes "f,") users u b) _ (omega arith)
    (filled-if (a % 16 == 9) (edge (codes "x,") users u b) _ (omega arith)
    (filled-if (nat_lt (a % 16) 15) (tweet users u (item_count b) s) (codes "?") (omega arith) (omega arith)))

-- a line: 1 to 35 bytes, and its LF
pub record IsEnded (text : Text) : Type 0 where
  pub body : Text
  pub piece : IsPiece 35 body
  pub some : 0 < length body
  pub whole : text ≡ body ++ 10 ∷ []

pub line-ended : (users : ℕ) (s : State) → AreFew users → IsEnded (line users s)
unfolding line
line-ended users s h = record {
  body = record_text users (draw s) (draw (after s)) (after (after s));
  piece = piece-record users (draw s) (draw (after s)) (after (after s)) h;
  some = filled-record users (draw s) (draw (after s)) (after (after s));
  whole = refl;
}
