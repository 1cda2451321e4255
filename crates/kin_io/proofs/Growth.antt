-- How what a sink took grows.
use Rattle.std.proofs.Common.{◌≡◌, ℕ, ◌+◌, ◌-◌, ◌≤◌, ◌==◌, ◌&&◌, Bool, true, false, List, [], ◌++◌, Option, Some, None, option_map, length, take, drop, refl, sym, ap, ap₂, ◌∙◌, append_assoc, arith, if◌then◌else◌}
use Rattle.std.proofs.lemmas.Bool.Decides.{nat_tests}
use Rattle.std.proofs.lemmas.List.{append-nil, length-append, length-drop, take_all, take-append-le}
use Rattle.std.proofs.Math.Seq.{take-append_seam, drop-append_seam, take-add}
use Rattle.kin_io.specs.Outside.{Grew, GrewBySome, flushed_after}

-- grown twice is grown by both
pub grew_more : (a b c : Option (List ℕ)) (xs ys : List ℕ) → Grew a b xs → Grew b c ys → Grew a c (xs ++ ys)
grew_more None b c xs ys p q = q ∙ ap (option_map (λ t. t ++ ys)) p
grew_more (Some o) b c xs ys p q = q ∙ (ap (option_map (λ t. t ++ ys)) p ∙ ap Some (append_assoc o xs ys))

-- what stayed grew by nothing
pub grew_none : (a : Option (List ℕ)) → Grew a a []
grew_none None = refl
grew_none (Some o) = ap Some (sym (append-nil o))

-- what is written so far is a prefix of the whole
pub front_grew : (a b : Option (List ℕ)) (sofar rest whole : List ℕ) → Grew a b sofar → sofar ++ rest ≡ whole → GrewBySome a b whole
front_grew a b sofar rest whole g e = (
  length sofar,
  omega (arith, length-append sofar rest, ap (λ (t : List ℕ). length t) e),
  g ∙ ap (λ (t : List ℕ). option_map (λ o. o ++ t) a) (sym (ap (take (length sofar)) (sym e) ∙ take-append_seam sofar rest)),
)

rest_all : (i : ℕ) (xs : List ℕ) → i ≤ length xs → take (length xs - i) (drop i xs) ≡ drop i xs
rest_all i xs h = let n : length xs - i ≡ length (drop i xs) = omega (arith, length-drop i xs) in rw n (take_all (length (drop i xs)) (drop i xs) (omega arith))

-- one more piece of the bytes
pub put_more : (a b c : Option (List ℕ)) (xs : List ℕ) (at n : ℕ) → at ≤ length xs → Grew a b (take at xs) → n ≤ length (take (length xs - at) (drop at xs))
    → Grew b c (take n (take (length xs - at) (drop at xs))) → (at + n ≤ length xs) × Grew a c (take (at + n) xs)
put_more a b c xs at n within p small q =
    let r = rest_all at xs within in
    let small' : n ≤ length (drop at xs) = rw r at small in
    let q' : Grew b c (take n (drop at xs)) = rw r at q in (
      omega (arith, length-drop at xs),
      rw (take-add at n xs) (grew_more a b c (take at xs) (take n (drop at xs)) p q'),
    )

-- what is written and a prefix of the next piece are a prefix of the whole
pub piece_grew : (a b c : Option (List ℕ)) (sofar text rest whole : List ℕ) → Grew a b sofar → GrewBySome b c text → sofar ++ (text ++ rest) ≡ whole → GrewBySome a c whole
piece_grew a b c sofar text rest whole p q e =
    let n = q.0 in
    let short : n ≤ length text = q.1 in
    let front : take (length sofar + n) (sofar ++ (text ++ rest)) ≡ sofar ++ take n text =
    take-add (length sofar) n (sofar ++ (text ++ rest)) ∙ ap₂ (λ (x y : List ℕ). x ++ take n y) (take-append_seam sofar (text ++ rest)) (drop-append_seam sofar (text ++ rest))
    ∙ ap (λ (x : List ℕ). sofar ++ x) (take-append-le n text rest short) in (
      length sofar + n,
      omega (arith, ap (λ (t : List ℕ). length t) e, length-append sofar (text ++ rest), length-append text rest),
      grew_more a b c sofar (take n text) p q.2 ∙ ap (λ (t : List ℕ). option_map (λ o. o ++ t) a) (sym front ∙ ap (take (length sofar + n)) e),
    )

abbrev no_longer : Option Bool → Option Bool
no_longer = option_map (λ _. false)

ended : (x y : Bool) (a : Option Bool) → (if y then (if x then a else no_longer a) else no_longer (if x then a else no_longer a)) ≡ (if x && y then a else no_longer a)
ended true true a = refl
ended true false a = refl
ended false true a = refl
ended false false None = refl
ended false false (Some b) = refl

sum_is_zero : (m n : ℕ) → ((m + n) == 0) ≡ ((m == 0) && (n == 0))
sum_is_zero m n = grind (arith, nat_tests)

-- a flush ends what the bytes before it left
pub flush_after : (n : ℕ) (a b c : Option Bool) → b ≡ flushed_after n a → c ≡ option_map (λ _. true) b → c ≡ option_map (λ _. true) a
flush_after n a b c p q = q ∙ ap (option_map (λ _. true)) p ∙ either (n == 0) a
  where
    either : (z : Bool) (o : Option Bool) → option_map (λ _. true) (if z then o else no_longer o) ≡ option_map (λ _. true) o
    either true o = refl
    either false None = refl
    either false (Some f) = refl

-- first m bytes and then n more are m + n bytes
pub flushed_more : (m n : ℕ) (a b c : Option Bool) → b ≡ flushed_after m a → c ≡ flushed_after n b → c ≡ flushed_after (m + n) a
flushed_more m n a b c p q = q ∙ ap (flushed_after n) p ∙ ended (m == 0) (n == 0) a ∙ ap (λ (z : Bool). if z then a else no_longer a) (sym (sum_is_zero m n))
