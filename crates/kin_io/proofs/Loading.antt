-- The bytes that a load has so far are the file's front.
use Rattle.std.proofs.Common.{◌≡◌, ℕ, ◌+◌, ◌-◌, ◌≤◌, List, ◌++◌, Option, Some, None, IfSome, length, take, drop, sym, ap, ◌∙◌, arith}
use Rattle.std.proofs.lemmas.List.{length-append, length-drop, length-take, take-append-le}
use Rattle.std.proofs.Math.Seq.{take-add, take-append_seam}
use Rattle.kin_io.specs.Outside.{ReadsFile}

-- these bytes are the front of the file, where the shelf tells it
abbrev pub IsFront : Option (List ℕ) → List ℕ → Type 0
IsFront content bytes = IfSome content (λ file. (bytes ≡ take (length bytes) file) × (length bytes ≤ length file))

front_more : (file bytes new old after rest : List ℕ) (n : ℕ) → bytes ≡ take (length bytes) file → length bytes ≤ length file
    → n ≤ length old → length after ≡ length old → after ≡ take n (drop (length bytes) file) ++ drop n old
    → new ≡ bytes ++ take n (after ++ rest) → (new ≡ take (length new) file) × (length new ≤ length file)
front_more file bytes new old after rest n front within small same reads grew =
    let at = length bytes in
    let piece = take n (drop at file) in
    let sum : length after ≡ length piece + length (drop n old) = ap (λ (t : List ℕ). length t) reads ∙ length-append piece (drop n old) in
    let long : length piece ≡ n = omega (arith, sum, same, small, length-drop n old) in
    let there : n ≤ length (drop at file) = omega (arith, long, length-take n (drop at file)) in
    let short : n ≤ length after = omega (arith, same, small) in
    let read : take n (after ++ rest) ≡ piece =
    take-append-le n after rest short ∙ ap (take n) reads ∙ ap (λ (k : ℕ). take k (piece ++ drop n old)) (sym long) ∙ take-append_seam piece (drop n old) in
    let whole : new ≡ take (at + n) file = grew ∙ ap (λ (t : List ℕ). bytes ++ t) read ∙ ap (λ (t : List ℕ). t ++ piece) front ∙ sym (take-add at n file) in
    let size : length new ≡ at + n = omega (arith, ap (λ (t : List ℕ). length t) grew, length-append bytes (take n (after ++ rest)), ap (λ (t : List ℕ). length t) read, long) in
    (whole ∙ ap (λ (k : ℕ). take k file) (sym size), omega (arith, size, there, length-drop at file))

-- a piece of at most m + 1 bytes goes at most one byte past the limit
pub loaded_few : (limit m n : ℕ) (bytes new old after : List ℕ) → new ≡ bytes ++ take n after → n ≤ length (take (m + 1) old) → m ≤ limit - length bytes
    → length bytes ≤ limit → length new ≤ limit + 1
loaded_few limit m n bytes new old after grew small most within =
    omega (arith, ap (λ (t : List ℕ). length t) grew, length-append bytes (take n after), length-take n after, length-take (m + 1) old, small, most, within)

pub loaded_more : (content : Option (List ℕ)) (bytes new old after rest : List ℕ) (n : ℕ) → IsFront content bytes
    → n ≤ length old → length after ≡ length old → IfSome content (λ file. ReadsFile file (length bytes) n old after)
    → new ≡ bytes ++ take n (after ++ rest) → IsFront content new
loaded_more None bytes new old after rest n front small same reads grew = front
loaded_more (Some file) bytes new old after rest n front small same reads grew = front_more file bytes new old after rest n front.0 front.1 small same reads.0 grew
