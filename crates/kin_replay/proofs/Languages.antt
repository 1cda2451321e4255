-- Schedules, and what is outside their language.
use Rattle.std.proofs.Common.{◌≡◌, ℕ, zero, suc, ◌+◌, ◌<◌, ◌≤◌, ◌⊎◌, get_or, leb, cond, not, Bool, true, false, inl, inr, List, [], ◌∷◌, length, map, filter, take, drop, refl, sym, ap, subst, ◌∙◌, arith}
use Rattle.std.specs.List.{All}
use Rattle.std.proofs.lemmas.Bool.Decides.{leb_tells}
use Rattle.std.proofs.lemmas.List.{get_or-take, length-take-le}
use Rattle.std.proofs.lemmas.List.Elements.{All-head, All-tail}
use Rattle.kin_line.specs.Lines.{lines}
use Rattle.kin_script.specs.declared.events.Line.{Line}
use Rattle.kin_script.specs.Schedules.{IsInRange, IsInLanguage, IsScript, IsFirstOutside, is_silent, numbered, written}
use Rattle.kin_replay.specs.Files.{Text}
use Rattle.kin_replay.proofs.Loads.{no-less}

equal : (a b : ℕ) → (a < b → ⊥) → (b < a → ⊥) → a ≡ b
equal a b less more = by-order (leb_tells a b) (leb_tells b a)
  where
    by-order : ((leb a b ≡ true) × (a ≤ b)) ⊎ ((leb a b ≡ false) × (b < a)) → ((leb b a ≡ true) × (b ≤ a)) ⊎ ((leb b a ≡ false) × (a < b)) → a ≡ b
    by-order (inr (e, lt)) o = absurd (more lt)
    by-order (inl l) (inr (e, lt)) = absurd (less lt)
    by-order (inl (e, le)) (inl (f, ge)) = omega (arith, le, ge)

module _ (nodes parts : ℕ) where
  abbrev AreInside : ℕ → List Text → Type 0
  AreInside n ls = (script : List Line) → map written script ≡ filter (λ line. not (is_silent line.1)) (numbered n ls) → All (λ (line : Line). IsInRange nodes parts line.event) script
      → (i : ℕ) (d : Text) → i < length ls → IsInLanguage nodes parts (get_or ls i d)

  one-inside : (n : ℕ) (l : Text) (ls : List Text) → AreInside (n + 1) ls → (t : Bool) → is_silent l ≡ t → (script : List Line)
      → map written script ≡ cond (not t) ((n, l) ∷ filter (λ line. not (is_silent line.1)) (numbered (n + 1) ls)) (filter (λ line. not (is_silent line.1)) (numbered (n + 1) ls))
      → All (λ (line : Line). IsInRange nodes parts line.event) script → (i : ℕ) (d : Text) → i < suc (length ls) → IsInLanguage nodes parts (get_or (l ∷ ls) i d)
  one-inside n l ls next true silent script same range zero d lt = inl silent
  one-inside n l ls next true silent script same range (suc i) d lt = next script same range i d (omega (arith, lt))
  one-inside n l ls next false silent [] same range i d lt =
      let none = ap (λ (xs : List (ℕ × Text)). length xs) same in
      absurd (no-less (length (filter (λ (line : ℕ × Text). not (is_silent line.1)) (numbered (n + 1) ls))) (omega (arith, none)))
  one-inside n l ls next false silent (x ∷ xs) same range zero d lt =
      inr (x.event, All-head (λ (line : Line). IsInRange nodes parts line.event) x xs range, ap (λ (ys : List (ℕ × Text)). (get_or ys 0 (0, [])).1) same)
  one-inside n l ls next false silent (x ∷ xs) same range (suc i) d lt =
      next xs (ap (λ (ys : List (ℕ × Text)). drop 1 ys) same) (All-tail (λ (line : Line). IsInRange nodes parts line.event) x xs range) i d (omega (arith, lt))

  all-inside : (n : ℕ) (ls : List Text) → AreInside n ls
  all-inside n [] script same range i d lt = absurd (no-less i lt)
  all-inside n (l ∷ ls) script same range i d lt = one-inside n l ls (all-inside (n + 1) ls) (is_silent l) refl script same range i d lt

  -- no line of a script is outside
  pub none-outside : (bytes : List ℕ) (script : List Line) (n : ℕ) → IsScript nodes parts bytes script → IsFirstOutside nodes parts bytes n → ⊥
  none-outside bytes script n s f = f.outside [] (all-inside 1 (lines bytes) script s.texts s.range f.before [] f.inside)

  earlier : (bytes : List ℕ) (n m : ℕ) (a : IsFirstOutside nodes parts bytes n) (b : IsFirstOutside nodes parts bytes m) → a.before < b.before → ⊥
  earlier bytes n m a b lt =
      let ls = lines bytes in
      let inside = b.inside in
      let all : b.before ≤ length ls = omega (arith, inside) in
      let within : a.before < length (take b.before ls) = rw (length-take-le b.before ls all) lt in
      a.outside [] (subst (IsInLanguage nodes parts) (get_or-take b.before ls a.before [] lt) (b.others a.before [] within))

  -- one line is the first outside
  pub first-one : (bytes : List ℕ) (n m : ℕ) → IsFirstOutside nodes parts bytes n → IsFirstOutside nodes parts bytes m → n ≡ m
  first-one bytes n m a b = a.number_is ∙ ap (λ i. i + 1) (equal a.before b.before (earlier bytes n m a b) (earlier bytes m n b a)) ∙ sym b.number_is
