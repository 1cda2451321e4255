-- Parts of a list that pass or fail a test.
use Rattle.std.proofs.Common.{rules, arith, ◌≡◌, ◌∙◌, ◌<◌, ◌==◌, ◌||◌, ℕ, zero, suc, List, [], ◌∷◌, length, get_or, cond, codes, Bool, true, false, refl, sym, ap, Option, Some}
use Rattle.std.specs.List.{list_all, list_any}
use Rattle.std.specs.Borrow.{Bor}
use Rattle.std.proofs.lemmas.Bool.{true≢false}
use Rattle.std.proofs.lemmas.List.{get_or-map, length-map}
use Rattle.std.proofs.lemmas.List.Folds.{list_all_at}
use Rattle.clap.specs.Walk.{texts}
use Rattle.kin_words.specs.Items.{Text}
use Rattle.kin_words.specs.Values.{is_filled}

-- a part that fails
pub refused : (P : Text → Bool) (parts : List (Bor Text)) (i : ℕ) (d : Bor Text) → i < length parts → P (get_or parts i d).now ≡ false → list_all P (texts parts) ≡ false
refused P parts i d lt no-pass =
    let same = length-map parts (λ s. s.now) in
    list_all_at P (texts parts) i d.now (omega (arith, same, lt)) (ap P (get_or-map (λ s. s.now) parts i d d.now lt) ∙ no-pass)

-- a part that passes
pub accepted : (P : Text → Bool) (parts : List (Bor Text)) (i : ℕ) (d : Bor Text) → i < length parts → P (get_or parts i d).now ≡ true → list_any P (texts parts) ≡ true
accepted P [] i d lt pass = absurd (omega arith)
accepted P (x ∷ xs) zero d lt pass = rw pass refl
accepted P (x ∷ xs) (suc i) d lt pass = go (P x.now) (accepted P xs i d (omega arith) pass)
  where
    go : (b : Bool) → list_any P (texts xs) ≡ true → (b || list_any P (texts xs)) ≡ true
    go true h = refl
    go false h = h

pub unfilled : (t : Text) (b : Bool) → b ≡ (length t == 0) → b ≡ true → is_filled t ≡ false
unfilled [] b is empty = refl
unfilled (x ∷ xs) b is empty = let some : (length (x ∷ xs) == 0) ≡ false = search rules in absurd (true≢false (sym empty ∙ is ∙ some))

-- what a flag reads
pub flag_told : (b r : Bool) (o : Option Text) → o ≡ Some (cond b (codes "true") (codes "false")) → (o ≡ Some (codes "true") → r ≡ true) → (o ≡ Some (codes "false") → r ≡ false) → r ≡ b
flag_told true r o is set unset = set is
flag_told false r o is set unset = unset is
