-- The first `=` of a text, place by place.
use Rattle.std.proofs.Common.{rules, arith, ◌≡◌, ◌∙◌, ◌<◌, ◌≤◌, ◌==◌, ◌+◌, cond, not, ℕ, [], ◌∷◌, drop, length, Bool, true, false, refl, ap, Some, None}
use Rattle.std.specs.Prelude.{slice_index}
use Rattle.std.proofs.lemmas.List.{drop_more, drop_all}
use Rattle.kin_words.specs.Items.{Text}
use Rattle.kin_words.specs.Formed.{after_equals, is_value_if_any, is_formed_name}

pub formed_some : (name : Text) → 0 < length name → is_formed_name name ≡ is_value_if_any (after_equals name)
formed_some [] lt = absurd (omega arith)
formed_some (b ∷ bs) lt = refl

pub other_byte : (name : Text) (at : ℕ) → at < length name → (slice_index name at == 61) ≡ false → after_equals (drop at name) ≡ after_equals (drop (at + 1) name)
other_byte name at lt e = ap after_equals (drop_more name at 0 lt) ∙ ap (λ c. cond c (Some (drop (at + 1) name)) (after_equals (drop (at + 1) name))) e

pub equals_byte : (name : Text) (at : ℕ) → at < length name → (slice_index name at == 61) ≡ true → after_equals (drop at name) ≡ Some (drop (at + 1) name)
equals_byte name at lt e = ap after_equals (drop_more name at 0 lt) ∙ ap (λ c. cond c (Some (drop (at + 1) name)) (after_equals (drop (at + 1) name))) e

pub no_byte : (name : Text) (at : ℕ) → length name ≤ at → after_equals (drop at name) ≡ None
no_byte name at past = ap after_equals (drop_all at name past)

-- without `=` a text is a name where it has a byte
pub formed_alone : (name : Text) → after_equals name ≡ None → (b : Bool) → b ≡ (length name == 0) → not b ≡ is_formed_name name
formed_alone [] e b is = rw is refl
formed_alone (x ∷ xs) e b is = let some : (length (x ∷ xs) == 0) ≡ false = search rules in rw (is, some, e) refl
