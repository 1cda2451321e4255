-- A tag in place: its bytes, and then zeros.
use Rattle.std.specs.Prelude.{◌≡◌, ◌≤◌, ◌-◌, ◌++◌, ℕ, true, List, length, take, drop, replicate}
use Rattle.std.proofs.Common.{ap, ap₂, sym, ◌∙◌, arith}
use Rattle.std.proofs.lemmas.List.{take-append-drop, length-take}
use Rattle.kin_ids.specs.TagTexts.{is_tag}
use Rattle.kin_ids.specs.declared.tags.Tag.TheInside.{Inside}

-- 24 bytes, zeros past a length
pub record IsPadded (bytes : List ℕ) (len : ℕ) : Type 0 where
  pub long : length bytes ≡ 24
  pub short : len ≤ 24
  pub zeros : drop len bytes ≡ replicate (24 - len) 0

-- the bytes up to the length, of the form of a tag, and zeros past it
pub record HoldsTag (bytes : List ℕ) (len : ℕ) : Type 0 where
  pub padded : IsPadded bytes len
  pub form : is_tag (take len bytes) ≡ true

pub padded_back : (a : Inside) → IsPadded a.bytes a.len → record { bytes = take a.len a.bytes ++ replicate (24 - length (take a.len a.bytes)) 0; len = length (take a.len a.bytes) } ≡ a
padded_back a h =
    let pack : List ℕ → ℕ → Inside = λ b n. record { bytes = b; len = n } in
    let long : length (take a.len a.bytes) ≡ a.len = grind (arith, h.long, h.short, length-take a.len a.bytes) in
    ap₂ pack (ap (λ (n : ℕ). take a.len a.bytes ++ replicate (24 - n) 0) long ∙ ap (λ (t : List ℕ). take a.len a.bytes ++ t) (sym h.zeros) ∙ take-append-drop a.len a.bytes) long
