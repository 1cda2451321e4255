-- Cuts and commits over a history.
use Rattle.std.specs.Prelude.{ℕ, ◌+◌, ◌==◌, nat_lt, nat_le, Bool, true, false, ◌&&◌, if◌then◌else◌, List, [], ◌∷◌, Option, Some, None}
use Rattle.kin_ids.specs.declared.stamps.Stamp.{Stamp}
use Rattle.kin_ids.specs.Lines.{upto, past, first_without}
use Rattle.kin_ids.specs.Fair.{fair}
use Rattle.kin_script.specs.declared.events.Event.{Event}
use Rattle.kin_script.specs.declared.events.Event.TheVariants as event
use Rattle.kin_history.specs.Setting.{Setting, nodes}
use Rattle.kin_history.specs.Lines.{line, agreed, has_reported}

abbrev pub is_none : Option ℕ → Bool
is_none None = true
is_none (Some n) = false

-- where a cut ends the epoch: at the agreed positions, or with a number fairly from the last vector on
abbrev pub cut_at : ℕ → (ℕ → ℕ) → (ℕ → List Stamp) → (ℕ → ℕ) → Option ℕ → ℕ → ℕ
cut_at nodes prev agreed_lines agreed None i = agreed i
cut_at nodes prev agreed_lines agreed (Some n) i = fair prev (λ j. past (prev j) (agreed_lines j)) nodes n i

module _ (set : Setting) where
  -- the least partition that never reported
  abbrev pub unreported_part : List Event → Option ℕ
  unreported_part h = first_without 0 set.parts (λ p. has_reported set h p)

  -- how many cuts were made
  abbrev pub cuts : List Event → ℕ
  cuts [] = 0
  cuts (event.Cut n ∷ h) = if is_none (unreported_part h) then cuts h + 1 else cuts h
  cuts (_ ∷ h) = cuts h

  -- the position of a node in vector k; vector 0 is all zeros
  abbrev pub vector : List Event → ℕ → ℕ → ℕ
  vector [] k i = 0
  vector (event.Cut n ∷ h) k i =
      if is_none (unreported_part h) && k == cuts h + 1
      then cut_at (nodes set) (λ j. vector h (cuts h) j) (λ j. upto (agreed set h j) (line set h j)) (λ j. agreed set h j) n i
      else vector h k i
  vector (_ ∷ h) k i = vector h k i

  -- how many cuts a partition has committed
  abbrev pub committed : List Event → ℕ → ℕ
  committed [] p = 0
  committed (event.Commit q ∷ h) p = if q.0 == p && nat_lt (committed h p) (cuts h) then committed h p + 1 else committed h p
  committed (_ ∷ h) p = committed h p

  -- the least partition that hasn't committed epoch k
  abbrev pub uncommitted_part : List Event → ℕ → Option ℕ
  uncommitted_part h k = first_without 0 set.parts (λ p. nat_le k (committed h p))
