-- Cuts over agreed lines.
use Rattle.std.specs.Prelude.{ℕ, ◌<◌, ◌==◌, if◌then◌else◌, List, Option, Some, None, take}
use Rattle.kin_ids.specs.declared.stamps.Stamp.{Stamp}
use Rattle.kin_ids.specs.Lines.{past}
use Rattle.kin_ids.specs.Fair.{fair}

-- Where the next cut ends node i, by its agreed line and its last position: without a number at the agreed position, with a number
-- fairly from the last vector on.
abbrev pub next_at : ℕ → (ℕ → ℕ) → (ℕ → List Stamp) → (ℕ → ℕ) → Option ℕ → ℕ → ℕ
next_at nodes last lines agreed None i = agreed i
next_at nodes last lines agreed (Some n) i = fair last (λ j. past (last j) (lines j)) nodes n i

-- the vectors with one more, whose number this is
abbrev pub with_next : (ℕ → ℕ → ℕ) → ℕ → (ℕ → ℕ) → ℕ → ℕ → ℕ
with_next vectors number next k i = if k == number then next i else vectors k i

-- a transaction has records
abbrev pub HasRecords : Stamp → Type 0
HasRecords s = s.from < s.to

-- as many of a node's pending transactions as a cut may take: all without a number, and with a number so many, since each has a record
abbrev pub front_for : {A : Type 0} → Option ℕ → List A → List A
front_for None xs = xs
front_for (Some n) xs = take n xs
