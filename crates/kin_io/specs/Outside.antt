-- What a shelf gives and a sink takes, and why a call failed.
use Rattle.std.specs.Prelude.{◌≡◌, ◌+◌, ◌-◌, ◌==◌, ◌<◌, ◌≤◌, ◌^◌, ◌++◌, ◌↔◌, ℕ, Bool, false, List, Option, option_map, IfSome, Result, OnOk, OnErr, min, length, take, drop, if◌then◌else◌}

-- the bytes grew by these, where they are told
abbrev pub Grew : Option (List ℕ) → Option (List ℕ) → List ℕ → Type 0
Grew old new bytes = new ≡ option_map (λ b. b ++ bytes) old

-- the bytes grew by the first n of these
abbrev pub GrewBy : Option (List ℕ) → Option (List ℕ) → List ℕ → ℕ → Type 0
GrewBy old new bytes n = (n ≤ length bytes) × Grew old new (take n bytes)

-- the bytes grew by a prefix of these
abbrev pub GrewBySome : Option (List ℕ) → Option (List ℕ) → List ℕ → Type 0
GrewBySome old new bytes = (n : ℕ) × (n ≤ length bytes) × Grew old new (take n bytes)

-- whether all is flushed once n more bytes were taken: a byte ends it
abbrev pub flushed_after : ℕ → Option Bool → Option Bool
flushed_after n was = if n == 0 then was else option_map (λ _. false) was

-- the same once a prefix of these bytes was taken
abbrev pub FlushedAfterSome : Option Bool → Option Bool → List ℕ → Type 0
FlushedAfterSome was now bytes = (n : ℕ) × (n ≤ length bytes) × (now ≡ flushed_after n was)

-- a count of faults rose: by one at least, or it stands at 2^64 - 1
abbrev pub Rose : ℕ → ℕ → Type 0
Rose before now = min (before + 1) (2 ^ 64 - 1) ≤ now

-- the count never falls, a failure comes only where it rose, and it rises only where there is one
pub record HasCause {T E : Type 0} (before now : ℕ) (result : Result T E) : Type 0 where
  pub later : before ≤ now
  pub failed : OnErr result (Rose before now)
  pub calm : OnOk result (now ≡ before)

-- the front of the buffer has n bytes of the file from a place on; where the buffer isn't empty, n is 0 exactly at the file's end
abbrev pub ReadsFile : List ℕ → ℕ → ℕ → List ℕ → List ℕ → Type 0
ReadsFile file at n old new = (new ≡ take n (drop at file) ++ drop n old) × (0 < length old → (n ≡ 0) ↔ (length file ≤ at))

-- at most the buffer is filled, and so with bytes of the file, where the shelf tells them
abbrev pub ReadsAt : Option (List ℕ) → ℕ → ℕ → List ℕ → List ℕ → Type 0
ReadsAt content at n old new = (n ≤ length old) × IfSome content (λ file. ReadsFile file at n old new)

-- how many bytes of a file a read from a place on gives, at most so many and at most what fits
abbrev pub read_length : ℕ → List ℕ → ℕ → ℕ → ℕ
read_length most file at room = min most (min (length file - at) room)
