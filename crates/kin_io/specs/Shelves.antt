-- A shelf in memory.
use Rattle.std.specs.Prelude.{◌≡◌, ℕ, true, false, List, Option, Some, option_map, IfSome, is_some, if◌then◌else◌}
use Rattle.std.specs.Str.{bytes_eq}
use Rattle.std.specs.Option.{option_map_or}
use Rattle.std.specs.BTreeMap.{get_by_text}
use Rattle.kin_io.specs.Outside.{read_length}
use Rattle.kin_io.specs.declared.plans.CallPlan.{CallPlan}
use Rattle.kin_io.specs.declared.memory_shelves.MemShelf.{MemShelf}

-- the bytes of a name, where it is there
abbrev pub kept_bytes : MemShelf → List ℕ → Option (List ℕ)
kept_bytes s name = option_map (λ f. f.bytes.items) (get_by_text s.files name)

-- how often a name failed; the names that aren't there share one count
abbrev pub kept_faults : MemShelf → List ℕ → ℕ
kept_faults s name = option_map_or (λ f. f.faults) (get_by_text s.files name) s.missing

-- the most bytes of one read
abbrev pub most_bytes : MemShelf → ℕ
most_bytes s = s.step

-- the calls that were made, and those that are to fail
abbrev pub shelf_plan : MemShelf → CallPlan
shelf_plan s = s.plan

-- every name has the bytes that it had
abbrev pub SameBytes : MemShelf → MemShelf → Type 0
SameBytes old new = (name : List ℕ) → kept_bytes new name ≡ kept_bytes old name

-- every name has the count that it had
abbrev pub SameFaults : MemShelf → MemShelf → Type 0
SameFaults old new = (name : List ℕ) → kept_faults new name ≡ kept_faults old name

-- a file that is there, under another name, has the count that it had
abbrev pub SameFaultsBut : List ℕ → MemShelf → MemShelf → Type 0
SameFaultsBut name old new =
    (other : List ℕ) → bytes_eq name other ≡ false → is_some (kept_bytes old other) ≡ true → kept_faults new other ≡ kept_faults old other

-- this name has these bytes, and every other name what it had
abbrev pub HasFile : List ℕ → List ℕ → MemShelf → MemShelf → Type 0
HasFile name bytes old new = (n : List ℕ) → kept_bytes new n ≡ (if bytes_eq name n then Some bytes else kept_bytes old n)

-- a read gives as much of the file as fits, and at most so many bytes
abbrev pub GivesWhatFits : MemShelf → List ℕ → ℕ → ℕ → ℕ → Type 0
GivesWhatFits s name at room n = IfSome (kept_bytes s name) (λ file. n ≡ read_length (most_bytes s) file at room)
