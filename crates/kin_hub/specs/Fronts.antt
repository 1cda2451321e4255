-- What lists of stamps begin with alike.
use Rattle.std.specs.Prelude.{ℕ, ◌≡◌, ◌≤◌, if◌then◌else◌, Bool, List, [], ◌∷◌, All, take, length}
use Rattle.kin_ids.specs.declared.stamps.Stamp.{Stamp}
use Rattle.kin_ids.specs.declared.ops.Piece.{Piece}
use Rattle.kin_ids.specs.Lines.{same_stamp}

-- whether two pieces have one stamp
abbrev pub same_stamps : Piece × Piece → Bool
same_stamps x = same_stamp x.0.stamp x.1.stamp

-- the longest front of two lists
abbrev pub common : List Stamp → List Stamp → List Stamp
common [] ys = []
common (x ∷ xs) [] = []
common (x ∷ xs) (y ∷ ys) = if same_stamp x y then x ∷ common xs ys else []

-- the longest front of a list and these others
abbrev pub common_with : List Stamp → List (List Stamp) → List Stamp
common_with xs [] = xs
common_with xs (ys ∷ rest) = common_with (common xs ys) rest

-- the longest front of all the lists
abbrev pub common_of : List (List Stamp) → List Stamp
common_of [] = []
common_of (xs ∷ rest) = common_with xs rest

-- the list begins with these
abbrev pub IsFront : List Stamp → List Stamp → Type 0
IsFront front xs = take (length front) xs ≡ front

-- every list begins with these stamps, which end at or before a position, and with no more that do
pub record IsLongestFront (to : ℕ) (lists : List (List Stamp)) (front : List Stamp) : Type 0 where
  pub shared : All (λ (xs : List Stamp). IsFront front xs) lists
  pub within : All (λ (s : Stamp). s.to ≤ to) front
  pub longest : (other : List Stamp) → All (λ (xs : List Stamp). IsFront other xs) lists → All (λ (s : Stamp). s.to ≤ to) other
      → length other ≤ length front
