-- Pieces by where they begin.
use Rattle.std.specs.Prelude.{ℕ, ◌<◌, ◌==◌, Bool, List, AllPairs, map}
use Rattle.std.specs.List.{list_any}
use Rattle.kin_ids.specs.declared.ops.Piece.{Piece}

-- whether a piece begins at the position
abbrev pub begins : ℕ → List Piece → Bool
begins at ps = list_any (λ (p : Piece). p.stamp.from == at) ps

-- each begins before the next, so no two begin at one position
abbrev pub IsAscending : List Piece → Type 0
IsAscending ps = AllPairs (λ (p q : Piece). p.stamp.from < q.stamp.from) ps

-- the entries of a map from where a piece begins to the piece
abbrev pub keyed : List Piece → List (ℕ × Piece)
keyed ps = map (λ (p : Piece). (p.stamp.from, p)) ps
