-- One partition's store that is written, and the one that was frozen last.
use Rattle.std.specs.Prelude.{ℕ, ◌≡◌, ◌<◌, ◌^◌, List, [], ◌∷◌, ◌++◌, All}
use Rattle.kin_ids.specs.declared.ids.User.{User}
use Rattle.kin_ids.specs.declared.ops.Numbered.{Numbered}
use Rattle.kin_ids.specs.declared.ops.Piece.{Piece}
use Rattle.kin_ids.specs.Operations.{op_part}
use Rattle.kin_ids.specs.Parts.{PartView}
use Rattle.kin_graph.specs.Changes.{kept, Precedes}
use Rattle.kin_graph.specs.State.{PartState, after, view_of}
use Rattle.kin_graph.specs.Touches.{TouchedLists, IsTouched}

-- A partition's store as it is, and as it was frozen last.
pub record BlocksView : Type 0 where
  pub latest : PartState
  pub frozen : PartState

-- a store that was frozen just now
abbrev pub fresh : PartState → BlocksView
fresh s = record { latest = s; frozen = s }

-- the pieces of runs, one run after the other
abbrev pub pieces_of : List (List Piece) → List Piece
pieces_of [] = []
pieces_of (xs ∷ rest) = xs ++ pieces_of rest

-- what pieces of an epoch do to a part, one after the other
abbrev pub pieces_applied : ℕ → PartView → List Piece → PartView
pieces_applied e v [] = v
pieces_applied e v (x ∷ xs) = pieces_applied e (after e x v) xs

-- a piece is one of the store's partition
pub record IsOfStore (s : PartState) (x : Piece) : Type 0 where
  pub part : x.part.0 ≡ s.part
  pub home : All (λ (o : Numbered). op_part s.parts o.op ≡ s.part) x.ops

-- a store may take these pieces: they are its partition's, and nobody is mentioned too often
pub record MayTake (e : ℕ) (s : PartState) (xs : List Piece) : Type 0 where
  pub of_store : All (IsOfStore s) xs
  pub said : (u : User) → (pieces_applied e (view_of s) xs).said u < 2 ^ 64

-- one partition's store is written on: it stays in place, and every key of its lists stays where it stands
pub record GoesOn (old new : PartState) : Type 0 where
  pub part : new.part ≡ old.part
  pub parts : new.parts ≡ old.parts
  pub stays : Precedes (kept old) (kept new)

-- what isn't noted as touched is as it was frozen
pub record IsWriter (v : BlocksView) (touched : TouchedLists) : Type 0 where
  pub goes : GoesOn v.frozen v.latest
  pub only : IsTouched touched (view_of v.frozen) (view_of v.latest)
