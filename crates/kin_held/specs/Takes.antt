-- What taking a piece answers, and what it leaves.
use Rattle.std.specs.Prelude.{ℕ, ◌≡◌, ◌≢◌, ◌<◌, ◌⊎◌, ◌||◌, ◌==◌, nat_le, nat_lt, if◌then◌else◌, Bool, true, false, List, [], ◌∷◌, ◌++◌, IsPermutation, slice_set}
use Rattle.kin_ids.specs.declared.ops.Piece.{Piece}
use Rattle.kin_ids.specs.Lines.{IsEnd, end_of, stamps_of, upto}
use Rattle.kin_held.specs.Early.{begins}
use Rattle.kin_held.specs.Chains.{ChainView, IsRun, chain_at, pieces_upto, pieces_past}
use Rattle.kin_held.specs.declared.answers.Taken.{Taken}
use Rattle.kin_held.specs.declared.answers.Taken.TheVariants.{Held, Early, Repeat, Stale, Adrift}

-- the piece ends within the chain, or an early one begins where it does
abbrev pub is_known : ChainView → Piece → Bool
is_known old p = nat_le p.stamp.to old.top || begins p.stamp.from old.early

-- the piece is early now, in its place among the others
pub record IsKeptEarly (old : ChainView) (p : Piece) (new : ChainView) : Type 0 where
  pub same : new ≡ record old { early = new.early }
  pub early : IsPermutation (p ∷ old.early) new.early

-- early pieces that follow each other from the old top have joined, and none that is left begins at the new one
pub record Joins (top : ℕ) (old joined new : List Piece) (to : ℕ) : Type 0 where
  pub run : IsRun top joined to
  pub split : IsPermutation old (joined ++ new)
  pub settled : begins to new ≡ false

-- the piece joins the chain, and after it each early one that begins at the top then reached
pub record IsJoined (old : ChainView) (p : Piece) (new : ChainView) : Type 0 where
  pub inc : new.inc ≡ old.inc
  pub floor : new.floor ≡ old.floor
  pub joined : List Piece
  pub held : new.held ≡ old.held ++ p ∷ joined
  pub joins : Joins p.stamp.to old.early joined new.early new.top

-- what a piece of the chain's incarnation answers and leaves
abbrev pub Places : ChainView → Piece → Taken → ChainView → Type 0
Places old p Repeat new = (is_known old p ≡ true) × (new ≡ old)
Places old p (Early at) new = (is_known old p ≡ false) × (p.stamp.from ≢ old.top) × (at ≡ old.top) × IsKeptEarly old p new
Places old p (Held at) new = (is_known old p ≡ false) × (p.stamp.from ≡ old.top) × (at ≡ new.top) × IsJoined old p new
Places old p (Stale c) new = ⊥
Places old p (Adrift b f t) new = ⊥

-- the chain under the later incarnation of a piece: what lies past its base is dropped, and so are the early pieces
abbrev pub entered : ChainView → Piece → ChainView
entered old p = record { inc = p.stamp.inc.0; floor = old.floor; top = p.base; held = pieces_upto p.base old.held; early = [] }

-- a position is the floor or the end of a held piece
abbrev pub IsPlace : ChainView → ℕ → Type 0
IsPlace c at = IsEnd c.floor (stamps_of c.held) at

-- the same as a test: the held pieces up to the position lead to it
abbrev pub is_place : ChainView → ℕ → Bool
is_place c at = end_of c.floor (upto at (stamps_of c.held)) == at

-- a piece of the kept incarnation, or one of a later incarnation that begins at a place of the chain
abbrev pub Enters : ChainView → Piece → Taken → ChainView → Type 0
Enters old p taken new = ((p.stamp.inc.0 ≡ old.inc) × Places old p taken new)
    ⊎ ((old.inc < p.stamp.inc.0) × IsPlace old p.base × Places (entered old p) p taken new)

-- Each answer with the case in which it comes, and what it leaves
abbrev pub Takes : ChainView → Piece → Taken → ChainView → Type 0
Takes old p (Stale c) new = (p.stamp.inc.0 < old.inc) × (c.0 ≡ old.inc) × (new ≡ old)
Takes old p (Adrift b f t) new =
    (old.inc < p.stamp.inc.0) × ¬ IsPlace old p.base × (b ≡ p.base) × (f ≡ old.floor) × (t ≡ old.top) × (new ≡ old)
Takes old p Repeat new = (p.stamp.inc.0 ≡ old.inc) × Places old p Repeat new
Takes old p (Early at) new = Enters old p (Early at) new
Takes old p (Held at) new = Enters old p (Held at) new

-- the answer to a piece of the chain's incarnation, by the top afterwards
abbrev pub placed_of : ChainView → Piece → ℕ → Taken
placed_of c p top = if is_known c p then Repeat else if p.stamp.from == c.top then Held top else Early c.top

-- The answer by the cases in their order: the piece's incarnation is over; it is a later one, which begins at no place of the
-- chain; the piece is known; it begins elsewhere than at the top; it joins.
abbrev pub taken_of : ChainView → Piece → ℕ → Taken
taken_of c p top =
    if nat_lt p.stamp.inc.0 c.inc then Stale (record { 0 = c.inc })
    else if nat_lt c.inc p.stamp.inc.0 then (if is_place c p.base then placed_of (entered c p) p top else Adrift p.base c.floor c.top)
    else placed_of c p top

-- the same at the chain of the piece's node, where the other chains stay
abbrev pub TakesAt : List ChainView → Piece → Taken → List ChainView → Type 0
TakesAt old p taken new =
    (c : ChainView) × Takes (chain_at old p.stamp.ingest.0) p taken c × (new ≡ slice_set old p.stamp.ingest.0 c)

-- the chain without its pieces up to a place, which is its floor then
abbrev pub chain_past : ChainView → ℕ → ChainView
chain_past c to = record c { floor = to; held = pieces_past to c.held }
