-- What a chain stands for, by what arrived. Its floor may be anywhere at or below its top.
use Rattle.std.specs.Prelude.{ℕ, ◌+◌, ◌≡◌, nat_le, nat_lt, ◌&&◌, if◌then◌else◌, List, [], ◌∷◌, ◌++◌}
use Rattle.kin_ids.specs.declared.ops.Piece.{Piece}
use Rattle.kin_ids.specs.declared.stamps.Stamp.{Stamp}
use Rattle.kin_ids.specs.Lines.{end_of, same_stamp, has, stamps_of, front_in, past, is_of}
use Rattle.kin_held.specs.Chains.{ChainView}
use Rattle.kin_held.specs.declared.answers.Taken.{Taken}
use Rattle.kin_held.specs.declared.answers.Taken.TheVariants.{Held, Early, Repeat}

-- how many pieces have the stamp
abbrev pub times : List Piece → Stamp → ℕ
times [] s = 0
times (p ∷ ps) s = (if same_stamp p.stamp s then 1 else 0) + times ps s

-- The chain of node i under incarnation c, whose base is `from` and whose stamps are `made`; `before` is the line up to that
-- base, and `at` the floor. Past the floor the chain holds the line before the base, and then the incarnation's stamps up to
-- the first that didn't arrive. It keeps the rest that arrived as early ones, each once.
pub record IsChainOf (i c from at : ℕ) (arrived before made : List Stamp) (chain : ChainView) : Type 0 where
  pub floor : chain.floor ≡ at
  pub inc : chain.inc ≡ c
  pub held : stamps_of chain.held ≡ past at (before ++ front_in arrived made)
  pub top : chain.top ≡ end_of from (front_in arrived made)
  pub early : (s : Stamp) → times chain.early s ≡ (if has arrived s && (is_of i c s && nat_le chain.top s.from) then 1 else 0)

-- what a delivery of a stamp of the kept incarnation answers, by what arrived before and by the top afterwards
abbrev pub answer_of : List Stamp → Stamp → ℕ → Taken
answer_of arrived s top = if has arrived s then Repeat else if nat_lt top s.to then Early top else Held top
