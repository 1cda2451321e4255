-- The lines of a text.
use Rattle.std.specs.Prelude.{ℕ, ◌≤◌, ◌-◌, List, length, take, drop}
pub use Rattle.std.specs.Str.Lines.{lines}
use Rattle.kin_line.specs.declared.spans.Span.{Span}

-- The lines of a text are std's `lines`: what stands before each LF, without a CR at its end, and what stands after the last LF, where that isn't empty.

-- a span lies within a text
pub record IsWithin (text : List ℕ) (s : Span) : Type 0 where
  pub ordered : s.from ≤ s.to
  pub ends : s.to ≤ length text

-- the bytes of a span
abbrev pub text_at : List ℕ → Span → List ℕ
text_at text s = take (s.to - s.from) (drop s.from text)
