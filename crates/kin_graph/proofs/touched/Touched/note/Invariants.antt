use Rattle.std.proofs.Common.{take}
use Rattle.kin_graph.specs.Touches.{KeepsNotes, HasNoted}
use Rattle.kin_graph.proofs.touched.Touched.note.Given as goal

-- what was noted still is, and so are the operations so far
abbrev pub invariant-loop-numbered : goal.invariant-loop-numbered
invariant-loop-numbered l = record {
  kept : KeepsNotes l.fn.self l.self;
  noted : HasNoted (take l.numbered-index l.ops) l.self;
}
