use Rattle.std.proofs.Common.{take}
use Rattle.kin_line.specs.Lines.{lines}
use Rattle.kin_script.proofs.Scripts.{AreRead}
use Rattle.kin_script.proofs.schedules.read_lines.Given as goal

abbrev pub invariant-loop-index : goal.invariant-loop-index
invariant-loop-index l = AreRead l.nodes l.parts (take l.index (lines l.bytes)) l.script.items
