use Rattle.std.proofs.Common.{arith}
use Rattle.kin_line.specs.Lines.{lines}
use Rattle.kin_replay.proofs.Loads.{script-few}
use Rattle.kin_replay.proofs.files.load_lines.Goals as goal

pub returns-in-Ok-clause-few : goal.returns-in-Ok-clause-few
returns-in-Ok-clause-few g c =
    let few = script-few c.in-Ok.script.items (lines c.as_slice.result.now) c.in-Ok.ensures.ok.texts in
    let within = c.in-Ok.ensures.few in
    omega (arith, few, within)
