use Rattle.std.proofs.Common.{◌≡◌, List, take}
use Rattle.std.specs.List.{flat_map}
use Rattle.kin_rules.specs.declared.exposure_rules.UseK.{UseK}
use Rattle.kin_scores.specs.Planned.{IsRowWith}
use Rattle.kin_scores.proofs.turns.entries_with.Given as goal

abbrev pub invariant-loop-i : goal.invariant-loop-i
invariant-loop-i l = (next : List (List UseK)) → IsRowWith l.users l.u l.own l.rows next → l.entries.items ≡ flat_map (λ row. row) (take l.i next)
