use Rattle.std.proofs.Common.{◌≡◌, List, take}
use Rattle.std.specs.List.{flat_map}
use Rattle.kin_rules.specs.declared.exposure_rules.UseK.{UseK}
use Rattle.kin_scores.specs.Planned.{IsRowAfter}
use Rattle.kin_scores.proofs.settles.entries_after.Given as goal

abbrev pub invariant-loop-i : goal.invariant-loop-i
invariant-loop-i l = (next : List (List UseK)) → IsRowAfter l.users l.plan l.expos next → l.entries.items ≡ flat_map (λ row. row) (take l.i next)
