use Rattle.std.proofs.Common.{◌≡◌, map, take}
use Rattle.kin_rules.specs.ExposureLists.{ks_of}
use Rattle.kin_rules.proofs.exposure_lists.rows_of_tags.Given as goal

abbrev pub invariant-loop-entry : goal.invariant-loop-entry
invariant-loop-entry l = map (λ r. r.items) l.rows.items ≡ map (ks_of (take l.entry-index l.entries)) l.tags
