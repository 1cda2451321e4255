use Rattle.std.proofs.Common.{◌≡◌, ℕ, List, map, ap, ◌∙◌, arith, subst}
use Rattle.std.specs.List.{range_with_len}
use Rattle.std.proofs.lemmas.List.FromFn.{map-range_with_len_more}
use Rattle.std.proofs.lemmas.Grind.{common_steps}
use Rattle.kin_graph.specs.State.{PartState, empty_part}
use Rattle.kin_blocks.specs.Blocks.{BlocksView, fresh}
use Rattle.kin_blocks.specs.Versions.{first_writers}
use Rattle.kin_blocks.proofs.versions.first_writers.Goals as goal

pub loop-p-preserved : goal.loop-p-preserved
loop-p-preserved c =
    let more = map-range_with_len_more (λ (p : ℕ). empty_part p c.args.parts) 0 c.loop-p.p c.loop-p.p (omega arith) in
    rw more (grind (arith, common_steps))
