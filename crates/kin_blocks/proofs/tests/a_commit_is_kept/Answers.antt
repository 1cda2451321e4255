use Rattle.std.proofs.Common.{List, [], ◌++◌, sym, subst}
use Rattle.kin_ids.specs.declared.ops.Piece.{Piece}
use Rattle.kin_graph.specs.State.{empty_part}
use Rattle.kin_blocks.specs.Blocks.{MayTake}
use Rattle.kin_blocks.proofs.Alone.{alone-may, alone-kept}
use Rattle.kin_blocks.proofs.tests.a_commit_is_kept.Goals as goal

pub commit_first-requires-clause-may : goal.commit_first-requires-clause-may
commit_first-requires-clause-may g c =
    let follow = c.in_ok-follow.ensures in
    subst (λ (xs : List Piece). MayTake 1 (empty_part 0 1) (xs ++ [])) (sym c.of.ensures)
    (alone-may c.in_ok-follow.field-0 follow.part follow.count)

pub release_below-requires : goal.release_below-requires
release_below-requires g c = alone-kept c.commit_first.new.versions c.in_ok-commit_first.ensures.committed
