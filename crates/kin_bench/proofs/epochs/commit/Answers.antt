use Rattle.std.proofs.Common.{◌+◌, ◌++◌, [], subst, List}
use Rattle.kin_ids.specs.declared.ops.Piece.{Piece}
use Rattle.kin_blocks.specs.Versions.{CommitsNext, committed_at}
use Rattle.kin_bench.proofs.Rooms.{may-take, rooms-then}
use Rattle.kin_bench.proofs.epochs.commit.Goals as goal

pub commit-requires-clause-may : goal.commit-requires-clause-may
commit-requires-clause-may c =
    rw (c.of.ensures) (may-take c.args.parts c.args.p.0 c.args.versions.now c.requires.room c.requires.part (committed_at c.args.versions.now c.args.p.0 + 1) c.args.pieces.now c.requires.follows)

pub returns : goal.returns
returns c =
    rooms-then c.args.parts c.args.p.0 c.args.versions.now c.requires.room c.requires.part c.args.pieces.now c.commit.new.self c.requires.follows
    (subst (λ (xs : List Piece). CommitsNext c.args.versions.now c.args.p.0 (xs ++ []) c.commit.new.self) c.of.ensures c.in_ok-commit.ensures.ok) c.commit.ensures.versions
