use Rattle.std.proofs.Common.{◌≡◌, rules}
use Rattle.kin_ids.specs.declared.ops.Numbered.{Numbered}
use Rattle.kin_graph.specs.Touches.{HasNoted}
use Rattle.kin_blocks.specs.Blocks.{BlocksView}
use Rattle.kin_blocks.proofs.Going.{writer-on}
use Rattle.kin_blocks.proofs.blocks.Blocks.apply_piece.Goals as goal

pub invariant_of-self-2 : goal.invariant_of-self-2
invariant_of-self-2 c =
    let v : BlocksView = record { latest = c.self.inside.graph; frozen = c.self.inside.frozen } in
    let noted : HasNoted c.args.piece.now.ops c.note.new.self = rw (← c.as_slice.ensures) c.in_ok-note.ensures.ok in
    writer-on v c.apply_some.new.self c.self.inside.touched c.note.new.self c.args.piece.now.ops c.self.invariant c.note.ensures.kept noted
    c.apply_some.ensures.same
    c.apply_some.ensures.stays c.apply_some.ensures.others
