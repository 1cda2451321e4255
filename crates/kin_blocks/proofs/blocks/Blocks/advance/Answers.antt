use Rattle.std.proofs.Common.{◌≡◌, ◌∙◌, rules, subst, ap, sym}
use Rattle.kin_graph.specs.State.{PartState}
use Rattle.kin_blocks.specs.Blocks.{BlocksView, IsWriter}
use Rattle.kin_blocks.proofs.Going.{writer-fresh}
use Rattle.kin_blocks.proofs.blocks.Blocks.advance.Goals as goal

pub invariant_of-self : goal.invariant_of-self
invariant_of-self c =
    let same : c.restore.new.self ≡ c.self-2.inside.frozen = search rules in
    subst (λ (s : PartState). IsWriter (record { latest = c.restore.new.self; frozen = s }) c.self-2.inside.touched) same
    (writer-fresh c.restore.new.self c.self-2.inside.touched)
