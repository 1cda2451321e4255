use Rattle.std.proofs.Common.{◌∙◌, ◌<◌, ◌^◌, List, subst, sym}
use Rattle.kin_ids.specs.declared.ops.Numbered.{Numbered}
use Rattle.kin_ids.specs.Parts.{PartView, ops_applied}
use Rattle.kin_graph.specs.State.{view_of}
use Rattle.kin_bench.proofs.stores.follow.Goals as goal

pub returns : goal.returns
returns c = record {
  part = c.apply.ensures.same.0 ∙ c.requires.room.part;
  parts = c.apply.ensures.same.1 ∙ c.requires.room.parts;
  said = λ u. subst (λ (v : PartView). v.said u < 2 ^ 64) (sym c.in_ok-apply.ensures.ok)
      (subst (λ (ops : List Numbered). (ops_applied 1 c.in_ok-piece.piece.stamp.ingest.0 (view_of c.args.store.now) ops).said u < 2 ^ 64) (sym c.in_ok-piece.ensures.ops) (c.requires.room.said u));
}
