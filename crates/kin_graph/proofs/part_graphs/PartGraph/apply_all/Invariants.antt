use Rattle.std.proofs.Common.{◌≡◌, drop}
use Rattle.kin_graph.specs.State.{view_of}
use Rattle.kin_graph.specs.Changes.{kept, done_all, Precedes}
use Rattle.kin_graph.specs.Touches.{LeavesOthers}
use Rattle.kin_graph.proofs.part_graphs.PartGraph.apply_all.Given as goal

-- the operations so far are done, and nothing else is
abbrev pub invariant-loop-numbered : goal.invariant-loop-numbered
invariant-loop-numbered l = record {
  rest : done_all l.epoch.0 l.ingest.0 (kept l.self) (drop l.numbered-index l.ops) ≡ done_all l.epoch.0 l.ingest.0 (kept l.fn.self) l.ops;
  part : l.self.part ≡ l.fn.self.part;
  parts : l.self.parts ≡ l.fn.self.parts;
  stays : Precedes (kept l.fn.self) (kept l.self);
  others : LeavesOthers l.ops (view_of l.fn.self) (view_of l.self);
}
