use Rattle.std.proofs.Common.{◌∙◌, ap}
use Rattle.std.specs.Map.{values_of}
use Rattle.kin_held.specs.Early.{begins}
use Rattle.kin_held.proofs.Keyed.{lookup-keyed}
use Rattle.kin_held.proofs.early.EarlyPieces.begins.Goals as goal

pub returns : goal.returns
returns c = let pieces = values_of c.self.inside.by_from.entries in
    c.contains_key.ensures ∙ rw c.self.invariant.0 (lookup-keyed c.args.at pieces ∙ ap (begins c.args.at) c.self.view_is)
