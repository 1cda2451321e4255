use Rattle.std.proofs.Common.{◌∙◌}
use Rattle.kin_changes.proofs.Searched.{searched}
use Rattle.kin_changes.proofs.keys.is_among.Goals as goal

pub returns : goal.returns
returns g c = c.is_ok.ensures.value
    ∙ searched g.K.Ord.cmp g.met.K.Ord.total c.args.keys.now c.args.key.now c.binary_search.result c.requires
    c.binary_search.ensures.bound c.binary_search.ensures.position
