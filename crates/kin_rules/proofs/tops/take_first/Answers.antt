use Rattle.std.proofs.Common.{◌∙◌}
use Rattle.kin_rules.proofs.Orders.{IsExact}
use Rattle.kin_rules.proofs.Cuts.{sorted-is}
use Rattle.kin_rules.proofs.tops.take_first.Goals as goal

pub returns : goal.returns
returns g c =
    let o : IsExact g.T.Ord.cmp = record { total = g.met.T.Ord.total; exact = c.requires } in
    c.in_ok-from_slice.ensures.items ∙ sorted-is o _ _ c.sort_unstable.ensures.permutation c.sort_unstable.ensures.sorted ∙ c.first_of-first.ensures
