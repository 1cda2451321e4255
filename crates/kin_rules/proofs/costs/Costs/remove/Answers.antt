use Rattle.kin_rules.proofs.costs.Costs.remove.Goals as goal

pub returns : goal.returns
returns c x = rw (← c.self.view_is) (c.remove.ensures.updates.0 x)
