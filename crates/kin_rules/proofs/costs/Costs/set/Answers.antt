use Rattle.kin_rules.proofs.costs.Costs.set.Goals as goal

pub returns-clause-ok : goal.returns-clause-ok
returns-clause-ok c x = rw (← c.self.view_is) (c.in_ok-insert.ensures.updates.0 x)
