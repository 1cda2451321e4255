use Rattle.kin_rules.proofs.EdgeRows.{read-edges}
use Rattle.kin_rules.proofs.scratches.walks_of.Goals as goal

pub returns-clause-hops : goal.returns-clause-hops
returns-clause-hops g c = λ h whole.
    c.in_ok-hops.ensures.values h
    (read-edges h (g.V.View.seen c.args.view.now) c.args.index.now c.in_ok-follows.follows c.in_ok-mentions.mentions whole c.requires.vertices c.in_ok-follows.ensures c.in_ok-mentions.ensures)

pub returns-clause-close : goal.returns-clause-close
returns-clause-close g c = λ h whole.
    c.in_ok-close.ensures.values h
    (read-edges h (g.V.View.seen c.args.view.now) c.args.index.now c.in_ok-follows.follows c.in_ok-mentions.mentions whole c.requires.vertices c.in_ok-follows.ensures c.in_ok-mentions.ensures)
