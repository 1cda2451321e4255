use Rattle.kin_graph.proofs.Noting.{pair-kept, pair-other}
use Rattle.kin_graph.proofs.touched.put_pair.Goals as goal

pub returns-clause-kept : goal.returns-clause-kept
returns-clause-kept c = pair-kept c.args.pairs.now.keys c.insert.new.self.keys (record { user = c.args.user; other = c.args.other })
    c.in_ok-insert.ensures.updates.0

pub returns-clause-ok : goal.returns-clause-ok
returns-clause-ok c = pair-other c.args.pairs.now.keys c.insert.new.self.keys (record { user = c.args.user; other = c.args.other })
    c.in_ok-insert.ensures.updates.0
