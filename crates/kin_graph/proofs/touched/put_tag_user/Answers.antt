use Rattle.kin_graph.proofs.Noting.{tag_user-kept, tag_user-other}
use Rattle.kin_graph.proofs.touched.put_tag_user.Goals as goal

pub returns-clause-kept : goal.returns-clause-kept
returns-clause-kept c = tag_user-kept c.args.pairs.now.keys c.insert.new.self.keys (record { tag = c.args.tag; user = c.args.user })
    c.in_ok-insert.ensures.updates.0

pub returns-clause-ok : goal.returns-clause-ok
returns-clause-ok c = tag_user-other c.args.pairs.now.keys c.insert.new.self.keys (record { tag = c.args.tag; user = c.args.user })
    c.in_ok-insert.ensures.updates.0
