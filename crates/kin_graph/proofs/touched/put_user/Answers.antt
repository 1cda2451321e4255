use Rattle.kin_ids.specs.Users.{has_user, same_user}
use Rattle.kin_graph.proofs.Noting.{put-kept, put-other}
use Rattle.kin_graph.proofs.touched.put_user.Goals as goal

pub returns-clause-kept : goal.returns-clause-kept
returns-clause-kept c = λ u f. put-kept (same_user c.args.user u) (has_user c.args.users.now.keys u) (has_user c.insert.new.self.keys u)
    (c.in_ok-insert.ensures.updates.0 u) f

pub returns-clause-ok : goal.returns-clause-ok
returns-clause-ok c = λ u f. put-other (same_user c.args.user u) (has_user c.args.users.now.keys u) (has_user c.insert.new.self.keys u)
    (c.in_ok-insert.ensures.updates.0 u) f
