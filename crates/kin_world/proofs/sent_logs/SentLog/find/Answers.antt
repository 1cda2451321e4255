use Rattle.std.proofs.Common.{◌∙◌, ap, List}
use Rattle.kin_world.specs.declared.sent_logs.Sent.{Sent}
use Rattle.kin_world.specs.SentStamps.{find_sent}
use Rattle.kin_world.proofs.SentLooks.{found-is}
use Rattle.kin_world.proofs.sent_logs.SentLog.find.Goals as goal

pub returns : goal.returns
returns c =
    c.copied.ensures
    ∙ (c.get.ensures.value
    ∙ (found-is (record { ingest = c.args.ingest; inc = c.args.inc; to = c.args.to }) c.self.inside.all.entries c.self.invariant
    ∙ ap (λ (ss : List Sent). find_sent ss c.args.ingest.0 c.args.inc.0 c.args.to) c.self.view_is))
