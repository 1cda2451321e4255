use Rattle.std.proofs.Common.{◌∙◌, sym, ap, length}
use Rattle.std.proofs.lemmas.List.{length-map}
use Rattle.kin_world.specs.declared.sent_logs.Sent.{Sent}
use Rattle.kin_world.specs.declared.sent_logs.SentKey.{SentKey}
use Rattle.kin_world.proofs.sent_logs.SentLog.len.Goals as goal

pub returns : goal.returns
returns c = c.len.ensures.len ∙ (sym (length-map c.self.inside.all.entries (λ (e : SentKey × Sent). e.1)) ∙ ap length c.self.view_is)
