use Rattle.std.proofs.Common.{◌∙◌, sym, ap, List}
use Rattle.std.specs.List.{slice_get}
use Rattle.std.proofs.lemmas.Option.{slice_get-map}
use Rattle.kin_world.specs.declared.sent_logs.Sent.{Sent}
use Rattle.kin_world.specs.declared.sent_logs.SentKey.{SentKey}
use Rattle.kin_world.proofs.sent_logs.SentLog.at.Goals as goal

pub returns : goal.returns
returns c =
    c.value_at.ensures
    ∙ (sym (slice_get-map (λ (e : SentKey × Sent). e.1) c.self.inside.all.entries c.args.n) ∙ ap (λ (ss : List Sent). slice_get ss c.args.n) c.self.view_is)
