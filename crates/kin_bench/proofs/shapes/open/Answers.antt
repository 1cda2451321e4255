use Rattle.std.proofs.Common.{◌∙◌, length, ap}
use Rattle.std.proofs.lemmas.Result.{IfOk-weaker}
use Rattle.kin_bench.proofs.shapes.open.Goals as goal

pub returns : goal.returns
returns c = IfOk-weaker c.open.result _ _ (λ w stands. record {
  nodes = ap length stands.over.feeds ∙ c.in_ok-feeds.ensures.three;
  parts = stands.over.parts;
}) c.open.ensures.stands
