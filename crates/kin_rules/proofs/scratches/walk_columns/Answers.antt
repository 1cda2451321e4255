use Rattle.std.proofs.Common.{◌≤◌, ◌∙◌, ap, length, map, arith}
use Rattle.std.proofs.lemmas.List.{take_all}
use Rattle.kin_rules.specs.Edges.{AreEdgesOf}
use Rattle.kin_rules.specs.Instances.{distance_rule}
use Rattle.kin_rules.specs.Nets.{least_of}
use Rattle.kin_rules.specs.Scratches.{column_by}
use Rattle.kin_rules.proofs.ScratchReads.{columns-step}
use Rattle.kin_rules.proofs.scratches.walk_columns.Goals as goal

pub loop-landmark-preserved : goal.loop-landmark-preserved
loop-landmark-preserved c =
    columns-step (λ h l. least_of (distance_rule c.args.distance l) h) c.args.index.now
    (λ h. AreEdgesOf h c.args.index.now c.args.follows.now c.args.mentions.now) c.loop-landmark.columns.items
    c.push.new.self.items _ c.args.landmarks.now c.loop-landmark.landmark-index _ c.loop-landmark-test.true
    c.in_ok-push.ensures.items c.in_ok-values.ensures.length c.in_ok-values.ensures.least c.new.ensures.empty c.loop-landmark.invariant

pub returns-clause-values : goal.returns-clause-values
returns-clause-values c = λ h are.
    let ended = c.loop-landmark-test.false in
    let all : length c.args.landmarks.now ≤ c.loop-landmark.landmark-index = omega (arith, ended) in
    c.loop-landmark.invariant.2 h are
    ∙ ap (map (λ l. column_by (least_of (distance_rule c.args.distance l) h) c.args.index.now)) (take_all c.loop-landmark.landmark-index c.args.landmarks.now all)
