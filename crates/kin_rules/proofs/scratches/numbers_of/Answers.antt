use Rattle.std.proofs.Common.{◌∙◌, ap, map}
use Rattle.kin_rules.specs.declared.pull_rules.Facts.{Facts}
use Rattle.kin_rules.proofs.ScratchReads.{following-are}
use Rattle.kin_rules.proofs.scratches.numbers_of.Goals as goal

pub returns-clause-outs : goal.returns-clause-outs
returns-clause-outs g c = c.in_ok-out_counts.ensures ∙ ap (map (λ (f : Facts). f.following)) c.requires.facts ∙ following-are (g.V.View.seen c.args.view.now) c.args.index.now
