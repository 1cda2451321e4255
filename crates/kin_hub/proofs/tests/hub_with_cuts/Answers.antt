use Rattle.std.proofs.Common.{None, Some}
use Rattle.kin_hub.proofs.Smalls.{small-keeps, small-raises, small-cuts}
use Rattle.kin_hub.proofs.tests.hub_with_cuts.Goals as goal

pub returns-clause-small : goal.returns-clause-small
returns-clause-small g c =
    let reported = small-keeps c.report.new.self c.report-2.new.self c.report-2.ensures.stands
    (small-keeps c.in_ok-hub.hub c.report.new.self c.report.ensures.stands c.in_ok-hub.ensures.small) in
    let raised = small-raises c.report-2.new.self c.raise.new.self 0 c.raise.ensures.stands reported in
    let first = small-cuts c.raise.new.self c.cut.new.self (Some 3) c.in_ok-cut.ensures.stands raised in
    small-cuts c.cut.new.self c.cut-2.new.self None c.in_ok-cut-2.ensures.stands first
