use Rattle.std.proofs.Common.{◌≡◌, subst, ap, sym}
use Rattle.kin_blocks.specs.Versions.{VersionsView}
use Rattle.kin_hub.specs.Cores.{with_report}
use Rattle.kin_hub.specs.Hubs.{HubView}
use Rattle.kin_hub.specs.Stands.{HasStory}
use Rattle.kin_hub.specs.Goes.{HubKeeps}
use Rattle.kin_hub.proofs.Goings.{report-keeps, some-keeps}
use Rattle.kin_hub.proofs.hubs.Hub.report.Goals as goal

stays : (c : goal.After-report) → c.args.self.now.versions ≡ c.self.inside.versions
stays c = ap (λ (h : HubView). h.versions) (sym c.self.view_is)

keeps : (c : goal.After-report) → HubKeeps c.args.self.now (record c.args.self.now { core = c.report.new.self })
keeps c = report-keeps c.args.self.now c.args.p.0 c.report.new.self c.requires c.report.ensures.core
    (subst (λ (h : HubView). c.report.new.self ≡ with_report h.core c.args.p.0) c.self.view_is c.report.ensures.row)

pub invariant_of-self : goal.invariant_of-self
invariant_of-self c = subst (λ (v : VersionsView). HasStory (record { core = c.report.new.self; versions = v })) (stays c)
    (some-keeps c.args.self.now (record c.args.self.now { core = c.report.new.self }) (keeps c)
    (subst HasStory c.self.view_is c.self.invariant))

pub returns-clause-stands : goal.returns-clause-stands
returns-clause-stands c = subst (λ (v : VersionsView). HubKeeps c.args.self.now (record { core = c.report.new.self; versions = v }))
    (stays c) (keeps c)
