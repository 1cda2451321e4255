use Rattle.std.proofs.Common.{subst}
use Rattle.kin_hub.specs.Hubs.{HubView}
use Rattle.kin_hub.specs.Goes.{HubKeeps}
use Rattle.kin_hub.proofs.Goings.{some-keeps}
use Rattle.kin_hub.proofs.Committing.{release-keeps}
use Rattle.kin_hub.proofs.hubs.Hub.release_below.Goals as goal

keeps : (c : goal.After-release_below) → HubKeeps (record { core = c.self.inside.core; versions = c.self.inside.versions })
    (record { core = c.self.inside.core; versions = c.release_below.new.self })
keeps c = release-keeps (record { core = c.self.inside.core; versions = c.self.inside.versions }) c.args.k.0 c.release_below.new.self
    c.release_below.ensures.released c.release_below.ensures.versions

pub invariant_of-self : goal.invariant_of-self
invariant_of-self c = some-keeps (record { core = c.self.inside.core; versions = c.self.inside.versions })
    (record { core = c.self.inside.core; versions = c.release_below.new.self }) (keeps c) c.self.invariant

pub returns-clause-stands : goal.returns-clause-stands
returns-clause-stands c = subst (λ (h : HubView). HubKeeps h (record { core = c.self.inside.core; versions = c.release_below.new.self }))
    c.self.view_is (keeps c)
