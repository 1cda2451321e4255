use Rattle.std.proofs.Common.{◌≡◌, ◌<◌, subst, sym, ap}
use Rattle.kin_blocks.specs.Versions.{VersionsView}
use Rattle.kin_hub.specs.Cores.{with_raise}
use Rattle.kin_hub.specs.Hubs.{HubView, nodes_in}
use Rattle.kin_hub.specs.Stands.{HasStory}
use Rattle.kin_hub.specs.Goes.{HubRaises}
use Rattle.kin_hub.proofs.Goings.{raisable, raise-raises, some-raises}
use Rattle.kin_hub.proofs.hubs.Hub.raise.Goals as goal

stays : (c : goal.After-raise) → c.args.self.now.versions ≡ c.self.inside.versions
stays c = ap (λ (h : HubView). h.versions) (sym c.self.view_is)

pub raise-requires-clause-at_least : goal.raise-requires-clause-at_least
raise-requires-clause-at_least c =
    (raisable (record { core = c.self.inside.core; versions = c.self.inside.versions }) c.args.i.0
    (subst (λ (h : HubView). c.args.i.0 < nodes_in h) (sym c.self.view_is) c.requires) c.self.invariant).at_least

pub raise-requires-clause-at_most : goal.raise-requires-clause-at_most
raise-requires-clause-at_most c =
    (raisable (record { core = c.self.inside.core; versions = c.self.inside.versions }) c.args.i.0
    (subst (λ (h : HubView). c.args.i.0 < nodes_in h) (sym c.self.view_is) c.requires) c.self.invariant).at_most

raises : (c : goal.After-raise) → HubRaises c.args.self.now c.args.i.0 (record c.args.self.now { core = c.raise.new.self })
raises c = raise-raises c.args.self.now c.args.i.0 c.raise.new.self c.requires c.raise.ensures.core
    (subst (λ (h : HubView). c.raise.new.self ≡ with_raise h.core c.args.i.0) c.self.view_is c.raise.ensures.raised)

pub invariant_of-self : goal.invariant_of-self
invariant_of-self c = subst (λ (v : VersionsView). HasStory (record { core = c.raise.new.self; versions = v })) (stays c)
    (some-raises c.args.self.now (record c.args.self.now { core = c.raise.new.self }) c.args.i.0 (raises c)
    (subst HasStory c.self.view_is c.self.invariant))

pub returns-clause-stands : goal.returns-clause-stands
returns-clause-stands c = subst (λ (v : VersionsView). HubRaises c.args.self.now c.args.i.0
    (record { core = c.raise.new.self; versions = v })) (stays c) (raises c)
