use Rattle.std.proofs.Common.{◌≡◌, subst, ap, sym}
use Rattle.std.specs.Result.{IfOk, OnErr}
use Rattle.kin_blocks.specs.Versions.{VersionsView}
use Rattle.kin_hub.specs.Cores.{CoreTakes}
use Rattle.kin_hub.specs.Hubs.{HubView}
use Rattle.kin_hub.specs.Stands.{HasStory}
use Rattle.kin_hub.specs.Goes.{HubPlaces}
use Rattle.kin_hub.proofs.Goings.{take-places, take-some}
use Rattle.kin_hub.proofs.hubs.Hub.take.Goals as goal

stays : (c : goal.After-take) → c.args.self.now.versions ≡ c.self.inside.versions
stays c = ap (λ (h : HubView). h.versions) (sym c.self.view_is)

takes : (c : goal.After-take) → IfOk c.take.result (λ t. CoreTakes c.args.self.now.core c.args.piece t c.take.new.self)
takes c = subst (λ (h : HubView). IfOk c.take.result (λ t. CoreTakes h.core c.args.piece t c.take.new.self)) c.self.view_is
    c.take.ensures.taken

pub invariant_of-self : goal.invariant_of-self
invariant_of-self c = subst (λ (v : VersionsView). HasStory (record { core = c.take.new.self; versions = v })) (stays c)
    (take-some c.args.self.now c.args.piece c.requires.node c.requires.part c.take.new.self c.take.ensures.core c.take.result (takes c)
    (subst (λ (h : HubView). OnErr c.take.result (c.take.new.self ≡ h.core)) c.self.view_is c.take.ensures.err) c.requires.known
    (subst HasStory c.self.view_is c.self.invariant))

pub returns-clause-stands : goal.returns-clause-stands
returns-clause-stands c = subst (λ (v : VersionsView). IfOk c.take.result
    (λ _. HubPlaces c.args.self.now c.args.piece (record { core = c.take.new.self; versions = v }))) (stays c)
    (take-places c.args.self.now c.args.piece c.requires.node c.requires.part c.take.new.self c.take.ensures.core c.take.result (takes c))
