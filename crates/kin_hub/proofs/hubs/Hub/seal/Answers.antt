use Rattle.std.proofs.Common.{◌≡◌, subst, ap, sym}
use Rattle.std.specs.Result.{OnOk, OnErr}
use Rattle.kin_blocks.specs.Versions.{VersionsView}
use Rattle.kin_hub.specs.Cores.{with_seal}
use Rattle.kin_hub.specs.Hubs.{HubView}
use Rattle.kin_hub.specs.Stands.{HasStory}
use Rattle.kin_hub.specs.Goes.{HubSeals}
use Rattle.kin_hub.proofs.Goings.{seal-result, seal-some}
use Rattle.kin_hub.proofs.hubs.Hub.seal.Goals as goal

stays : (c : goal.After-seal) → c.args.self.now.versions ≡ c.self.inside.versions
stays c = ap (λ (h : HubView). h.versions) (sym c.self.view_is)

pub invariant_of-self : goal.invariant_of-self
invariant_of-self c = subst (λ (v : VersionsView). HasStory (record { core = c.seal.new.self; versions = v })) (stays c)
    (seal-some c.args.self.now c.args.i.0 c.seal.new.self c.requires c.seal.ensures.core c.seal.result
    (subst (λ (h : HubView). OnErr c.seal.result (c.seal.new.self ≡ h.core)) c.self.view_is c.seal.ensures.err)
    (subst (λ (h : HubView). OnOk c.seal.result (c.seal.new.self ≡ with_seal h.core c.args.i.0)) c.self.view_is c.seal.ensures.sealed)
    (subst HasStory c.self.view_is c.self.invariant))

pub returns-clause-stands : goal.returns-clause-stands
returns-clause-stands c = subst (λ (v : VersionsView). OnOk c.seal.result
    (HubSeals c.args.self.now c.args.i.0 (record { core = c.seal.new.self; versions = v }))) (stays c)
    (seal-result c.args.self.now c.args.i.0 c.seal.new.self c.requires c.seal.ensures.core c.seal.result
    (subst (λ (h : HubView). OnOk c.seal.result (c.seal.new.self ≡ with_seal h.core c.args.i.0)) c.self.view_is c.seal.ensures.sealed))
