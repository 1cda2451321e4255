use Rattle.std.proofs.Common.{◌≡◌, Some, subst, ap, sym}
use Rattle.std.specs.Prelude.{◌↔◌, IsErrOf}
use Rattle.std.specs.Result.{IfOk, OnErr, OnOk}
use Rattle.kin_ids.specs.declared.ids.PartId.{PartId}
use Rattle.kin_table.specs.declared.answers.CutRefused.TheVariants as refused
use Rattle.kin_table.specs.Cuts.{IsNextCut}
use Rattle.kin_blocks.specs.Versions.{VersionsView}
use Rattle.kin_hub.specs.Cores.{since_cut, with_cut}
use Rattle.kin_hub.specs.Hubs.{HubView, missing_in}
use Rattle.kin_hub.specs.Stands.{HasStory}
use Rattle.kin_hub.specs.Goes.{HubCuts}
use Rattle.kin_hub.proofs.Goings.{last-within, last-sized, cut-result, cut-some}
use Rattle.kin_hub.proofs.hubs.Hub.cut.Goals as goal

stays : (c : goal.After-cut) → c.args.self.now.versions ≡ c.self.inside.versions
stays c = ap (λ (h : HubView). h.versions) (sym c.self.view_is)

pub cut-requires-clause-ahead : goal.cut-requires-clause-ahead
cut-requires-clause-ahead c = last-within (record { core = c.self.inside.core; versions = c.self.inside.versions }) c.self.invariant

pub cut-requires-clause-sized : goal.cut-requires-clause-sized
cut-requires-clause-sized c = last-sized (record { core = c.self.inside.core; versions = c.self.inside.versions }) c.self.invariant

next : (c : goal.After-cut) → IfOk c.cut.result (IsNextCut c.args.self.now.core.table c.args.n (since_cut c.args.self.now.core))
next c = subst (λ (h : HubView). IfOk c.cut.result (IsNextCut h.core.table c.args.n (since_cut h.core))) c.self.view_is c.cut.ensures.cut

appended : (c : goal.After-cut) → IfOk c.cut.result (λ cut. c.cut.new.self ≡ with_cut c.args.self.now.core cut.ends)
appended c = subst (λ (h : HubView). IfOk c.cut.result (λ cut. c.cut.new.self ≡ with_cut h.core cut.ends)) c.self.view_is
    c.cut.ensures.appended

pub invariant_of-self : goal.invariant_of-self
invariant_of-self c = subst (λ (v : VersionsView). HasStory (record { core = c.cut.new.self; versions = v })) (stays c)
    (cut-some c.args.self.now c.args.n c.cut.new.self c.cut.ensures.core c.cut.result (next c) (appended c)
    (subst (λ (h : HubView). OnErr c.cut.result (c.cut.new.self ≡ h.core)) c.self.view_is c.cut.ensures.err)
    (subst HasStory c.self.view_is c.self.invariant))

pub returns-clause-stands : goal.returns-clause-stands
returns-clause-stands c = subst (λ (v : VersionsView). OnOk c.cut.result
    (HubCuts c.args.self.now c.args.n (record { core = c.cut.new.self; versions = v }))) (stays c)
    (cut-result c.args.self.now c.args.n c.cut.new.self c.cut.ensures.core c.cut.result (next c) (appended c))

pub returns-clause-not_reported : goal.returns-clause-not_reported
returns-clause-not_reported c = subst (λ (h : HubView). (p : PartId) → IsErrOf c.cut.result (refused.NotReported p) ↔
    (missing_in h ≡ Some p.0)) c.self.view_is c.cut.ensures.not_reported
