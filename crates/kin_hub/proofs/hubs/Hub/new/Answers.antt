use Rattle.std.proofs.Common.{sym, subst}
use Rattle.kin_blocks.specs.Versions.{VersionsView, IsVersions}
use Rattle.kin_hub.specs.Cores.{CoreView, IsCore}
use Rattle.kin_hub.specs.Stands.{HasStory}
use Rattle.kin_hub.specs.Opens.{first_core}
use Rattle.kin_hub.proofs.Goings.{opens-some, opens}
use Rattle.kin_hub.proofs.hubs.Hub.new.Goals as goal

pub invariant_of-result : goal.invariant_of-result
invariant_of-result c =
    let core = c.in_ok-new.ensures in
    let versions = c.in_ok-new-2.ensures in
    subst (λ (v : CoreView). HasStory (record { core = v; versions = c.in_ok-new-2.field-0 })) (sym core.value)
    (subst (λ (v : VersionsView). HasStory (record { core = first_core c.args.nodes c.args.parts; versions = v })) (sym versions.value)
    (opens-some c.args.nodes c.args.parts (subst IsCore core.value core.core) (subst IsVersions versions.value versions.versions)))

pub returns-clause-stands : goal.returns-clause-stands
returns-clause-stands c = λ feeds count. opens c.args.nodes c.args.parts c.in_ok-new.field-0 c.in_ok-new-2.field-0 c.in_ok-new.ensures.core
    c.in_ok-new.ensures.value c.in_ok-new-2.ensures.versions c.in_ok-new-2.ensures.value feeds count
