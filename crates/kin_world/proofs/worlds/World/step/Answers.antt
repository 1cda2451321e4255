use Rattle.std.proofs.Common.{◌≡◌, ◌+◌, ◌≤◌, subst}
use Rattle.std.specs.Prelude.{OnOk}
use Rattle.kin_world.specs.Worlds.{WorldView, setting_of}
use Rattle.kin_hub.specs.Hubs.{cuts_in}
use Rattle.kin_world.proofs.Cutting.{cuts-after}
use Rattle.kin_world.proofs.Running.{on_ok, setting-kept, has-after}
use Rattle.kin_world.proofs.worlds.World.step.Goals as goal

pub returns-clause-setting : goal.returns-clause-setting
returns-clause-setting c =
    let was = c.self.inside.core in
    let new = c.step.new.self in
    let kept = on_ok c.step.result _ (setting_of new ≡ setting_of was) (λ o keeps. setting-kept was c.args.event o new c.self.invariant keeps) c.step.ensures.keeps in
    subst (λ (w : WorldView). OnOk c.step.result (setting_of new ≡ setting_of w)) c.self.view_is kept

pub returns-clause-cuts : goal.returns-clause-cuts
returns-clause-cuts c =
    let was = c.self.inside.core in
    let new = c.step.new.self in
    subst (λ (w : WorldView). cuts_in new.hub ≤ cuts_in w.hub + 1) c.self.view_is (cuts-after was c.args.event c.step.result new c.self.invariant c.step.ensures.keeps c.step.ensures.err)

pub invariant_of-self : goal.invariant_of-self
invariant_of-self c = has-after c.self.inside.core c.args.event c.step.result c.step.new.self c.self.invariant c.step.ensures.keeps c.step.ensures.err
