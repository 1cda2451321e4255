use Rattle.std.proofs.Common.{Option, Some, None, IsSome, IfSome, subst, sym, rules}
use Rattle.kin_hub.specs.Hubs.{HubView}
use Rattle.kin_hub.specs.Commits.{AreDeltas}
use Rattle.kin_hub.proofs.Committing.{kept-deltas}
use Rattle.kin_hub.proofs.hubs.Hub.deltas.Goals as goal

if_some : {A : Type 0} (r : Option A) (P Q : A → Type 0) → (IsSome r → (x : A) → P x → Q x) → IfSome r P → IfSome r Q
if_some None P Q f h = tt
if_some (Some x) P Q f h = f (search rules) x h

pub returns-clause-whole : goal.returns-clause-whole
returns-clause-whole c =
    let was : HubView = record { core = c.self.inside.core; versions = c.self.inside.versions } in
    if_some c.deltas.result _ _ (λ some deltas is. subst (λ (h : HubView). AreDeltas h c.args.k.0 deltas.now) c.self.view_is
    (subst (AreDeltas was c.args.k.0) (sym is) (kept-deltas was c.args.k.0 c.self.invariant (c.deltas.ensures.kept.0 some))))
    c.deltas.ensures.deltas
