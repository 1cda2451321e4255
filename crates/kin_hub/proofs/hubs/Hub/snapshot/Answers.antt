use Rattle.std.proofs.Common.{Option, Some, None, IsSome, IfSome, subst, sym, rules}
use Rattle.kin_hub.specs.Hubs.{HubView}
use Rattle.kin_hub.specs.Commits.{AreSnapshot}
use Rattle.kin_hub.proofs.Committing.{kept-snapshot}
use Rattle.kin_hub.proofs.hubs.Hub.snapshot.Goals as goal

if_some : {A : Type 0} (r : Option A) (P Q : A → Type 0) → (IsSome r → (x : A) → P x → Q x) → IfSome r P → IfSome r Q
if_some None P Q f h = tt
if_some (Some x) P Q f h = f (search rules) x h

pub returns-clause-whole : goal.returns-clause-whole
returns-clause-whole c =
    let was : HubView = record { core = c.self.inside.core; versions = c.self.inside.versions } in
    if_some c.snapshot.result _ _ (λ some snap is. subst (λ (h : HubView). AreSnapshot h c.args.k.0 snap.now) c.self.view_is
    (subst (AreSnapshot was c.args.k.0) (sym is) (kept-snapshot was c.args.k.0 (c.snapshot.ensures.kept.0 some)))) c.snapshot.ensures.snap
