use Rattle.std.proofs.Common.{sym, subst, refl}
use Rattle.kin_changes.specs.Views.{empty_view}
use Rattle.kin_push.specs.States.{PushState}
use Rattle.kin_push.proofs.Begun.{empty-law}
use Rattle.kin_probe.specs.Follows.{WalksAt}
use Rattle.kin_probe.proofs.Beginning.{empty-at, no-vertices}
use Rattle.kin_probe.proofs.follows.start_walks.Goals as goal

pub returns : goal.returns
returns g c =
    let e = c.in_ok-engine.engine in
    subst (λ (s : PushState). WalksAt c.args.world.now 0 (g.R.PushRule.seen e.rule) s) (sym c.in_ok-engine.ensures.1) (record {
      view = empty_view;
      at = empty-at c.args.world.now c.requires;
      on = empty-law (g.R.PushRule.seen e.rule);
      vertices = no-vertices;
      quiet = λ u. refl;
    })
