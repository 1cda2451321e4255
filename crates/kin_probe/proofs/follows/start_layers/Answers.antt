use Rattle.std.proofs.Common.{List, [], sym, subst}
use Rattle.kin_ids.specs.declared.ids.User.{User}
use Rattle.kin_changes.specs.Views.{empty_view}
use Rattle.kin_pull.specs.States.{On}
use Rattle.kin_probe.specs.Follows.{LayersAt}
use Rattle.kin_probe.proofs.Beginning.{empty-at, no-vertices}
use Rattle.kin_probe.proofs.follows.start_layers.Goals as goal

pub returns : goal.returns
returns g c =
    let e = c.in_ok-engine.engine in
    let top = g.R.PullRule.LAYERS in
    subst (λ (us : List User). LayersAt c.args.world.now 0 (g.R.PullRule.seen e.rule) top us e.kept) (sym c.in_ok-engine.ensures.users) (record {
      view = empty_view;
      at = empty-at c.args.world.now c.requires;
      on = subst (λ (r : g.row.R.Denot). On (g.R.PullRule.seen r) top empty_view [] e.kept) (sym c.in_ok-engine.ensures.rule) c.in_ok-engine.ensures.on;
      vertices = no-vertices;
      quiet = c.in_ok-engine.ensures.quiet;
    })
