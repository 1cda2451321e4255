use Rattle.std.proofs.Common.{◌≡◌, subst}
use Rattle.std.specs.Option.{option_map}
use Rattle.kin_ids.specs.Users.{has_user}
use Rattle.kin_push.specs.Begins.{is_started}
use Rattle.kin_push.specs.Engines.{Engine, IsWide, columns_of, widened}
use Rattle.kin_push.proofs.engines.PushEngine.plan.Goals as goal

pub returns : goal.returns
returns g c = record {
  widens = subst (λ (e : Engine _). IsWide c.args.deltas.now e.state (widened e.state (option_map columns_of c.in_ok-wide.wide)))
      c.self.view_is c.in_ok-wide.ensures;
  all = λ u. subst (λ (e : Engine _). has_user c.in_ok-starts.starts.items u ≡ is_started (g.R.PushRule.seen e.rule) c.args.deltas.now u)
      c.self.view_is (c.in_ok-starts.ensures u);
}
