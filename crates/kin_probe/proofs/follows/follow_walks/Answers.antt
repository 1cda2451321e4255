use Rattle.std.proofs.Common.{◌+◌, List, refl, sym, subst}
use Rattle.kin_ids.specs.declared.ids.User.{User}
use Rattle.kin_graph.specs.Views.{AreVertices}
use Rattle.kin_blocks.specs.Snaps.{joined}
use Rattle.kin_push.specs.Facts.{On}
use Rattle.kin_probe.specs.Follows.{WalksAt}
use Rattle.kin_probe.proofs.Following.{ahead, turns-users}
use Rattle.kin_probe.proofs.follows.follow_walks.Goals as goal

pub settle-requires : goal.settle-requires
settle-requires g c =
    let at = c.requires.at in
    let v = joined c.in-Some.snap.now in
    let next = ahead c.args.world.now c.args.k at.view at.at c.hub.result.now c.hub-2.result.now c.hub.ensures c.hub-2.ensures
    c.in-Some.snap.now c.in-Some-deltas.deltas.now c.in-Some.ensures.snap c.in-Some-deltas.ensures.deltas (c.in-Some.ensures.kept.0 refl) in
    subst (λ (r : g.row.R.Denot). On (g.R.PushRule.seen r) v c.begin.new.self.state) (sym c.in_ok-begin.ensures.rule)
    (c.in_ok-begin.ensures.begins at.view v next.led at.vertices next.small at.on).0.on

pub returns : goal.returns
returns g c = λ kept.
    let at = c.requires.at in
    let v = joined c.in-Some.snap.now in
    let next = ahead c.args.world.now c.args.k at.view at.at c.hub.result.now c.hub-2.result.now c.hub.ensures c.hub-2.ensures
    c.in-Some.snap.now c.in-Some-deltas.deltas.now c.in-Some.ensures.snap c.in-Some-deltas.ensures.deltas (c.in-Some.ensures.kept.0 refl) in
    let begins = c.in_ok-begin.ensures.begins at.view v next.led at.vertices next.small at.on in
    let settled = c.in_ok-settle.ensures.settled in
    subst (λ (r : g.row.R.Denot). WalksAt c.args.world.now (c.args.k + 1) (g.R.PushRule.seen r) c.settle.new.self.state) (sym c.in_ok-settle.ensures.rule) (record {
      view = v;
      at = next.next;
      on = settled.on;
      vertices = subst (AreVertices v) (sym (turns-users (g.R.PushRule.seen c.begin.new.self.rule) v c.begin.new.self.state settled.turns.0 c.settle.new.self.state settled.turns.1)) begins.1;
      quiet = settled.quiet;
    })
