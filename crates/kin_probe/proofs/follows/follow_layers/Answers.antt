use Rattle.std.proofs.Common.{◌+◌, List, refl, sym, subst}
use Rattle.kin_ids.specs.declared.ids.User.{User}
use Rattle.kin_graph.specs.Views.{AreVertices}
use Rattle.kin_blocks.specs.Snaps.{joined}
use Rattle.kin_pull.specs.States.{On}
use Rattle.kin_probe.specs.Follows.{LayersAt}
use Rattle.kin_probe.proofs.Following.{ahead}
use Rattle.kin_probe.proofs.follows.follow_layers.Goals as goal

pub begin-requires : goal.begin-requires
begin-requires g c =
    let at = c.requires.at in
    let next = ahead c.args.world.now c.args.k at.view at.at c.hub.result.now c.hub-2.result.now c.hub.ensures c.hub-2.ensures
    c.in-Some.snap.now c.in-Some-deltas.deltas.now c.in-Some.ensures.snap c.in-Some-deltas.ensures.deltas (c.in-Some.ensures.kept.0 refl) in
    record { was = at.view; is = joined c.in-Some.snap.now; led = next.led; vertices = at.vertices }

pub settle-requires : goal.settle-requires
settle-requires g c =
    let at = c.requires.at in
    let v = joined c.in-Some.snap.now in
    let next = ahead c.args.world.now c.args.k at.view at.at c.hub.result.now c.hub-2.result.now c.hub.ensures c.hub-2.ensures
    c.in-Some.snap.now c.in-Some-deltas.deltas.now c.in-Some.ensures.snap c.in-Some-deltas.ensures.deltas (c.in-Some.ensures.kept.0 refl) in
    subst (λ (r : g.row.R.Denot). On (g.R.PullRule.seen r) g.R.PullRule.LAYERS v c.begin.new.self.users c.begin.new.self.kept) (sym c.in_ok-begin.ensures.rule)
    ((c.in_ok-begin.ensures.on at.view v next.led at.vertices).1 at.on at.quiet)

pub returns : goal.returns
returns g c = λ kept.
    let at = c.requires.at in
    let v = joined c.in-Some.snap.now in
    let next = ahead c.args.world.now c.args.k at.view at.at c.hub.result.now c.hub-2.result.now c.hub.ensures c.hub-2.ensures
    c.in-Some.snap.now c.in-Some-deltas.deltas.now c.in-Some.ensures.snap c.in-Some-deltas.ensures.deltas (c.in-Some.ensures.kept.0 refl) in
    let vertices = (c.in_ok-begin.ensures.on at.view v next.led at.vertices).0 in
    subst (λ (us : List User). LayersAt c.args.world.now (c.args.k + 1) (g.R.PullRule.seen c.settle.new.self.rule) g.R.PullRule.LAYERS us c.settle.new.self.kept)
    (sym c.in_ok-settle.ensures.users)
    (subst (λ (r : g.row.R.Denot). LayersAt c.args.world.now (c.args.k + 1) (g.R.PullRule.seen r) g.R.PullRule.LAYERS c.begin.new.self.users c.settle.new.self.kept)
    (sym c.in_ok-settle.ensures.rule) (record {
      view = v;
      at = next.next;
      on = c.in_ok-settle.ensures.on;
      vertices = vertices;
      quiet = c.in_ok-settle.ensures.quiet;
    }))
