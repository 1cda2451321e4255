use Rattle.std.proofs.Common.{◌≡◌, ◌<◌, ◌+◌, ◌∙◌, ◌||◌, ap, subst, List, Option, map, arith}
use Rattle.std.proofs.lemmas.List.{map_push}
use Rattle.kin_pull.specs.Keeping.{layer_in}
use Rattle.kin_pull.specs.Passes.{drawn_in, was_read}
use Rattle.kin_pull.specs.Settles.{IsPassed, changes, ever, is_due, settle_reads}
use Rattle.kin_pull.specs.States.{keeping, net_in, opposite, row_of}
use Rattle.kin_pull.proofs.Drafts.{changes-grown, draft-grown, draft-start, due-grown}
use Rattle.kin_pull.proofs.WasRead.{ever-step, none-are-read, none-read-of, none-was, read-within}
use Rattle.kin_pull.proofs.settles.draw.Goals as goal

pub loop-layer-preserved : goal.loop-layer-preserved
loop-layer-preserved g c =
    let r = g.R.PullRule.seen c.args.rule.now in
    let v = g.V.View.seen c.args.view.now in
    let us = c.args.users.now in
    let k = c.args.kept.now in
    let n = c.loop-layer.layer in
    let below : n < g.R.PullRule.LAYERS = omega (arith, c.loop-layer-test.true, c.LAYERS-layer-end.ensures) in
    let draft = map (λ w. w.items) c.loop-layer.draft.items in
    let row : c.row_of.result.now ≡ row_of draft n = c.row_of.ensures ∙ ap (λ ds. row_of (map
    (λ w. w.items) ds) n) c.as_slice.ensures.value in
    let passed = subst (λ (d : List (Option g.row.R-Value.Denot)). IsPassed r (net_in r.side v us k) (keeping r.first us k) us n
    (drawn_in r.first us k n d) (drawn_in r.first us k (n + 1) c.in_ok-above.above.items)) row c.in_ok-above.ensures.passed in
    record {
      ins = c.in_ok-above.ensures.ins;
      outs = c.in_ok-above.ensures.outs;
      most = omega (arith, below);
      draft = draft-grown r v us k
          (g.met.R.PullRule.laws c.args.rule.now) g.R.PullRule.LAYERS c.requires.on n below draft c.in_ok-above.above.items
          c.loop-layer.invariant.draft c.in_ok-above.ensures.long passed
          (map (λ w. w.items) c.push.new.self.items) (ap (map (λ w. w.items)) c.in_ok-push.ensures.items
          ∙ map_push (λ w. w.items) c.loop-layer.draft.items c.in_ok-above.above);
      told = λ x there. ever-step (λ j. changes r (net_in r.side v us k) (keeping r.first us k) j (layer_in r (net_in r.side v us k) j) x) n
          (changes r (net_in r.side v us k) (keeping r.first us k) n (drawn_in r.first us k n (row_of draft n)) x)
          (was_read us c.loop-layer.outs x) (was_read us c.pass.new.outs x)
          (c.in_ok-above.ensures.told x there ∙ ap (λ (d : List (Option g.row.R-Value.Denot)). was_read us c.loop-layer.outs x
          || changes r (net_in r.side v us k) (keeping r.first us k) n (drawn_in r.first us k n d) x) row)
          (c.loop-layer.invariant.told x there)
          (changes-grown r v us k (g.met.R.PullRule.laws c.args.rule.now) g.R.PullRule.LAYERS c.requires.on n below draft
          c.in_ok-above.above.items c.loop-layer.invariant.draft c.in_ok-above.ensures.long passed x);
      computed = λ x there. ever-step (λ j. is_due r (net_in r.side v us k) (keeping r.first us k) us j (layer_in r (net_in r.side v us k) j) x) n
          (is_due r (net_in r.side v us k) (keeping r.first us k) us n (drawn_in r.first us k n (row_of draft n)) x)
          (was_read us c.loop-layer.ins x) (was_read us c.pass.new.ins x)
          (c.in_ok-above.ensures.computed x there ∙ ap (λ (d : List (Option g.row.R-Value.Denot)). was_read us c.loop-layer.ins x
          || is_due r (net_in r.side v us k) (keeping r.first us k) us n (drawn_in r.first us k n d) x) row)
          (c.loop-layer.invariant.computed x there)
          (due-grown r v us k (g.met.R.PullRule.laws c.args.rule.now) g.R.PullRule.LAYERS c.requires.on n below draft
          c.in_ok-above.above.items c.loop-layer.invariant.draft c.in_ok-above.ensures.long passed x);
      reads = omega (arith, c.in_ok-above.ensures.reads, c.loop-layer.invariant.reads);
    }

pub loop-layer-init : goal.loop-layer-init
loop-layer-init g c =
    let r = g.R.PullRule.seen c.args.rule.now in
    let v = g.V.View.seen c.args.view.now in
    let us = c.args.users.now in
    let ins = none-read-of r.side v us c.in_ok-ins.ins c.in_ok-ins.ensures.none in
    let outs = none-read-of (opposite r.side) v us c.in_ok-outs.outs c.in_ok-outs.ensures.none in
    record {
      ins = none-are-read r.side v us c.in_ok-ins.ins c.in_ok-ins.ensures.long c.in_ok-ins.ensures.none;
      outs = none-are-read (opposite r.side) v us c.in_ok-outs.outs c.in_ok-outs.ensures.long c.in_ok-outs.ensures.none;
      most = omega arith;
      draft = draft-start r v us c.args.kept.now (map (λ w. w.items) c.new-draft.result.items) (ap (map (λ w. w.items)) c.new-draft.ensures.items);
      told = λ x there. none-was us c.in_ok-outs.outs x c.in_ok-outs.ensures.none;
      computed = λ x there. none-was us c.in_ok-ins.ins x c.in_ok-ins.ensures.none;
      reads = omega (arith, ins, outs);
    }

pub returns-clause-reads : goal.returns-clause-reads
returns-clause-reads g c =
    let r = g.R.PullRule.seen c.args.rule.now in
    let v = g.V.View.seen c.args.view.now in
    let us = c.args.users.now in
    let net = net_in r.side v us c.args.kept.now in
    let e = keeping r.first us c.args.kept.now in
    let all : c.loop-layer.layer ≡ g.R.PullRule.LAYERS = omega (arith, c.loop-layer-test.false, c.loop-layer.invariant.most, c.LAYERS-layer-end.ensures) in
    let outs = read-within (opposite r.side) v us c.loop-layer.outs (λ y. ever (λ j. changes r net e j (layer_in r net j) y) c.loop-layer.layer)
    c.loop-layer.invariant.told in
    let ins = read-within r.side v us c.loop-layer.ins (λ x. ever (λ j. is_due r net e us j (layer_in r net j) x) c.loop-layer.layer)
    c.loop-layer.invariant.computed in
    let same = ap (settle_reads r net v e us) all in
    omega (arith, outs, ins, same, c.loop-layer.invariant.reads)
