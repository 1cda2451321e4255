use Rattle.std.proofs.Common.{◌<◌, ◌≤◌, ◌∙◌, leb, ap, subst, arith}
use Rattle.std.proofs.lemmas.Bool.{le-leb, lt-leb}
use Rattle.kin_history.proofs.Firsts.{none-first}
use Rattle.kin_hub.specs.Hubs.{committed_in}
use Rattle.kin_world.specs.Worlds.{WorldView}
use Rattle.kin_world.proofs.Lagging.{first-at}
use Rattle.kin_world.proofs.cores.Core.lagging.Goals as goal

pub returns-then-committed-epoch : goal.returns-then-committed-epoch
returns-then-committed-epoch c =
    let w = c.args.self.now in
    let p = c.loop-p.p in
    let at = c.committed.ensures ∙ ap (λ (v : WorldView). committed_in v.hub p) c.self.view_is in
    let lt = subst (λ (v : WorldView). p < v.parts) c.self.view_is c.loop-p-test.true in
    let less = c.if-committed-epoch.true in
    first-at 0 w.parts (λ q. leb c.args.epoch (committed_in w.hub q)) p (omega arith) (omega arith) (lt-leb _ _ (omega arith)) (λ q le q_lt. le-leb _ _ (c.loop-p.invariant q q_lt))

pub returns : goal.returns
returns c =
    let w = c.args.self.now in
    let done = subst (λ (v : WorldView). v.parts ≤ c.loop-p.p) c.self.view_is c.loop-p-test.false in
    none-first 0 w.parts (λ q. leb c.args.epoch (committed_in w.hub q)) (λ q le q_lt. le-leb _ _ (c.loop-p.invariant q (omega arith)))
