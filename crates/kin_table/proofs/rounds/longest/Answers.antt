use Rattle.std.proofs.Common.{◌≡◌, max, length, rules, sym, ◌∙◌}
use Rattle.kin_ids.proofs.Rounds.{longest-step}
use Rattle.kin_table.proofs.rounds.longest.Goals as goal

pub loop-list-preserved : goal.loop-list-preserved
loop-list-preserved c =
    let most : c.max-most.result ≡ max c.loop-list.most (length c.list-item.result) = search rules in
    rw most (sym (longest-step c.args.lists.now c.list-item.result c.loop-list.most c.loop-list.list-index c.loop-list-test.true c.list-item.is) ∙ c.loop-list.invariant)
