use Rattle.std.proofs.Common.{◌∙◌, true, ap, length}
use Rattle.std.proofs.lemmas.List.{length-set}
use Rattle.kin_rules.proofs.Places.{has-get}
use Rattle.kin_push.proofs.Starting.{mark-all, mark-more}
use Rattle.kin_push.proofs.begins.mark_starts.Goals as goal

pub place_of-requires-clause-there : goal.place_of-requires-clause-there
place_of-requires-clause-there c = c.requires.within _ (has-get c.args.starts.now c.loop-start.start-index (record { 0 = 0 })
    c.loop-start-test.true)

pub loop-start-preserved : goal.loop-start-preserved
loop-start-preserved c = record {
  marked = ap length c.mark.ensures ∙ length-set c.loop-start.active c.place_of.result true ∙ c.loop-start.invariant.marked;
  active = λ values u. mark-more c.args.users.now _ c.loop-start.active c.mark.new.self c.args.starts.now c.loop-start.start-index
      c.place_of.result (record { 0 = 0 }) u c.loop-start.invariant.marked
      (c.requires.within _ (has-get c.args.starts.now c.loop-start.start-index (record { 0 = 0 }) c.loop-start-test.true))
      c.place_of.ensures.place c.mark.ensures c.loop-start-test.true (c.loop-start.invariant.active values u);
}

pub returns-clause-active : goal.returns-clause-active
returns-clause-active c values u = mark-all _ _ c.args.starts.now c.loop-start.start-index u c.loop-start-test.false
    (c.loop-start.invariant.active values u)
