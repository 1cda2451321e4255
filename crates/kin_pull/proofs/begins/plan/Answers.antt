use Rattle.std.proofs.Common.{◌∙◌, ap, sym, subst, get_or, length, map, Some, None, false, if◌then◌else◌, arith}
use Rattle.kin_pull.specs.Begins.{IsBegun, is_rewired}
use Rattle.kin_pull.specs.Plans.{start_of}
use Rattle.kin_pull.specs.States.{KeptView, now_in}
use Rattle.kin_pull.proofs.Plans.{plan-begun}
use Rattle.kin_pull.proofs.begins.plan.Goals as goal

pub returns-clause-begun : goal.returns-clause-begun
returns-clause-begun g c =
    let r = g.R.PullRule.seen c.args.rule.now in
    let us = c.args.users.now in
    let k = c.args.kept.now in
    let vs = c.args.more.now in
    let ds = c.args.deltas.now in
    let wired = ap (λ ms. length ms) c.as_slice-2.ensures.value ∙ c.in_ok-wired.ensures.long in
    subst (λ (n : KeptView g.row.R-Value.Denot). IsBegun r ds us k vs n) (sym c.of.ensures)
    (plan-begun r g.R.PullRule.LAYERS ds us k c.requires.kept vs c.requires.ascend c.requires.all c.requires.touched c.requires.rewired
    (map (λ w. w.items) c.in_ok-rows.rows.items) c.in_ok-rows.ensures
    c.in_ok-facts.facts.items c.change_facts.new.facts.items c.in_ok-facts.ensures c.in_ok-change_facts.ensures.long
    c.in_ok-change_facts.ensures.facts
    c.in_ok-touched.touched.items c.in_ok-wired.wired.items c.in_ok-touched.ensures.marks (λ x h. c.in_ok-wired.ensures.marks x h
    ∙ ap (λ s. is_rewired s ds x) c.side.ensures)
    c.in_ok-told.told.items c.in_ok-told.ensures.long
    (λ i d lt. c.in_ok-told.ensures.told i d lt ∙ ap (λ ms. if get_or ms i false then Some (now_in us k
    (get_or vs i d)) else None) c.as_slice.ensures.value)
    c.in_ok-low.low.items (c.in_ok-low.ensures.long ∙ wired)
    (λ i df lt. c.in_ok-low.ensures.starts i df (omega (arith, lt, wired)) ∙ (λ t. start_of r (get_or
    (c.as_slice-2.ensures.value t) i false) (get_or (c.as_slice-3.ensures.value t) i None) (get_or (c.as_slice-4.ensures.value t) i df))))
