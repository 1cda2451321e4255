use Rattle.std.proofs.Common.{◌≡◌, ◌+◌, List, Bool, [], ◌∙◌, sym, subst}
use Rattle.std.proofs.lemmas.List.{get_or_default}
use Rattle.kin_mine.specs.Marks.{IsFirstIn}
use Rattle.kin_mine.proofs.Firsts.{IsFirstOf, first-more, first-none, first-of, first-some}
use Rattle.kin_mine.proofs.lanes.first_of.Goals as goal

pub loop-on-preserved : goal.loop-on-preserved
loop-on-preserved c =
    let one = first-of c.on-item.result c.first.result c.first.ensures.some c.first.ensures.none in
    let at = c.on-item.is ∙ get_or_default c.args.marks.now c.loop-on.on-index c.on-item.result [] c.loop-on-test.true in
    subst (IsFirstIn c.args.marks.now (c.loop-on.on-index + 1)) (sym c.lesser-first.ensures)
    (first-more c.args.marks.now c.loop-on.on-index c.loop-on.first c.first.result c.loop-on.invariant (subst (λ (on : List Bool). IsFirstOf on c.first.result) at one))

pub returns-clause-none : goal.returns-clause-none
returns-clause-none c e = first-none c.args.marks.now c.loop-on.on-index c.loop-on.first c.loop-on-test.false c.loop-on.invariant e

pub returns-clause-some : goal.returns-clause-some
returns-clause-some c = first-some c.args.marks.now c.loop-on.on-index c.loop-on.first c.loop-on-test.false c.loop-on.invariant
