use Rattle.std.proofs.Common.{◌≡◌, ◌∙◌, List, Bool, ap, sym, subst, length}
use Rattle.kin_ids.specs.Graph.{empty_graph}
use Rattle.kin_mine.specs.Miners.{IsMinerOf, IsMining}
use Rattle.kin_mine.proofs.Opened.{first-mining, first-stands, made-first}
use Rattle.kin_mine.proofs.miners.Miner.new.Goals as goal

pub invariant_of-result : goal.invariant_of-result
invariant_of-result c =
    subst IsMining (made-first c.args.landmarks.now c.in_ok-nobody.field-0 c.in_ok-nobody.ensures.kept c.in_ok-nobody.ensures.on c.in_ok-nobody.ensures.shown c.in_ok-from_slice.field-0.items c.in_ok-new.field-0 c.in_ok-still.field-0
    c.in_ok-from_slice.ensures.items c.in_ok-new.ensures.value c.in_ok-still.ensures) (first-mining c.args.landmarks.now c.in_ok-nobody.field-0 c.in_ok-nobody.ensures.kept c.in_ok-nobody.ensures.on c.in_ok-nobody.ensures.shown)

pub returns-clause-stands : goal.returns-clause-stands
returns-clause-stands c =
    subst (IsMinerOf empty_graph 0) (made-first c.args.landmarks.now c.in_ok-nobody.field-0 c.in_ok-nobody.ensures.kept c.in_ok-nobody.ensures.on c.in_ok-nobody.ensures.shown c.in_ok-from_slice.field-0.items c.in_ok-new.field-0 c.in_ok-still.field-0
    c.in_ok-from_slice.ensures.items c.in_ok-new.ensures.value c.in_ok-still.ensures) (first-stands c.args.landmarks.now c.in_ok-nobody.field-0 c.in_ok-nobody.ensures.kept c.in_ok-nobody.ensures.on c.in_ok-nobody.ensures.shown)
