use Rattle.std.proofs.Common.{◌∙◌, List, Bool, length, ap, sym}
use Rattle.std.proofs.lemmas.List.{length-map}
use Rattle.kin_rules.specs.declared.columns.Column.{Column}
use Rattle.kin_rules.specs.Columns.{column_of, columns_of}
use Rattle.kin_mine.specs.Lanes.{AreAllDone, IsSettled, lanes}
use Rattle.kin_mine.specs.Marks.{are_quiet, rule_of}
use Rattle.kin_mine.proofs.Writes.{both-written, written}
use Rattle.kin_mine.proofs.lanes.settle_lanes.Goals as goal

pub returns-clause-each : goal.returns-clause-each
returns-clause-each g c =
    let e = c.settle_slices.ensures.each in
    let new = length-map c.settle_slices.new.columns column_of in
    let old = length-map c.as_mut_slice-columns.result.now column_of in
    both-written (λ (xs ys : List Column) (ms ns : List (List Bool)). AreAllDone (λ l. IsSettled (rule_of c.args.distance l) (g.V.View.seen c.args.view.now)) c.args.landmarks.now c.args.users.now (lanes (columns_of xs) ms) (lanes (columns_of ys) ns)) _ _
    c.args.columns.now.items c.as_mut_slice-columns.result.now c.settle_slices.new.columns c.args.marks.now.items c.as_mut_slice-marks.result.now c.settle_slices.new.marks
    c.as_mut_slice-columns.ensures.value c.as_mut_slice-columns.ensures.len (sym new ∙ (e.columns_are ∙ old)) c.as_mut_slice-marks.ensures.value c.as_mut_slice-marks.ensures.len e.marks_are e

pub returns-clause-quiet : goal.returns-clause-quiet
returns-clause-quiet g c = written (λ (_ ms : List (List Bool)). are_quiet ms) _ c.args.marks.now.items c.as_mut_slice-marks.result.now c.settle_slices.new.marks c.as_mut_slice-marks.ensures.value c.as_mut_slice-marks.ensures.len
    (c.settle_slices.ensures.each.marks_are ∙ ap (λ (ms : List (List Bool)). length ms) c.as_mut_slice-marks.ensures.value) c.settle_slices.ensures.quiet
