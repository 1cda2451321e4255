use Rattle.std.proofs.Common.{rules, ◌≡◌, sym, subst, IfErr}
use Rattle.std.proofs.lemmas.Result.{IfErr-weaker}
use Rattle.kin_script.specs.Schedules.{IsFirstOutside}
use Rattle.kin_script.specs.Ends.{IfLine}
use Rattle.kin_script.proofs.Scripts.{next_read, ends_there}
use Rattle.kin_script.proofs.schedules.read_lines.Goals as goal

pub returns-in_err-push_line-clause-line : goal.returns-in_err-push_line-clause-line
returns-in_err-push_line-clause-line c =
    let fault = c.in_err-push_line.field-0.0 in
    let same : IfErr c.from_residual.result (λ f. f ≡ fault) = search rules in
    let outside = ends_there c.args.nodes c.args.parts c.args.bytes.now c.args.spans.now c.requires.spans c.loop-index.index c.loop-index-test.true _
    c.loop-index.script.items fault c.loop-index.invariant c.in_err-push_line.ensures.line in
    IfErr-weaker c.from_residual.result _ _ (λ f is. subst (IfLine (IsFirstOutside c.args.nodes c.args.parts c.args.bytes.now)) (sym is) outside) same

pub loop-index-preserved : goal.loop-index-preserved
loop-index-preserved c =
    next_read c.args.nodes c.args.parts c.args.bytes.now c.args.spans.now c.requires.spans c.loop-index.index c.loop-index-test.true _
    c.loop-index.script.items c.push_line.new.script.items c.loop-index.invariant c.in_ok-push_line.ensures.ok
