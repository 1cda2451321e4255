use Rattle.std.proofs.Common.{◌<◌, ◌∙◌, ◌++◌, ℕ, List, length, ap, ap₂, arith, subst, sym}
use Rattle.std.specs.List.{flat_map}
use Rattle.std.proofs.lemmas.List.{take_all}
use Rattle.kin_rules.specs.declared.exposure_rules.UseK.{UseK}
use Rattle.kin_pull.specs.Passes.{drafted_at}
use Rattle.kin_scores.proofs.Rows.{flat-more}
use Rattle.kin_scores.proofs.settles.entries_after.Goals as goal

pub loop-i-preserved : goal.loop-i-preserved
loop-i-preserved c = λ next row.
    let lt : c.loop-i.i < length next = subst (λ (n : ℕ). c.loop-i.i < n) (sym row.0) c.loop-i-test.true in
    c.in_ok-extend_from_slice.ensures.items
    ∙ ap₂ (λ (xs ys : List UseK). xs ++ ys) (c.loop-i.invariant next row)
    (c.as_slice.ensures ∙ c.value_of.ensures ∙ ap (drafted_at c.args.plan.now c.args.expos.now 1 c.loop-i.i) c.new-none.ensures ∙ sym (row.1 c.loop-i.i))
    ∙ sym (flat-more next c.loop-i.i lt)

pub returns : goal.returns
returns c = λ next row.
    let over = c.loop-i-test.false in
    let long = row.0 in
    c.loop-i.invariant next row ∙ ap (λ (rows : List (List UseK)). flat_map (λ (one : List UseK). one) rows) (take_all c.loop-i.i next (omega (arith, over, long)))
