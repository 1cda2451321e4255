use Rattle.std.proofs.Common.{◌∙◌, ◌+◌, ap, ap₂, get_or, unwrap_or, length, List, None, arith, ℕ, slice_index_or}
use Rattle.std.proofs.lemmas.List.{get_or_default, length_push}
use Rattle.kin_rules.specs.declared.pull_rules.Facts.{Facts}
use Rattle.kin_rules.proofs.LayerRows.{if-some}
use Rattle.kin_pull.specs.States.{row_in}
use Rattle.kin_pull.proofs.Plans.{item-step}
use Rattle.kin_pull.proofs.passes.shares_of.Goals as goal

pub loop-i-preserved : goal.loop-i-preserved
loop-i-preserved g c =
    let k = c.args.kept.now in
    let share = g.R.PullRule.share c.args.rule.now in
    record {
      long = ap (λ (ns : List ℕ). length ns) c.in_ok-push.ensures.items ∙ (length_push c.loop-i.shares.items c.in-Some.share
          ∙ ap (λ (n : ℕ). n + 1) c.loop-i.invariant.long);
      each = λ p df lt.
          let facts = c.index-facts-i.is ∙ (ap (λ (fs : List Facts). get_or fs c.loop-i.i c.index-facts-i.result) c.facts.ensures
          ∙ get_or_default k.facts c.loop-i.i c.index-facts-i.result df (omega (arith, c.requires, c.loop-i-test.true))) in
          item-step (λ (i : ℕ). share (get_or k.facts i df)
          (unwrap_or (slice_index_or c.args.drawn.now i None) (slice_index_or (row_in k c.args.layer) i c.args.first.now)))
          c.loop-i.shares.items c.push.new.self.items c.in-Some.share 0 c.loop-i.i c.loop-i.invariant.long
          (if-some _ _ _ c.in-Some.is c.share.ensures ∙ ap₂ share facts c.drawn_value-value.ensures) c.in_ok-push.ensures.items
          (λ i below. c.loop-i.invariant.each i df below) p lt;
    }
