use Rattle.std.proofs.Common.{◌<◌, ◌∙◌, ◌++◌, ℕ, List, length, ap, ap₂, subst, sym}
use Rattle.kin_rules.specs.declared.exposure_rules.UseK.{UseK}
use Rattle.kin_scores.proofs.Rows.{row-mine, row-others, flat-more}
use Rattle.kin_scores.proofs.turns.entries_with.Goals as goal
use Rattle.kin_scores.proofs.turns.entries_with.Goals.{then-users-i+in_ok-extend_from_slice, else-users-i+in_ok-extend_from_slice-2}

pub loop-i-preserved : goal.loop-i-preserved
loop-i-preserved c = λ next row.
    let lt : c.loop-i.i < length next = subst (λ (n : ℕ). c.loop-i.i < n) (sym row.0) c.loop-i-test.true in
    elim c.if-users-i.branch [
      | then-users-i+in_ok-extend_from_slice w ↦
          ap (λ v. v.items) w.entries-is ∙ w.in_ok-extend_from_slice.ensures.items
          ∙ ap₂ (λ (xs ys : List UseK). xs ++ ys) (c.loop-i.invariant next row)
          (sym (row-mine c.args.users.now c.args.rows.now next c.args.u c.loop-i.i c.args.own.now _ c.requires.ascend c.loop-i-test.true row.1 w.if-users-i.true))
          ∙ sym (flat-more next c.loop-i.i lt)
      | else-users-i+in_ok-extend_from_slice-2 w ↦
          ap (λ v. v.items) w.entries-is ∙ w.in_ok-extend_from_slice-2.ensures.items
          ∙ ap₂ (λ (xs ys : List UseK). xs ++ ys) (c.loop-i.invariant next row)
          (w.as_slice.ensures ∙ w.index-rows-i.is ∙ sym (row-others c.args.users.now c.args.rows.now next c.args.u c.loop-i.i c.args.own.now _ c.requires.ascend c.loop-i-test.true row.1 _ c.requires.long w.if-users-i.false))
          ∙ sym (flat-more next c.loop-i.i lt)
    ]
