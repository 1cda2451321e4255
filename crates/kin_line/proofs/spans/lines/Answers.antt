use Rattle.std.proofs.Common.{rules, arith, ◌≡◌, ◌==◌, ◌+◌, subst, false, length, map, All}
use Rattle.std.specs.Prelude.{slice_index}
use Rattle.std.proofs.lemmas.List.Elements.{All-push}
use Rattle.kin_line.specs.Lines.{IsWithin, lines, text_at}
use Rattle.kin_line.proofs.Cuts.{IsCut, uncut, kept, added, closed, last}
use Rattle.kin_line.proofs.spans.lines.Goals as goal
use Rattle.kin_line.proofs.spans.lines.Goals.{then-bytes-end-eq10+in_ok-push, else-bytes-end-eq10, then-from-bytes+in_ok-push-2, else-from-bytes}

pub line_before-requires-clause-ordered : goal.line_before-requires-clause-ordered
line_before-requires-clause-ordered c = c.loop-end.invariant.ordered

pub loop-end-init : goal.loop-end-init
loop-end-init c = rw (c.new-spans.ensures.items) (uncut c.args.bytes.now)

pub loop-end-preserved : goal.loop-end-preserved
loop-end-preserved c = elim c.if-bytes-end-eq10.branch [
  | then-bytes-end-eq10+in_ok-push w ↦
      let ends : slice_index c.args.bytes.now c.loop-end.end ≡ 10 = search rules in
      let next = added c.args.bytes.now c.loop-end.spans.items c.loop-end.from c.loop-end.end c.loop-end.invariant w.line_before.result (search rules) ends
      w.line_before.ensures.text w.line_before.ensures.within in
      rw (w.spans-is, w.from-is) (subst (λ v. IsCut c.args.bytes.now v (c.loop-end.end + 1) (c.loop-end.end + 1)) (search rules) next)
  | else-bytes-end-eq10 w ↦
      let other : (slice_index c.args.bytes.now c.loop-end.end == 10) ≡ false = search rules in
      rw (w.spans-is, w.from-is) (kept c.args.bytes.now c.loop-end.spans.items c.loop-end.from c.loop-end.end c.loop-end.invariant (search rules) other)
]

pub returns-clause-lines : goal.returns-clause-lines
returns-clause-lines c =
    let bytes = c.args.bytes.now in
    let all : c.loop-end.end ≡ length bytes = omega (arith, c.loop-end-test.false, c.loop-end.auto.end-end) in
    elim c.if-from-bytes.branch [
      | then-from-bytes+in_ok-push-2 w ↦
          rw (w.spans-is) (subst (λ v. map (text_at bytes) v ≡ lines bytes) (search rules)
          (last bytes c.loop-end.spans.items c.loop-end.from c.loop-end.end c.loop-end.invariant all (search rules)))
      | else-from-bytes w ↦
          rw (w.spans-is) (closed bytes c.loop-end.spans.items c.loop-end.from c.loop-end.end c.loop-end.invariant (search rules))
    ]

pub returns-clause-within : goal.returns-clause-within
returns-clause-within c =
    let bytes = c.args.bytes.now in
    elim c.if-from-bytes.branch [
      | then-from-bytes+in_ok-push-2 w ↦
          let inside : IsWithin bytes (record { from = c.loop-end.from; to = length bytes }) = record { ordered = search rules; ends = search rules } in
          rw (w.spans-is) (subst (λ v. All (IsWithin bytes) v) (search rules) (All-push (IsWithin bytes) c.loop-end.spans.items _ c.loop-end.invariant.within inside))
      | else-from-bytes w ↦ rw (w.spans-is) (c.loop-end.invariant.within)
    ]
