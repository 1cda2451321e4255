use Rattle.std.proofs.Common.{◌≡◌, ◌+◌, ◌≤◌, ◌∙◌, ℕ, Bool, List, Option, sym, subst, refl}
use Rattle.kin_push.specs.Facts.{On, to_read}
use Rattle.kin_push.specs.States.{state}
use Rattle.kin_mine.specs.Lanes.{IsSettled}
use Rattle.kin_mine.specs.Marks.{rule_of}
use Rattle.kin_mine.proofs.Writes.{written}
use Rattle.kin_mine.proofs.lanes.settle_lane.Goals as goal

pub settle-requires-clause-on : goal.settle-requires-clause-on
settle-requires-clause-on g c = subst (λ (vs : List (Option ℕ)). On (rule_of c.args.distance c.args.landmark) (g.V.View.seen c.args.view.now) (state c.args.users.now vs c.args.marks.now)) (sym c.as_mut_slice-values.ensures.value) c.requires.on

pub returns-clause-on : goal.returns-clause-on
returns-clause-on g c = written (λ (_ vs : List (Option ℕ)). On (rule_of c.args.distance c.args.landmark) (g.V.View.seen c.args.view.now) (state c.args.users.now vs c.settle.new.active)) _ c.args.column.now.values.items c.as_mut_slice-values.result.now c.settle.new.values
    c.as_mut_slice-values.ensures.value c.as_mut_slice-values.ensures.len (c.settle.ensures.state.valued ∙ sym c.requires.state.valued) c.settle.ensures.on

pub returns-clause-reads : goal.returns-clause-reads
returns-clause-reads g c = written (λ (old new : List (Option ℕ)). c.settle.new.steps + to_read (rule_of c.args.distance c.args.landmark) (g.V.View.seen c.args.view.now) (state c.args.users.now new c.settle.new.active)
    ≤ c.args.steps.now + to_read (rule_of c.args.distance c.args.landmark) (g.V.View.seen c.args.view.now) (state c.args.users.now old c.args.marks.now)) _ c.args.column.now.values.items c.as_mut_slice-values.result.now c.settle.new.values
    c.as_mut_slice-values.ensures.value c.as_mut_slice-values.ensures.len (c.settle.ensures.state.valued ∙ sym c.requires.state.valued) c.settle.ensures.reads

pub returns-clause-settled : goal.returns-clause-settled
returns-clause-settled g c = written (λ (old new : List (Option ℕ)). IsSettled (rule_of c.args.distance c.args.landmark) (g.V.View.seen c.args.view.now) (state c.args.users.now old c.args.marks.now) (state c.args.users.now new c.settle.new.active)) _
    c.args.column.now.values.items c.as_mut_slice-values.result.now c.settle.new.values
    c.as_mut_slice-values.ensures.value c.as_mut_slice-values.ensures.len (c.settle.ensures.state.valued ∙ sym c.requires.state.valued)
    (record { turns = c.settle.ensures.turns; quiet = c.settle.ensures.quiet; values = c.settle.ensures.values; idle = λ none. let same = c.settle.ensures.idle none in rw (same.0, same.1) refl })
