use Rattle.std.proofs.Common.{◌≡◌, ◌+◌, ◌≤◌, ◌∙◌, ℕ, Bool, List, Option, sym, subst, refl}
use Rattle.kin_push.specs.Facts.{On, to_read}
use Rattle.kin_push.specs.States.{state}
use Rattle.kin_mine.specs.Marks.{rule_of}
use Rattle.kin_mine.proofs.Writes.{written}
use Rattle.kin_mine.proofs.lanes.turn_lane.Goals as goal

pub make_turn-requires-clause-on : goal.make_turn-requires-clause-on
make_turn-requires-clause-on g c = subst (λ (vs : List (Option ℕ)). On (rule_of c.args.distance c.args.landmark) (g.V.View.seen c.args.view.now) (state c.args.users.now vs c.args.marks.now)) (sym c.as_mut_slice-values.ensures.value) c.requires.on

pub returns-clause-on : goal.returns-clause-on
returns-clause-on g c = written (λ (_ vs : List (Option ℕ)). On (rule_of c.args.distance c.args.landmark) (g.V.View.seen c.args.view.now) (state c.args.users.now vs c.make_turn.new.active)) _ c.args.column.now.values.items c.as_mut_slice-values.result.now c.make_turn.new.values
    c.as_mut_slice-values.ensures.value c.as_mut_slice-values.ensures.len (c.make_turn.ensures.state.valued ∙ sym c.requires.state.valued) c.make_turn.ensures.on

pub returns-clause-reads : goal.returns-clause-reads
returns-clause-reads g c = written (λ (old new : List (Option ℕ)). c.make_turn.new.steps + to_read (rule_of c.args.distance c.args.landmark) (g.V.View.seen c.args.view.now) (state c.args.users.now new c.make_turn.new.active)
    ≤ c.args.steps.now + to_read (rule_of c.args.distance c.args.landmark) (g.V.View.seen c.args.view.now) (state c.args.users.now old c.args.marks.now)) _ c.args.column.now.values.items c.as_mut_slice-values.result.now c.make_turn.new.values
    c.as_mut_slice-values.ensures.value c.as_mut_slice-values.ensures.len (c.make_turn.ensures.state.valued ∙ sym c.requires.state.valued) c.make_turn.ensures.reads
