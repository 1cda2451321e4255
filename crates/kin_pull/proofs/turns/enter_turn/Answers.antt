use Rattle.kin_pull.proofs.Turned.{planned-below, turn-made}
use Rattle.kin_pull.proofs.turns.enter_turn.Goals as goal

pub turn_over-requires-clause-readers : goal.turn_over-requires-clause-readers
turn_over-requires-clause-readers g c =
    planned-below (g.R.PullRule.seen c.args.rule.now) g.R.PullRule.LAYERS (g.V.View.seen c.args.view.now) c.args.users.now c.args.kept.now
    c.args.u c.args.plan
    (record {
      place = c.plan.inside.place;
      column = c.plan.inside.column.items;
      from = c.plan.inside.from;
      readers = c.plan.inside.readers.items;
    }) c.plan.view_is c.requires.plan c.as_slice.result.now c.as_slice.ensures.value _
    c.requires.kept.low

pub returns-clause-on : goal.returns-clause-on
returns-clause-on g c =
    (turn-made (g.R.PullRule.seen c.args.rule.now) (g.met.R.PullRule.laws c.args.rule.now) g.R.PullRule.LAYERS
    (g.V.View.seen c.args.view.now) c.args.users.now c.args.kept.now c.requires.kept c.requires.on c.args.u c.args.plan
    (record {
      place = c.plan.inside.place;
      column = c.plan.inside.column.items;
      from = c.plan.inside.from;
      readers = c.plan.inside.readers.items;
    }) c.plan.view_is c.requires.plan c.as_slice.result.now c.as_slice.ensures.value
    c.turn_over.new.self c.turn_over.ensures).on

pub returns-clause-rested : goal.returns-clause-rested
returns-clause-rested g c =
    (turn-made (g.R.PullRule.seen c.args.rule.now) (g.met.R.PullRule.laws c.args.rule.now) g.R.PullRule.LAYERS
    (g.V.View.seen c.args.view.now) c.args.users.now c.args.kept.now c.requires.kept c.requires.on c.args.u c.args.plan
    (record {
      place = c.plan.inside.place;
      column = c.plan.inside.column.items;
      from = c.plan.inside.from;
      readers = c.plan.inside.readers.items;
    }) c.plan.view_is c.requires.plan c.as_slice.result.now c.as_slice.ensures.value
    c.turn_over.new.self c.turn_over.ensures).rested

pub returns-clause-moved : goal.returns-clause-moved
returns-clause-moved g c =
    (turn-made (g.R.PullRule.seen c.args.rule.now) (g.met.R.PullRule.laws c.args.rule.now) g.R.PullRule.LAYERS
    (g.V.View.seen c.args.view.now) c.args.users.now c.args.kept.now c.requires.kept c.requires.on c.args.u c.args.plan
    (record {
      place = c.plan.inside.place;
      column = c.plan.inside.column.items;
      from = c.plan.inside.from;
      readers = c.plan.inside.readers.items;
    }) c.plan.view_is c.requires.plan c.as_slice.result.now c.as_slice.ensures.value
    c.turn_over.new.self c.turn_over.ensures).moved

pub returns-clause-row : goal.returns-clause-row
returns-clause-row g c =
    (turn-made (g.R.PullRule.seen c.args.rule.now) (g.met.R.PullRule.laws c.args.rule.now) g.R.PullRule.LAYERS
    (g.V.View.seen c.args.view.now) c.args.users.now c.args.kept.now c.requires.kept c.requires.on c.args.u c.args.plan
    (record {
      place = c.plan.inside.place;
      column = c.plan.inside.column.items;
      from = c.plan.inside.from;
      readers = c.plan.inside.readers.items;
    }) c.plan.view_is c.requires.plan c.as_slice.result.now c.as_slice.ensures.value
    c.turn_over.new.self c.turn_over.ensures).row
