use Rattle.std.proofs.Common.{◌≡◌, ◌∙◌, ◌≤◌, ◌+◌, ◌||◌, ℕ, Bool, false, List, length, ap, ap₂, refl, sym, subst}
use Rattle.kin_ids.specs.declared.ids.User.{User}
use Rattle.kin_rules.specs.Columns.{columns_of}
use Rattle.kin_rules.specs.Results.{ColumnView, ResultView}
use Rattle.kin_mine.specs.declared.walk_rules.Distance.TheVariants as distance
use Rattle.kin_mine.specs.Lanes.{IsSettled, IsTurned}
use Rattle.kin_mine.specs.Marks.{are_quiet, rule_of}
use Rattle.kin_mine.specs.Walkers.{AllLanes, AreEntered, AreFresh, AreSettled, AreStill, AreTurned, HaveStates, WalkOn, WalkersView, is_walking, starts_of, walkers_by, walks_owed}
use Rattle.kin_mine.proofs.Walking.{lanes-are, lent-on, on-is, owed-is, rest, same}
use Rattle.kin_mine.proofs.walkers.Walkers.settle.Goals as goal

pub returns-clause-on : goal.returns-clause-on
returns-clause-on g c = on-is c.args.columns.now c.take_walks-walks.new.self c.put_walks.new.self (columns_of c.settle_lanes.new.columns.items) (columns_of c.settle_lanes-2.new.columns.items) c.take_walks-walks.ensures.rest c.put_walks.ensures c.users.result.now c.users-2.result.now c.users.ensures.users c.users-2.ensures.users (g.V.View.seen c.args.view.now) c.args.landmarks.now c.settle_lanes.new.marks.items c.settle_lanes-2.new.marks.items c.settle_lanes.ensures.on c.settle_lanes-2.ensures.on

pub returns-clause-settles : goal.returns-clause-settles
returns-clause-settles g c =
    subst (λ (w : WalkersView). AreSettled (g.V.View.seen c.args.view.now) c.args.landmarks.now c.args.columns.now w c.put_walks.new.self (walkers_by c.settle_lanes.new.marks.items c.settle_lanes-2.new.marks.items)) c.self.view_is
    (lanes-are c.args.columns.now c.take_walks-walks.new.self c.put_walks.new.self (columns_of c.settle_lanes.new.columns.items) (columns_of c.settle_lanes-2.new.columns.items) c.take_walks-walks.ensures.rest c.put_walks.ensures c.users.result.now c.users-2.result.now c.users.ensures.users c.users-2.ensures.users c.args.landmarks.now (columns_of c.take_walks-walks.result.hops.items) (columns_of c.take_walks-walks.result.close.items) c.take_walks-walks.ensures.hops c.take_walks-walks.ensures.close (walkers_by c.self.inside.hop_marks.items c.self.inside.close_marks.items) c.settle_lanes.new.marks.items c.settle_lanes-2.new.marks.items (λ d l. IsSettled (rule_of d l) (g.V.View.seen c.args.view.now)) c.settle_lanes.ensures.each c.settle_lanes-2.ensures.each)

pub returns-clause-rest : goal.returns-clause-rest
returns-clause-rest g c = rest c.args.columns.now c.take_walks-walks.new.self c.put_walks.new.self (columns_of c.settle_lanes.new.columns.items) (columns_of c.settle_lanes-2.new.columns.items) c.take_walks-walks.ensures.rest c.put_walks.ensures

pub returns-clause-idle : goal.returns-clause-idle
returns-clause-idle g c still =
    let off = subst AreStill (sym c.self.view_is) still in
    let x = c.settle_lanes.ensures.idle off.0 in
    let y = c.settle_lanes-2.ensures.idle off.1 in
    (same c.args.columns.now c.take_walks-walks.new.self c.put_walks.new.self (columns_of c.settle_lanes.new.columns.items) (columns_of c.settle_lanes-2.new.columns.items) c.take_walks-walks.ensures.rest c.put_walks.ensures c.users.result.now c.users-2.result.now c.users.ensures.users c.users-2.ensures.users c.args.landmarks.now (columns_of c.take_walks-walks.result.hops.items) (columns_of c.take_walks-walks.result.close.items) c.take_walks-walks.ensures.hops c.take_walks-walks.ensures.close (walkers_by c.self.inside.hop_marks.items c.self.inside.close_marks.items) c.settle_lanes.new.marks.items c.settle_lanes-2.new.marks.items x.0 y.0, ap₂ walkers_by x.1 y.1 ∙ c.self.view_is, y.2 ∙ x.2)

pub returns-clause-reads : goal.returns-clause-reads
returns-clause-reads g c =
    subst (λ (w : WalkersView). c.settle_lanes-2.new.steps + walks_owed (g.V.View.seen c.args.view.now) c.args.landmarks.now c.put_walks.new.self (walkers_by c.settle_lanes.new.marks.items c.settle_lanes-2.new.marks.items) ≤ c.args.steps.now + walks_owed (g.V.View.seen c.args.view.now) c.args.landmarks.now c.args.columns.now w) c.self.view_is
    (owed-is c.args.columns.now c.take_walks-walks.new.self c.put_walks.new.self (columns_of c.settle_lanes.new.columns.items) (columns_of c.settle_lanes-2.new.columns.items) c.take_walks-walks.ensures.rest c.put_walks.ensures c.users.result.now c.users-2.result.now c.users.ensures.users c.users-2.ensures.users c.args.landmarks.now (columns_of c.take_walks-walks.result.hops.items) (columns_of c.take_walks-walks.result.close.items) c.take_walks-walks.ensures.hops c.take_walks-walks.ensures.close (walkers_by c.self.inside.hop_marks.items c.self.inside.close_marks.items) c.settle_lanes.new.marks.items c.settle_lanes-2.new.marks.items (g.V.View.seen c.args.view.now) c.args.steps.now c.settle_lanes.new.steps c.settle_lanes-2.new.steps c.settle_lanes.ensures.reads c.settle_lanes-2.ensures.reads)
