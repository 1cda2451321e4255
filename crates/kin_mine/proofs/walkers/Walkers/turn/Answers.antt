use Rattle.std.proofs.Common.{◌≡◌, ◌∙◌, ◌≤◌, ◌+◌, ◌||◌, ℕ, Bool, false, List, length, ap, ap₂, refl, sym, subst}
use Rattle.kin_ids.specs.declared.ids.User.{User}
use Rattle.kin_rules.specs.Columns.{columns_of}
use Rattle.kin_rules.specs.Results.{ColumnView, ResultView}
use Rattle.kin_mine.specs.declared.walk_rules.Distance.TheVariants as distance
use Rattle.kin_mine.specs.Lanes.{IsSettled, IsTurned}
use Rattle.kin_mine.specs.Marks.{are_quiet, rule_of}
use Rattle.kin_mine.specs.Walkers.{AllLanes, AreEntered, AreFresh, AreSettled, AreStill, AreTurned, HaveStates, WalkOn, WalkersView, is_walking, starts_of, walkers_by, walks_owed}
use Rattle.kin_mine.proofs.Walking.{lanes-are, lent-on, on-is, owed-is, rest, same, unmarked, walking-is}
use Rattle.kin_mine.proofs.walkers.Walkers.turn.Goals as goal

pub returns-clause-on : goal.returns-clause-on
returns-clause-on g c = on-is c.args.columns.now c.take_walks-walks.new.self c.put_walks.new.self (columns_of c.turn_lanes-hops.new.columns.items) (columns_of c.turn_lanes-close.new.columns.items) c.take_walks-walks.ensures.rest c.put_walks.ensures c.users.result.now c.users-2.result.now c.users.ensures.users c.users-2.ensures.users (g.V.View.seen c.args.view.now) c.args.landmarks.now c.turn_lanes-hops.new.marks.items c.turn_lanes-close.new.marks.items c.turn_lanes-hops.ensures.on c.turn_lanes-close.ensures.on

pub returns-clause-turns : goal.returns-clause-turns
returns-clause-turns g c =
    subst (λ (w : WalkersView). AreTurned (g.V.View.seen c.args.view.now) c.args.u c.args.landmarks.now c.args.columns.now w c.put_walks.new.self (walkers_by c.turn_lanes-hops.new.marks.items c.turn_lanes-close.new.marks.items)) c.self.view_is
    (lanes-are c.args.columns.now c.take_walks-walks.new.self c.put_walks.new.self (columns_of c.turn_lanes-hops.new.columns.items) (columns_of c.turn_lanes-close.new.columns.items) c.take_walks-walks.ensures.rest c.put_walks.ensures c.users.result.now c.users-2.result.now c.users.ensures.users c.users-2.ensures.users c.args.landmarks.now (columns_of c.take_walks-walks.result.hops.items) (columns_of c.take_walks-walks.result.close.items) c.take_walks-walks.ensures.hops c.take_walks-walks.ensures.close (walkers_by c.self.inside.hop_marks.items c.self.inside.close_marks.items) c.turn_lanes-hops.new.marks.items c.turn_lanes-close.new.marks.items (λ d l. IsTurned (rule_of d l) (g.V.View.seen c.args.view.now) c.args.u) c.turn_lanes-hops.ensures.each c.turn_lanes-close.ensures.each)

pub returns-clause-active : goal.returns-clause-active
returns-clause-active g c =
    subst (λ (w : WalkersView). c.either.result ≡ is_walking c.args.columns.now.users w c.args.u) c.self.view_is
    (walking-is c.args.columns.now c.take_walks-walks.new.self c.put_walks.new.self (columns_of c.turn_lanes-hops.new.columns.items) (columns_of c.turn_lanes-close.new.columns.items) c.take_walks-walks.ensures.rest c.put_walks.ensures c.users.result.now c.users-2.result.now c.users.ensures.users c.users-2.ensures.users (walkers_by c.self.inside.hop_marks.items c.self.inside.close_marks.items) c.args.u c.either.result c.turn_lanes-hops.result c.turn_lanes-close.result c.either.ensures c.turn_lanes-hops.ensures.active c.turn_lanes-close.ensures.active)

pub returns-clause-rest : goal.returns-clause-rest
returns-clause-rest g c = rest c.args.columns.now c.take_walks-walks.new.self c.put_walks.new.self (columns_of c.turn_lanes-hops.new.columns.items) (columns_of c.turn_lanes-close.new.columns.items) c.take_walks-walks.ensures.rest c.put_walks.ensures

pub returns-clause-idle : goal.returns-clause-idle
returns-clause-idle g c off =
    let none = unmarked c.args.columns.now c.take_walks-walks.new.self c.put_walks.new.self (columns_of c.turn_lanes-hops.new.columns.items) (columns_of c.turn_lanes-close.new.columns.items) c.take_walks-walks.ensures.rest c.put_walks.ensures c.users.result.now c.users-2.result.now c.users.ensures.users c.users-2.ensures.users (walkers_by c.self.inside.hop_marks.items c.self.inside.close_marks.items) c.args.u (subst (λ (w : WalkersView). is_walking c.args.columns.now.users w c.args.u ≡ false) (sym c.self.view_is) off) in
    let x = c.turn_lanes-hops.ensures.idle none.0 in
    let y = c.turn_lanes-close.ensures.idle none.1 in
    (same c.args.columns.now c.take_walks-walks.new.self c.put_walks.new.self (columns_of c.turn_lanes-hops.new.columns.items) (columns_of c.turn_lanes-close.new.columns.items) c.take_walks-walks.ensures.rest c.put_walks.ensures c.users.result.now c.users-2.result.now c.users.ensures.users c.users-2.ensures.users c.args.landmarks.now (columns_of c.take_walks-walks.result.hops.items) (columns_of c.take_walks-walks.result.close.items) c.take_walks-walks.ensures.hops c.take_walks-walks.ensures.close (walkers_by c.self.inside.hop_marks.items c.self.inside.close_marks.items) c.turn_lanes-hops.new.marks.items c.turn_lanes-close.new.marks.items x.0 y.0, ap₂ walkers_by x.1 y.1 ∙ c.self.view_is, y.2 ∙ x.2)

pub returns-clause-reads : goal.returns-clause-reads
returns-clause-reads g c =
    subst (λ (w : WalkersView). c.turn_lanes-close.new.steps + walks_owed (g.V.View.seen c.args.view.now) c.args.landmarks.now c.put_walks.new.self (walkers_by c.turn_lanes-hops.new.marks.items c.turn_lanes-close.new.marks.items) ≤ c.args.steps.now + walks_owed (g.V.View.seen c.args.view.now) c.args.landmarks.now c.args.columns.now w) c.self.view_is
    (owed-is c.args.columns.now c.take_walks-walks.new.self c.put_walks.new.self (columns_of c.turn_lanes-hops.new.columns.items) (columns_of c.turn_lanes-close.new.columns.items) c.take_walks-walks.ensures.rest c.put_walks.ensures c.users.result.now c.users-2.result.now c.users.ensures.users c.users-2.ensures.users c.args.landmarks.now (columns_of c.take_walks-walks.result.hops.items) (columns_of c.take_walks-walks.result.close.items) c.take_walks-walks.ensures.hops c.take_walks-walks.ensures.close (walkers_by c.self.inside.hop_marks.items c.self.inside.close_marks.items) c.turn_lanes-hops.new.marks.items c.turn_lanes-close.new.marks.items (g.V.View.seen c.args.view.now) c.args.steps.now c.turn_lanes-hops.new.steps c.turn_lanes-close.new.steps c.turn_lanes-hops.ensures.reads c.turn_lanes-close.ensures.reads)
