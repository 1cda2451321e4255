use Rattle.std.proofs.Common.{◌≡◌, ◌∙◌, ◌≤◌, ◌+◌, ◌||◌, ℕ, Bool, false, List, length, ap, ap₂, refl, sym, subst}
use Rattle.kin_ids.specs.declared.ids.User.{User}
use Rattle.kin_rules.specs.Columns.{columns_of}
use Rattle.kin_rules.specs.Results.{ColumnView, ResultView}
use Rattle.kin_mine.specs.declared.walk_rules.Distance.TheVariants as distance
use Rattle.kin_push.specs.Begins.{IsEntered}
use Rattle.kin_mine.specs.Marks.{are_quiet, rule_of}
use Rattle.kin_mine.specs.Walkers.{AllLanes, AreEntered, AreFresh, AreSettled, AreStill, AreTurned, HaveStates, WalkOn, WalkersView, is_walking, starts_of, walkers_by, walks_owed}
use Rattle.kin_mine.proofs.Walking.{lanes-are}
use Rattle.kin_mine.proofs.walkers.Walkers.enter.Goals as goal

pub returns-clause-enters : goal.returns-clause-enters
returns-clause-enters c =
    subst (λ (w : WalkersView). AreEntered c.args.hop_starts.now c.args.close_starts.now c.args.landmarks.now c.args.columns.now w c.put_walks.new.self (walkers_by c.enter_lanes.new.marks.items c.enter_lanes-2.new.marks.items)) c.self.view_is
    (lanes-are c.args.columns.now c.take_walks-walks.new.self c.put_walks.new.self (columns_of c.enter_lanes.new.columns.items) (columns_of c.enter_lanes-2.new.columns.items) c.take_walks-walks.ensures.rest c.put_walks.ensures c.users.result.now c.users-2.result.now c.users.ensures.users c.users-2.ensures.users c.args.landmarks.now (columns_of c.take_walks-walks.result.hops.items) (columns_of c.take_walks-walks.result.close.items) c.take_walks-walks.ensures.hops c.take_walks-walks.ensures.close (walkers_by c.self.inside.hop_marks.items c.self.inside.close_marks.items) c.enter_lanes.new.marks.items c.enter_lanes-2.new.marks.items (λ d l. IsEntered (rule_of d l) (starts_of d c.args.hop_starts.now c.args.close_starts.now)) c.enter_lanes.ensures.each c.enter_lanes-2.ensures.each)
