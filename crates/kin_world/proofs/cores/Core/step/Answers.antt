use Rattle.std.proofs.Common.{◌≡◌, ◌∙◌, ap, subst}
use Rattle.kin_hub.specs.Hubs.{agreed_in}
use Rattle.kin_script.specs.declared.events.Event.{Event}
use Rattle.kin_world.specs.SentStamps.{find_sent}
use Rattle.kin_world.specs.Worlds.{WorldView}
use Rattle.kin_world.specs.Steps.{Stamps, Delivers, told_raise}
use Rattle.kin_world.specs.Stands.{Keeps}
use Rattle.kin_world.proofs.Facts.{node_in}
use Rattle.kin_world.proofs.Running.{if_ok}
use Rattle.kin_world.proofs.Unchanged.{stamp-kept, deliver-kept, raise-kept, crash-kept, restart-kept}
use Rattle.kin_world.proofs.Stamping.{stamp-keeps}
use Rattle.kin_world.proofs.Delivering.{deliver-keeps}
use Rattle.kin_world.proofs.Reports.{report-keeps}
use Rattle.kin_world.proofs.Raises.{raise-keeps}
use Rattle.kin_world.proofs.Crashes.{crash-keeps}
use Rattle.kin_world.proofs.Restarting.{restart-keeps, may-restart}
use Rattle.kin_world.proofs.Committing.{commit-keeps, commit-kept, may-commit-of}
use Rattle.kin_world.proofs.Cutting.{cut-keeps, cut-kept}
use Rattle.kin_world.proofs.Beginning.{begin-keeps, begin-kept, begin-calls}
use Rattle.kin_world.proofs.Turning.{turn-keeps, turn-kept, turn-calls}
use Rattle.kin_world.proofs.Mines.{mine-keeps, mine-kept}
use Rattle.kin_world.proofs.cores.Core.step.Goals as goal

pub restart-requires-clause-may : goal.restart-requires-clause-may
restart-requires-clause-may c =
    let legal = rw c.in-Restart.is at c.requires.event in
    let story = c.requires.history in
    may-restart story.0 c.args.self.now story.1 story.2 c.in-Restart.ingest (node_in story.0 c.args.self.now story.1 story.2 c.in-Restart.ingest.0 legal)

pub returns-in-Stamp-clause-keeps : goal.returns-in-Stamp-clause-keeps
returns-in-Stamp-clause-keeps c =
    let old = c.args.self.now in
    let new = c.stamp.new.self in
    let legal = rw c.in-Stamp.is at c.requires.event in
    rw c.in-Stamp.is (if_ok c.stamp.result _ _ (λ o made. stamp-keeps old c.in-Stamp.ingest c.in-Stamp.n o new legal.0 legal.1 legal.2 made) c.stamp.ensures.stamps)

pub returns-in-Deliver-clause-keeps : goal.returns-in-Deliver-clause-keeps
returns-in-Deliver-clause-keeps c =
    let old = c.args.self.now in
    let new = c.deliver.new.self in
    let e = c.in-Deliver in
    let legal = rw c.in-Deliver.is at c.requires.event in
    rw c.in-Deliver.is (if_ok c.deliver.result _ _ (λ o delivers. deliver-keeps old e.part e.ingest e.inc e.to o new legal.0 legal.1 delivers) c.deliver.ensures.delivers)

pub returns-in-Report-clause-keeps : goal.returns-in-Report-clause-keeps
returns-in-Report-clause-keeps c =
    let legal = rw (c.in-Report.is, ← c.self.view_is) at c.requires.event in
    rw (c.in-Report.is, ← c.self.view_is) (report-keeps _ c.in-Report.part c.report.new.self legal c.report.ensures.row c.report.ensures.stands)

pub returns-in-Raise-clause-keeps : goal.returns-in-Raise-clause-keeps
returns-in-Raise-clause-keeps c =
    let legal = rw (c.in-Raise.is, ← c.self-in-Raise.view_is) at c.requires.event in
    rw (c.in-Raise.is, ← c.self-in-Raise.view_is) (raise-keeps _ c.in-Raise.ingest c.told_raise.result c.raise.new.self legal (c.told_raise.ensures ∙ ap told_raise c.raise.ensures.answer) c.raise.ensures.raised c.raise.ensures.stands)

pub returns-in-Crash-clause-keeps : goal.returns-in-Crash-clause-keeps
returns-in-Crash-clause-keeps c =
    let legal = rw c.in-Crash.is at c.requires.event in
    rw c.in-Crash.is (crash-keeps c.args.self.now c.in-Crash.ingest c.crash.result c.crash.new.self legal c.crash.ensures.crashes)

pub returns-in-Restart-clause-keeps : goal.returns-in-Restart-clause-keeps
returns-in-Restart-clause-keeps c =
    let legal = rw c.in-Restart.is at c.requires.event in
    rw c.in-Restart.is (restart-keeps c.args.self.now c.in-Restart.ingest c.restart.result c.restart.new.self legal c.restart.ensures.restarts)

pub returns-in-Stamp-clause-refused : goal.returns-in-Stamp-clause-refused
returns-in-Stamp-clause-refused c =
    if_ok c.stamp.result _ _ (λ o made. stamp-kept c.args.self.now c.in-Stamp.ingest.0 c.in-Stamp.n o c.stamp.new.self made) c.stamp.ensures.stamps

pub returns-in-Deliver-clause-refused : goal.returns-in-Deliver-clause-refused
returns-in-Deliver-clause-refused c =
    let old = c.args.self.now in
    let e = c.in-Deliver in
    if_ok c.deliver.result _ _ (λ o delivers. deliver-kept old e.part.0 (find_sent old.sent e.ingest.0 e.inc.0 e.to) o c.deliver.new.self delivers) c.deliver.ensures.delivers

pub returns-in-Raise-clause-refused : goal.returns-in-Raise-clause-refused
returns-in-Raise-clause-refused c = raise-kept c.args.self.now c.raise.result c.told_raise.result _ c.told_raise.ensures

pub returns-in-Crash-clause-refused : goal.returns-in-Crash-clause-refused
returns-in-Crash-clause-refused c = crash-kept c.args.self.now c.in-Crash.ingest.0 c.crash.result c.crash.new.self c.crash.ensures.crashes

pub returns-in-Restart-clause-refused : goal.returns-in-Restart-clause-refused
returns-in-Restart-clause-refused c = restart-kept c.args.self.now c.in-Restart.ingest.0 c.restart.result c.restart.new.self c.restart.ensures.restarts

pub returns-in-Cut-clause-keeps : goal.returns-in-Cut-clause-keeps
returns-in-Cut-clause-keeps c =
    let old = c.args.self.now in
    let new = c.cut.new.self in
    let legal = rw c.in-Cut.is at c.requires.event in
    rw c.in-Cut.is (if_ok c.cut.result _ _ (λ o cuts. cut-keeps old c.in-Cut.n o new legal cuts) c.cut.ensures.cuts)

pub returns-in-Cut-clause-refused : goal.returns-in-Cut-clause-refused
returns-in-Cut-clause-refused c =
    if_ok c.cut.result _ _ (λ o cuts. cut-kept c.args.self.now c.in-Cut.n o c.cut.new.self cuts) c.cut.ensures.cuts

pub returns-in-Commit-clause-keeps : goal.returns-in-Commit-clause-keeps
returns-in-Commit-clause-keeps c =
    let old = c.args.self.now in
    let new = c.commit.new.self in
    let legal = rw c.in-Commit.is at c.requires.event in
    rw c.in-Commit.is (if_ok c.commit.result _ _ (λ o made. commit-keeps old c.in-Commit.part o new legal made) c.commit.ensures.commits)

pub returns-in-Commit-clause-refused : goal.returns-in-Commit-clause-refused
returns-in-Commit-clause-refused c =
    if_ok c.commit.result _ _ (λ o made. commit-kept c.args.self.now c.in-Commit.part.0 o c.commit.new.self made) c.commit.ensures.commits

pub returns-in-Begin-clause-keeps : goal.returns-in-Begin-clause-keeps
returns-in-Begin-clause-keeps c = rw c.in-Begin.is (if_ok c.begin.result _ _ (λ o made. begin-keeps c.args.self.now o c.begin.new.self made) c.begin.ensures.begins)

pub returns-in-Begin-clause-refused : goal.returns-in-Begin-clause-refused
returns-in-Begin-clause-refused c = if_ok c.begin.result _ _ (λ o made. begin-kept c.args.self.now o c.begin.new.self made) c.begin.ensures.begins

pub returns-in-Begin-clause-calls : goal.returns-in-Begin-clause-calls
returns-in-Begin-clause-calls c = rw c.in-Begin.is (if_ok c.begin.result _ _ (λ o made. begin-calls c.args.self.now o c.begin.new.self made) c.begin.ensures.begins)

pub returns-in-Turn-clause-keeps : goal.returns-in-Turn-clause-keeps
returns-in-Turn-clause-keeps c = rw c.in-Turn.is (if_ok c.turn.result _ _ (λ o made. turn-keeps c.args.self.now c.in-Turn.user o c.turn.new.self made) c.turn.ensures.turns)

pub returns-in-Turn-clause-refused : goal.returns-in-Turn-clause-refused
returns-in-Turn-clause-refused c = if_ok c.turn.result _ _ (λ o made. turn-kept c.args.self.now c.in-Turn.user o c.turn.new.self made) c.turn.ensures.turns

pub returns-in-Turn-clause-calls : goal.returns-in-Turn-clause-calls
returns-in-Turn-clause-calls c = rw c.in-Turn.is (if_ok c.turn.result _ _ (λ o made. turn-calls c.args.self.now c.in-Turn.user o c.turn.new.self made) c.turn.ensures.turns)

pub returns-in-Mine-clause-keeps : goal.returns-in-Mine-clause-keeps
returns-in-Mine-clause-keeps c = rw c.in-Mine.is (if_ok c.mine.result _ _ (λ o made. mine-keeps c.args.self.now o c.mine.new.self made) c.mine.ensures.mines)

pub returns-in-Mine-clause-refused : goal.returns-in-Mine-clause-refused
returns-in-Mine-clause-refused c = if_ok c.mine.result _ _ (λ o made. mine-kept c.args.self.now o c.mine.new.self made) c.mine.ensures.mines

pub commit-requires-clause-said : goal.commit-requires-clause-said
commit-requires-clause-said c =
    let legal = rw c.in-Commit.is at c.requires.event in
    may-commit-of c.args.self.now c.requires.history c.in-Commit.part.0 legal
