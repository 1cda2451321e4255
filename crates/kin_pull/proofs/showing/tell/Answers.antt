use Rattle.std.proofs.Common.{◌≡◌, ◌∙◌, ◌==◌, ◌+◌, ap, subst, sym}
use Rattle.kin_rules.specs.declared.pull_rules.Side.{Side}
use Rattle.kin_rules.specs.Edges.{places_of}
use Rattle.kin_rules.specs.LayerTables.{neighbours_seen}
use Rattle.kin_rules.proofs.LayerRows.{if-some}
use Rattle.kin_pull.specs.Passes.{changes_in, read_of, was_read}
use Rattle.kin_pull.specs.States.{opposite}
use Rattle.kin_rules.specs.Places.{place}
use Rattle.kin_pull.proofs.WasRead.{told-one}
use Rattle.kin_pull.proofs.Tells.{or-same, told-some, ends-below, readers-there}
use Rattle.kin_pull.proofs.showing.tell.Goals as goal

pub mark_all-requires : goal.mark_all-requires
mark_all-requires g c = ends-below c.args.users.now (neighbours_seen c.opposite.result (g.V.View.seen c.args.view.now) c.args.user) c.row.result.now
    (if-some _ _ _ c.in_ok-read.ensures.there c.row.ensures) _ c.requires.long

pub returns-clause-marks : goal.returns-clause-marks
returns-clause-marks g c = λ x.
    let r = g.R.PullRule.seen c.args.rule.now in
    let v = g.V.View.seen c.args.view.now in
    told-some c.args.users.now (neighbours_seen (opposite r.side) v c.args.user) c.row.result.now c.args.marks.now.items c.mark_all.new.marks.items
    (changes_in r c.args.users.now c.args.kept.now c.args.layer c.args.drawn.now c.args.user) c.changes.result c.changes.ensures
    c.if-not-changes.false
    (if-some _ _ _ c.in_ok-read.ensures.there c.row.ensures
    ∙ ap (λ (s : Side). places_of c.args.users.now (neighbours_seen s v c.args.user)) (c.opposite.ensures ∙ ap opposite c.side.ensures))
    (readers-there r g.R.PullRule.LAYERS v c.args.users.now c.args.kept.now c.requires.on c.args.user) c.mark_all.ensures.marks x

pub returns-then-not-changes-clause-told : goal.returns-then-not-changes-clause-told
returns-then-not-changes-clause-told g c = λ x there.
    or-same (was_read c.args.users.now c.args.outs.now x) (changes_in (g.R.PullRule.seen c.args.rule.now) c.args.users.now c.args.kept.now
    c.args.layer c.args.drawn.now c.args.user) (place c.args.users.now x == c.args.i) (sym c.changes.ensures ∙ c.if-not-changes.true)

pub returns-clause-told : goal.returns-clause-told
returns-clause-told g c = λ x there.
    c.in_ok-read.ensures.was x there
    ∙ told-one (was_read c.args.users.now c.args.outs.now x) (changes_in (g.R.PullRule.seen c.args.rule.now) c.args.users.now c.args.kept.now
    c.args.layer c.args.drawn.now c.args.user) (place c.args.users.now x == c.args.i) (sym c.changes.ensures ∙ c.if-not-changes.false)

pub returns-clause-reads : goal.returns-clause-reads
returns-clause-reads g c =
    let v = g.V.View.seen c.args.view.now in
    subst (λ (s : Side). c.read.new.steps + read_of s v c.args.users.now c.args.outs.now ≡ c.args.steps.now + read_of s v c.args.users.now
    c.read.new.self) (c.opposite.ensures ∙ ap opposite c.side.ensures) c.in_ok-read.ensures.reads
