use Rattle.std.proofs.Common.{rules, ◌+◌, ◌++◌, ◌∷◌, [], ℕ, true, false, List, Some, get_or, take, drop, sym, subst, ◌∙◌, arith}
use Rattle.std.proofs.lemmas.List.{take_all}
use Rattle.kin_io.proofs.Growth.{flushed_more}
use Rattle.kin_script.specs.declared.events.Event.TheVariants as event
use Rattle.kin_script.specs.declared.events.Line.{Line}
use Rattle.kin_report.specs.Report.{Ran, scheduled}
use Rattle.kin_replay.specs.Plays.{Scene, Plays, PlaysFront}
use Rattle.kin_replay.proofs.Lines.{scheduled-more, scheduled-split}
use Rattle.kin_replay.proofs.Played.{plays-more, plays-longer, plays-front}
use Rattle.kin_replay.proofs.plays.play_lines.Goals as goal

abbrev no_line : Line
no_line = record { number = 0; event = event.Stamp (record { 0 = 0 }) 0 }

pub loop-line-preserved : goal.loop-line-preserved
loop-line-preserved g c =
    let k = c.loop-line.line-index in
    let lines = c.args.lines.now in
    let line = get_or lines k no_line in
    let old : Scene = record { world = c.args.world.now; taken = g.O.Sink.taken c.args.out.now } in
    let now : Scene = record { world = c.loop-line.world; taken = g.O.Sink.taken c.loop-line.out } in
    let new : Scene = record { world = c.play.new.world; taken = g.O.Sink.taken c.play.new.out } in
    let ran : List Ran = record { number = Some line.number; event = line.event } ∷ [] in
    let i = c.loop-line.invariant in
    record {
      setting = c.in_ok-play.ensures.setting ∙ i.setting;
      has = c.in_ok-play.ensures.has;
      cuts = let was = i.cuts in let one = c.in_ok-play.ensures.cuts in omega (arith, was, one);
      plays = subst (λ (rs : List Ran). Plays c.args.printing.now.options c.args.printing.now.trace rs old new) (sym (scheduled-more lines k no_line c.loop-line-test.true))
          (plays-more c.args.printing.now.options c.args.printing.now.trace (scheduled (take k lines)) ran old now new i.plays c.in_ok-play.ensures.ok);
      flushed = let a = i.flushed in let b = c.in_ok-play.ensures.flushed in
          (a.0 + b.0, flushed_more a.0 b.0 (g.O.Sink.flushed c.args.out.now) (g.O.Sink.flushed c.loop-line.out) (g.O.Sink.flushed c.play.new.out) a.1 b.1);
      calm = c.in_ok-play.ensures.calm (search rules) ∙ i.calm;
    }

module _ (lines : List Line) (k : ℕ) where
  abbrev ran-at : List Ran
  ran-at = record { number = Some (get_or lines k no_line).number; event = (get_or lines k no_line).event } ∷ []

pub returns-in_err-play-clause-write : goal.returns-in_err-play-clause-write
returns-in_err-play-clause-write g c is =
    let k = c.loop-line.line-index in
    let lines = c.args.lines.now in
    let old : Scene = record { world = c.args.world.now; taken = g.O.Sink.taken c.args.out.now } in
    let now : Scene = record { world = c.loop-line.world; taken = g.O.Sink.taken c.loop-line.out } in
    let new : Scene = record { world = c.play.new.world; taken = g.O.Sink.taken c.play.new.out } in
    subst (λ (rs : List Ran). PlaysFront false c.args.printing.now.options c.args.printing.now.trace rs old new) (sym (scheduled-split lines k no_line c.loop-line-test.true))
    (plays-longer false c.args.printing.now.options c.args.printing.now.trace (scheduled (take k lines) ++ ran-at lines k) (scheduled (drop (k + 1) lines)) old new
    (plays-front false c.args.printing.now.options c.args.printing.now.trace (scheduled (take k lines)) (ran-at lines k) old now new c.loop-line.invariant.plays (c.in_err-play.ensures.write (search rules))))

pub returns-in_err-play-clause-memory : goal.returns-in_err-play-clause-memory
returns-in_err-play-clause-memory g c is =
    let k = c.loop-line.line-index in
    let lines = c.args.lines.now in
    let old : Scene = record { world = c.args.world.now; taken = g.O.Sink.taken c.args.out.now } in
    let now : Scene = record { world = c.loop-line.world; taken = g.O.Sink.taken c.loop-line.out } in
    let new : Scene = record { world = c.play.new.world; taken = g.O.Sink.taken c.play.new.out } in
    subst (λ (rs : List Ran). PlaysFront true c.args.printing.now.options c.args.printing.now.trace rs old new) (sym (scheduled-split lines k no_line c.loop-line-test.true))
    (plays-longer true c.args.printing.now.options c.args.printing.now.trace (scheduled (take k lines) ++ ran-at lines k) (scheduled (drop (k + 1) lines)) old new
    (plays-front true c.args.printing.now.options c.args.printing.now.trace (scheduled (take k lines)) (ran-at lines k) old now new c.loop-line.invariant.plays (c.in_err-play.ensures.memory (search rules))))

pub returns-clause-ok : goal.returns-clause-ok
returns-clause-ok g c =
    let old : Scene = record { world = c.args.world.now; taken = g.O.Sink.taken c.args.out.now } in
    let now : Scene = record { world = c.loop-line.world; taken = g.O.Sink.taken c.loop-line.out } in
    let all = take_all c.loop-line.line-index c.args.lines.now c.loop-line-test.false in
    subst (λ (lines : List Line). Plays c.args.printing.now.options c.args.printing.now.trace (scheduled lines) old now) all c.loop-line.invariant.plays
