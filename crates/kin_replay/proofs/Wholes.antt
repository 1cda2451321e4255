-- A schedule and its drain, and what its run is for a job.
use Rattle.std.proofs.Common.{ℕ, Bool, true, false, List, [], ◌∷◌, All, Option, Some, suc, refl, sym, ap, subst, ◌∙◌, arith}
use Rattle.kin_ids.specs.declared.options.OptionWords.{OptionWords}
use Rattle.kin_script.specs.declared.events.Event.{Event}
use Rattle.kin_script.specs.declared.events.Line.{Line}
use Rattle.kin_history.specs.Setting.{Setting, IsEvent, IsHistory, after}
use Rattle.kin_history.specs.Drain.{drain}
use Rattle.kin_history.proofs.Drained.{drained}
use Rattle.kin_report.specs.Report.{events_of, scheduled, whole_run}
use Rattle.kin_world.specs.Worlds.{WorldView}
use Rattle.kin_world.specs.Stands.{Stands}
use Rattle.kin_replay.specs.Jobs.{Job, IsReady, history_of}
use Rattle.kin_replay.specs.Plays.{Scene, IsLater, drain_of, Plays, PlaysFront, PlaysDrain, PlaysDrainFront, PlaysWhole, PlaysWholeFront}
use Rattle.kin_replay.specs.Ends.{EndsDone, EndsUnwritten, EndsStarved}
use Rattle.kin_replay.proofs.Played.{after-runs, played-more, front-longer, front-after, front-whole, later-first, later-second}
use Rattle.kin_replay.proofs.Drains.{events_of-drained}

module _ (options : OptionWords) (trace : Bool) (lines : List Line) (a b c : Scene) where
  pub whole-played : Plays options trace (scheduled lines) a b → PlaysDrain options trace b c → PlaysWhole options trace lines a c
  whole-played p q set whole s l =
      let xs = scheduled lines in
      let ys = drain_of set (after [] (events_of xs)) in
      let one = p set [] whole s (later-first set [] whole xs ys l) in
      played-more set options trace whole [] xs ys a b c one (q set (after [] (events_of xs)) whole one.stands (later-second set [] whole xs ys l))

  pub whole-lines : (starved : Bool) → PlaysFront starved options trace (scheduled lines) a b → PlaysWholeFront starved options trace lines a b
  whole-lines starved p set whole s l =
      let xs = scheduled lines in
      let ys = drain_of set (after [] (events_of xs)) in
      front-longer set options trace whole [] starved xs ys a b (p set [] whole s (later-first set [] whole xs ys l))

  pub whole-drain : (starved : Bool) → Plays options trace (scheduled lines) a b → PlaysDrainFront starved options trace b c → PlaysWholeFront starved options trace lines a c
  whole-drain starved p q set whole s l =
      let xs = scheduled lines in
      let ys = drain_of set (after [] (events_of xs)) in
      let one = p set [] whole s (later-first set [] whole xs ys l) in
      front-after set options trace whole [] starved xs ys a b c one (q set (after [] (events_of xs)) whole one.stands (later-second set [] whole xs ys l))

  pub whole-front : (starved : Bool) → PlaysWhole options trace lines a c → PlaysWholeFront starved options trace lines a c
  whole-front starved p set whole s l = front-whole set options trace whole [] starved (whole_run set lines) a c (p set whole s l)

-- events in range make a history
history-after : (set : Setting) (h : List Event) (lines : List Line) → All (λ (line : Line). IsEvent set line.event) lines → IsHistory set h → IsHistory set (after h (events_of (scheduled lines)))
history-after set h [] all legal = legal
history-after set h (x ∷ xs) all legal = history-after set (x.event ∷ h) xs (λ i d lt. all (suc i) d (omega (arith, lt))) (all 0 x (omega arith), legal)

module _ (j : Job) (ready : IsReady j) where
  -- the history of a job is one
  legal : IsHistory j.setting (history_of j)
  legal =
      let set = j.setting in
      let xs = scheduled j.lines in
      let h = after [] (events_of xs) in
      let first : IsHistory set h = history-after set [] j.lines ready.events tt in
      subst (IsHistory set) (ap (after h) (sym (events_of-drained (drain set h))) ∙ sym (after-runs [] xs (drain_of set h))) ((drained set h).legal first)

  later : IsLater j.setting (after [] (events_of (whole_run j.setting j.lines))) (history_of j)
  later = record { more = []; goes_on = refl; legal = legal }

  module _ (old new : WorldView) (was now : Option (List ℕ)) (opened : Stands j.setting old []) where
    abbrev start : Scene
    start = record { world = old; taken = was }

    abbrev end : Scene
    end = record { world = new; taken = now }

    pub ends-done : PlaysWhole j.options j.trace j.lines start end → EndsDone j was now (Some new)
    ends-done p = let played = p j.setting (history_of j) opened later in (played.grew, played.stands)

    pub ends-unwritten : PlaysWholeFront false j.options j.trace j.lines start end → EndsUnwritten j was now (Some new)
    ends-unwritten p = let front = p j.setting (history_of j) opened later in (front.grew, (front.count, front.within, front.stands))

    pub ends-starved : PlaysWholeFront true j.options j.trace j.lines start end → EndsStarved j was now (Some new)
    ends-starved p = let front = p j.setting (history_of j) opened later in (front.grew, (front.count, front.within, front.stands))
