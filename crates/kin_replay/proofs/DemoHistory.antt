-- The history of a generated job: its events are in range, and its last epoch was just mined.
use Rattle.std.proofs.Common.{◌≡◌, ℕ, ◌+◌, ◌-◌, ◌<◌, ◌≤◌, inl, inr, ⊎_elim, Bool, true, false, List, [], ◌∷◌, ◌++◌, All, Some, None, get_or, length, map, take, drop, refl, sym, ap, subst, ◌∙◌, arith}
use Rattle.std.proofs.lemmas.Bool.{cond-false, cases_lt}
use Rattle.std.specs.List.{sum_by}
use Rattle.std.proofs.lemmas.List.{length-append, take_all, take-append-le}
use Rattle.std.proofs.lemmas.List.Sums.{sum_by-cons}
use Rattle.std.proofs.Math.Nat.{div-le_self}
use Rattle.std.proofs.Math.Seq.{take-append_seam, take-add, drop-append_seam}
use Rattle.kin_ids.specs.declared.options.DemoWords.{DemoWords}
use Rattle.kin_ids.specs.declared.ops.Record.{Record}
use Rattle.kin_feed.specs.Records.{records_of}
use Rattle.kin_script.specs.declared.events.Event.{Event}
use Rattle.kin_script.specs.declared.events.Event.TheVariants as event
use Rattle.kin_script.specs.Schedules.{IsInRange}
use Rattle.kin_history.specs.Setting.{Setting, nodes, IsEvent, after}
use Rattle.kin_history.specs.Vectors.{cuts}
use Rattle.kin_history.specs.Mining.{mined, is_open}
use Rattle.kin_history.specs.Drain.{drain}
use Rattle.kin_history.proofs.Drained.{drained}
use Rattle.kin_history.proofs.Mined.{mined-order}
use Rattle.kin_gen.specs.Feeds.{gen_feed, gen_feeds}
use Rattle.kin_gen.specs.Laws.{RecordsLaw}
use Rattle.kin_gen.specs.Rounds.{gen_events, rounds, opening, agreement}
use Rattle.kin_hub.specs.Hubs.{cuts_in}
use Rattle.kin_world.proofs.Cutting.{cuts_is}
use Rattle.kin_world.specs.Worlds.{WorldView}
use Rattle.kin_world.specs.Runs.{RunsInPart}
use Rattle.kin_world.specs.Stands.{Stands, last_begun}
use Rattle.kin_replay.specs.Demos.{demo_setting, demo_events, demo_history, demo_epochs, StandsForDemoFront}
use Rattle.kin_replay.specs.Drained.{DrainsWorld, DrainsInPart}
use Rattle.kin_replay.specs.Mined.{HasJustMined}
use Rattle.kin_replay.specs.Plays.{StandsNear}
use Rattle.kin_world.proofs.Running.{after-append}

-- an event in range of a schedule is one of the setting
pub in-event : (set : Setting) (e : Event) → IsInRange (nodes set) set.parts e → IsEvent set e
in-event set (event.Deliver p i c to) r = (r.0, r.1)
in-event set (event.Turn u) r = tt
in-event set (event.Stamp i n) r = r
in-event set (event.Report p) r = r
in-event set (event.Raise i) r = r
in-event set (event.Cut None) r = r
in-event set (event.Cut (Some n)) r = r
in-event set (event.Commit p) r = r
in-event set event.Begin r = r
in-event set event.Mine r = r
in-event set (event.Crash i) r = r
in-event set (event.Restart i) r = r

module _ (w : DemoWords) where
  abbrev set : Setting
  set = demo_setting w

  abbrev events : List Event
  events = gen_events w.seed w.records

  -- the history before the drain
  abbrev told : List Event
  told = after [] events

  pub in-range-all : All (IsInRange 3 4) events → All (IsEvent set) events
  in-range-all all k d lt = in-event set (get_or events k d) (all k d lt)

  history-is : demo_history w ≡ after told (drain set told)
  history-is = after-append [] events (drain set told)

  -- the last cut is accepted, since every partition has reported
  last-cut : (h : List Event) → cuts set (after (after h agreement) (event.Cut None ∷ [])) ≡ cuts set h + 1
  last-cut h = refl

  told-is : told ≡ after (after (after [] (rounds w.records w.records 1 (opening w.seed))) agreement) (event.Cut None ∷ [])
  unfolding gen_events
  told-is =
      let first = rounds w.records w.records 1 (opening w.seed) in
      after-append [] (first ++ agreement) (event.Cut None ∷ []) ∙ ap (λ (g : List Event). after g (event.Cut None ∷ [])) (after-append [] first agreement)

  some-cut : 0 < cuts set told
  some-cut =
      let first = after [] (rounds w.records w.records 1 (opening w.seed)) in
      let is : cuts set told ≡ cuts set first + 1 = ap (cuts set) told-is ∙ last-cut first in
      omega (arith, is)

  pub some-epoch : 0 < demo_epochs w
  some-epoch =
      let same : demo_epochs w ≡ cuts set told = ap (cuts set) history-is ∙ (drained set told).no_cut in
      let some = some-cut in
      omega (arith, same, some)

  all-mined : mined set (demo_history w) ≡ demo_epochs w
  all-mined = ap (mined set) history-is ∙ (drained set told).all ∙ sym (drained set told).no_cut ∙ ap (cuts set) (sym history-is)

  closed : is_open set (demo_history w) ≡ false
  closed = by-test (is_open set (demo_history w)) refl
    where
      by-test : (t : Bool) → is_open set (demo_history w) ≡ t → t ≡ false
      by-test false e = refl
      by-test true e = let cut = (mined-order set (demo_history w)).begun_cut e in let all = all-mined in absurd (omega (arith, cut, all))

  pub last-begun : last_begun set (demo_history w) ≡ demo_epochs w
  last-begun = cond-false (is_open set (demo_history w)) (mined set (demo_history w) + 1) (mined set (demo_history w)) closed ∙ all-mined

  -- the world was just drained
  pub just-mined : (world : WorldView) → Stands set world (demo_history w) → HasJustMined world (demo_epochs w)
  just-mined world s = record { set = set; h = demo_history w; stands = s; some = some-epoch; begun = last-begun; cut = omega arith; closed = closed }

  -- the events ran, and then the drain
  pub ran-all : (old mid new : WorldView) → Stands set mid told → DrainsWorld mid new → Stands set new (demo_history w)
  ran-all old mid new s drains = subst (Stands set new) (sym history-is) (drains set told s)

  -- a front of the drain ran
  pub drained-front : (mid new : WorldView) → Stands set mid told → DrainsInPart mid new → StandsForDemoFront w (Some new)
  drained-front mid new s part =
      let d = part set told s in
      let rest = drain set told in
      let front : take (length events + d.0) (events ++ rest) ≡ events ++ take d.0 rest =
      take-add (length events) d.0 (events ++ rest) ∙ ap (λ (t : List Event). t ++ take d.0 (drop (length events) (events ++ rest))) (take-append_seam events rest)
      ∙ ap (λ (t : List Event). events ++ take d.0 t) (drop-append_seam events rest) in (
        length events + d.0,
        (let n = d.1 in let all = length-append events rest in omega (arith, n, all)),
        subst (λ (es : List Event). StandsNear true set new (after [] es)) (sym front) (subst (StandsNear true set new) (sym (after-append [] events (take d.0 rest))) d.2),
      )

  -- a front of the events ran
  pub run-front : (old new : WorldView) → Stands set old [] → RunsInPart old events new → StandsForDemoFront w (Some new)
  run-front old new s part =
      let near : StandsNear true set new (after [] (take part.0 events)) = ⊎_elim (λ (a : Stands set new (after [] (take part.0 events))). inl a) (λ (b : Stands set new (event.Begin ∷ after [] (take part.0 events))). inr (refl, b)) (part.1 set [] s) in
      let rest = drain set told in
      let all = length-append events rest in
      ⊎_elim
      (λ (lt : part.0 < length events). (part.0, omega (arith, lt, all), subst (λ (es : List Event). StandsNear true set new (after [] es)) (sym (take-append-le part.0 events rest (omega (arith, lt)))) near))
      (λ (past : length events ≤ part.0). (length events, omega (arith, all), subst (λ (es : List Event). StandsNear true set new (after [] es)) (take_all part.0 events past ∙ sym (take-append_seam events rest)) near))
      (cases_lt part.0 (length events))

  -- nothing happened yet
  pub no-front : (old : WorldView) → Stands set old [] → StandsForDemoFront w (Some old)
  no-front old s = (0, omega arith, inl s)

-- the generated feeds have few records
pub few-records : RecordsLaw → (seed n : ℕ) → n ≤ 500000 → sum_by (λ (f : List Record). length f) (map records_of (gen_feeds seed n)) ≤ 2097152
few-records law seed n le =
    let size = λ (f : List Record). length f in
    let feed = λ (i : ℕ). records_of (gen_feed seed n i) in
    let a = sum_by-cons size (feed 0) (feed 1 ∷ feed 2 ∷ []) in
    let b = sum_by-cons size (feed 1) (feed 2 ∷ []) in
    let c = sum_by-cons size (feed 2) [] in
    let x = law seed n 0 le (omega arith) in
    let y = law seed n 1 le (omega arith) in
    let z = law seed n 2 le (omega arith) in
    let p = div-le_self (n + 2 - 0) 3 in
    let q = div-le_self (n + 2 - 1) 3 in
    let r = div-le_self (n + 2 - 2) 3 in
    omega (arith, a, b, c, x, y, z, p, q, r, le)

-- as many epochs are cut as the job has
pub epochs-are : (w : DemoWords) (world : WorldView) → Stands (demo_setting w) world (demo_history w) → cuts_in world.hub ≡ demo_epochs w
epochs-are w world s = cuts_is (demo_setting w) world (demo_history w) s

-- a world that stands for the history stands for a front of it
pub whole-front : (w : DemoWords) (world : WorldView) → Stands (demo_setting w) world (demo_history w) → StandsForDemoFront w (Some world)
whole-front w world s =
    let es = demo_events w in
    (length es, omega arith, inl (subst (λ (xs : List Event). Stands (demo_setting w) world (after [] xs)) (sym (take_all (length es) es (omega arith))) s))
