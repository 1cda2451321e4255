-- The drain, event by event.
use Rattle.std.proofs.Common.{◌≡◌, ℕ, zero, suc, ◌-◌, ◌<◌, ◌≤◌, ltb, Bool, true, false, List, [], ◌∷◌, ◌++◌, Option, Some, None, length, replicate, refl, sym, ap, subst, ◌∙◌, append_assoc, arith}
use Rattle.std.proofs.lemmas.List.{append-nil, length-append, length-replicate}
use Rattle.kin_ids.specs.declared.options.OptionWords.{OptionWords}
use Rattle.kin_script.specs.declared.events.Event.{Event}
use Rattle.kin_script.specs.declared.events.Event.TheVariants as event
use Rattle.kin_io.proofs.Growth.{grew_none}
use Rattle.kin_history.specs.Setting.{Setting, IsEvent, after}
use Rattle.kin_history.specs.Vectors.{cuts, committed, uncommitted_part}
use Rattle.kin_history.specs.Mining.{mined}
use Rattle.kin_history.specs.MiningLaws.{drain_by, IsNextOfDrain}
use Rattle.kin_history.specs.Drain.{drain, drain_commits, drain_event, next_of_drain}
use Rattle.kin_history.proofs.Drained.{drain-is}
use Rattle.kin_report.specs.Report.{Ran, events_of, drained}
use Rattle.kin_world.specs.Worlds.{WorldView, HasRoom, setting_of}
use Rattle.kin_world.specs.Stands.{Stands, HasHistory}
use Rattle.kin_world.proofs.Cutting.{cuts_is}
use Rattle.kin_replay.specs.Left.{commits_left, drain_left}
use Rattle.kin_replay.specs.Plays.{Scene, IsLater, drain_of, HasPlayed, HasPlayedFront, Plays, PlaysFront, PlaysDrain, PlaysDrainFront}
use Rattle.kin_world.proofs.Running.{after-append}
use Rattle.kin_replay.proofs.Played.{played-more, front-longer, front-after, later-first, later-second}

pub drained-append : (xs ys : List Event) → drained (xs ++ ys) ≡ drained xs ++ drained ys
drained-append [] ys = refl
drained-append (e ∷ es) ys = ap (λ (rs : List Ran). record { number = None; event = e } ∷ rs) (drained-append es ys)

pub events_of-drained : (es : List Event) → events_of (drained es) ≡ es
events_of-drained [] = refl
events_of-drained (e ∷ es) = ap (λ (xs : List Event). e ∷ xs) (events_of-drained es)

module _ (set : Setting) (w : WorldView) (h : List Event) (s : Stands set w h) where
  commits-are : (n : ℕ) → n ≤ set.parts → commits_left w.hub n ≡ length (drain_commits set h n)
  commits-are zero le = refl
  commits-are (suc p) le =
      let event = event.Commit (record { 0 = p }) in
      let a = commits-are p (omega arith) in
      let b = s.epochs.committed_are p (omega arith) in
      let c = cuts_is set w h s in
      let d = length-append (drain_commits set h p) (replicate (cuts set h - committed set h p) event) in
      let e = length-replicate (cuts set h - committed set h p) event in
      omega (arith, a, b, c, d, e)

  -- as many events are left as the drain has
  pub left-is : drain_left w ≡ length (drain set h)
  left-is =
      let all : commits_left w.hub w.parts ≡ commits_left w.hub set.parts = ap (commits_left w.hub) s.over.parts in
      let a = commits-are set.parts (omega arith) in
      let b = s.mining.mined_is in
      let c = cuts_is set w h s in
      let d = length-append (drain_commits set h set.parts) (replicate (cuts set h - mined set h) event.Mine) in
      let e = length-replicate (cuts set h - mined set h) event.Mine in
      omega (arith, all, a, b, c, d, e)

  -- what a world's events run over is the setting
  pub setting-is : setting_of w ≡ set
  setting-is = λ i. record { feeds = s.over.feeds i; parts = s.over.parts i; landmarks = s.over.landmarks i }

-- an event of the drain is none that cuts
event-room : (w : WorldView) (o : Option ℕ) (due : Bool) (e : Event) → drain_event o due ≡ Some e → HasRoom w e
event-room w o due (event.Cut n) is = absurd (no-cut o due n is)
  where
    no-cut : (o : Option ℕ) (due : Bool) (n : Option ℕ) → drain_event o due ≡ Some (event.Cut n) → ⊥
    no-cut (Some p) due n is = absurd cc
    no-cut None true n is = absurd cc
    no-cut None false n is = absurd cc
event-room w o due _ is = tt

-- the next event of the drain is in range, has room, and the rest is what comes after it
module _ (w : WorldView) (has : HasHistory w) (e : Event) (next : (set : Setting) (h : List Event) → Stands set w h → Some e ≡ next_of_drain set h) where
  pub next-room : HasRoom w e
  next-room =
      let set = has.0 in
      let h = has.1 in
      event-room w (uncommitted_part set h (cuts set h)) (ltb (mined set h) (cuts set h)) e (sym (next set h has.2))

  pub next-event : IsEvent (setting_of w) e
  next-event =
      let set = has.0 in
      let h = has.1 in
      subst (λ (x : Setting). IsEvent x e) (sym (setting-is set w h has.2)) (subst (IsNextOfDrain set h) (sym (next set h has.2)) (drain-is set h).next).0

-- a front of the drain was played, and the rest of the drain is the one of the history so far
pub record DrainsTo (set : Setting) (options : OptionWords) (trace : Bool) (whole h : List Event) (old new : Scene) : Type 0 where
  pub done : List Event
  pub rest : drain set h ≡ done ++ drain set (after h done)
  pub played : HasPlayed set options trace whole h (drained done) old new

-- so it is for every history that the world stood for
abbrev pub Drains : OptionWords → Bool → Scene → Scene → Type 0
Drains options trace old new = (set : Setting) (h whole : List Event) → Stands set old.world h → IsLater set (after h (events_of (drain_of set h))) whole → DrainsTo set options trace whole h old new

pub drains-none : (options : OptionWords) (trace : Bool) (a : Scene) → Drains options trace a a
drains-none options trace a set h whole s l = record { done = []; rest = refl; played = record { stands = s; grew = grew_none a.taken } }

module _ (options : OptionWords) (trace : Bool) (old now new : Scene) (e : Event)
    (next : (set : Setting) (h : List Event) → Stands set now.world h → drain set h ≡ drain_by set h (Some e)) where
  abbrev ran : List Ran
  ran = record { number = None; event = e } ∷ []

  module _ (set : Setting) (h whole : List Event) (s : Stands set old.world h) (l : IsLater set (after h (events_of (drain_of set h))) whole) (d : DrainsTo set options trace whole h old now) where
    abbrev sofar : List Event
    sofar = after h d.done

    next-is : drain set sofar ≡ e ∷ drain set (e ∷ sofar)
    next-is = next set sofar (subst (λ (es : List Event). Stands set now.world (after h es)) (events_of-drained d.done) d.played.stands)

    -- what is done, the next event, and the rest
    split : drain_of set h ≡ (drained d.done ++ ran) ++ drained (drain set (e ∷ sofar))
    split = ap drained (d.rest ∙ ap (λ (es : List Event). d.done ++ es) next-is) ∙ drained-append d.done (e ∷ drain set (e ∷ sofar))
        ∙ sym (append_assoc (drained d.done) ran (drained (drain set (e ∷ sofar))))

    later : IsLater set (after (after h (events_of (drained d.done))) (events_of ran)) whole
    later = later-second set h whole (drained d.done) ran
        (later-first set h whole (drained d.done ++ ran) (drained (drain set (e ∷ sofar))) (subst (λ (rs : List Ran). IsLater set (after h (events_of rs)) whole) split l))

    -- the next event was played as well
    pub drains-on : Plays options trace ran now new → DrainsTo set options trace whole h old new
    drains-on p = record {
      done = d.done ++ e ∷ [];
      rest = d.rest ∙ ap (λ (es : List Event). d.done ++ es) next-is ∙ sym (append_assoc d.done (e ∷ []) (drain set (e ∷ sofar)))
          ∙ ap (λ (g : List Event). (d.done ++ e ∷ []) ++ drain set g) (sym (after-append h d.done (e ∷ [])));
      played = subst (λ (rs : List Ran). HasPlayed set options trace whole h rs old new) (sym (drained-append d.done (e ∷ [])))
          (played-more set options trace whole h (drained d.done) ran old now new d.played (p set (after h (events_of (drained d.done))) whole d.played.stands later));
    }

    -- a front of it was played
    pub drain-front : (starved : Bool) → PlaysFront starved options trace ran now new → HasPlayedFront starved set options trace whole h (drain_of set h) old new
    drain-front starved p = subst (λ (rs : List Ran). HasPlayedFront starved set options trace whole h rs old new) (sym split)
        (front-longer set options trace whole h starved (drained d.done ++ ran) (drained (drain set (e ∷ sofar))) old new
        (front-after set options trace whole h starved (drained d.done) ran old now new d.played (p set (after h (events_of (drained d.done))) whole d.played.stands later)))

  pub drains-more : Plays options trace ran now new → Drains options trace old now → Drains options trace old new
  drains-more p d set h whole s l = drains-on set h whole s l (d set h whole s l) p

  pub drains-front : (starved : Bool) → PlaysFront starved options trace ran now new → Drains options trace old now → PlaysDrainFront starved options trace old new
  drains-front starved p d set h whole s l = drain-front set h whole s l (d set h whole s l) starved p

  -- an event of the drain that was played leaves one event less
  pub left-less : (has : HasHistory now.world) → IsEvent (setting_of now.world) e → Plays options trace ran now new → drain_left new.world < drain_left now.world
  left-less has in_range p =
      let set = has.0 in
      let h = has.1 in
      let s = has.2 in
      let event : IsEvent set e = subst (λ (x : Setting). IsEvent x e) (setting-is set now.world h s) in_range in
      let played = p set h (e ∷ h) s (record { more = []; goes_on = refl; legal = (event, s.over.history) }) in
      let a = left-is set now.world h s in
      let b = left-is set new.world (e ∷ h) played.stands in
      let c : length (drain set h) ≡ suc (length (drain set (e ∷ h))) = ap (λ (es : List Event). length es) (next set h s) in
      omega (arith, a, b, c)

-- nothing is left of the drain
all-drained : (options : OptionWords) (trace : Bool) (old now : Scene) → ((set : Setting) (h : List Event) → Stands set now.world h → drain set h ≡ []) → Drains options trace old now → PlaysDrain options trace old now
all-drained options trace old now none d set h whole s l =
    let to = d set h whole s l in
    let rest : drain set (after h to.done) ≡ [] = none set (after h to.done) (subst (λ (es : List Event). Stands set now.world (after h es)) (events_of-drained to.done) to.played.stands) in
    let all : drain set h ≡ to.done = to.rest ∙ ap (λ (es : List Event). to.done ++ es) rest ∙ append-nil to.done in
    subst (λ (es : List Event). HasPlayed set options trace whole h (drained es) old now) (sym all) to.played

pub drains-all : (options : OptionWords) (trace : Bool) (old now : Scene) (o : Option Event) → ((e : Event) → o ≡ Some e → ⊥)
    → ((set : Setting) (h : List Event) → Stands set now.world h → drain set h ≡ drain_by set h o) → Drains options trace old now → PlaysDrain options trace old now
drains-all options trace old now None none next d = all-drained options trace old now next d
drains-all options trace old now (Some e) none next d = absurd (none e refl)
