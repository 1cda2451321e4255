-- Events in turn.
use Rattle.std.proofs.Common.{◌≡◌, ◌⊎◌, inl, ⊎_elim, ℕ, List, [], ◌∷◌, ◌++◌, Result, Ok, Err, refl, sym, ◌∙◌, ap, subst}
use Rattle.std.specs.Prelude.{IfOk, OnErr, OnOk}
use Rattle.kin_ids.specs.declared.faults.Memory.{Memory}
use Rattle.kin_ids.specs.declared.ids.User.{User}
use Rattle.kin_ids.specs.declared.ops.Record.{Record}
use Rattle.kin_script.specs.declared.events.Event.{Event}
use Rattle.kin_script.specs.declared.events.Event.TheVariants as event
use Rattle.kin_script.specs.declared.outcomes.Outcome.{Outcome}
use Rattle.kin_history.specs.Setting.{Setting, after}
use Rattle.kin_history.specs.Outcomes.{outcome_of, outcomes}
use Rattle.kin_world.specs.Worlds.{WorldView, setting_of}
use Rattle.kin_world.specs.Stands.{Stands, HasHistory, Keeps, KeptAtMemory}
use Rattle.kin_world.specs.Runs.{Runs}

-- what follows from what holds of an answer
pub if_ok : (r : Result Outcome Memory) (P Q : Outcome → Type 0) → ((o : Outcome) → P o → Q o) → IfOk r P → IfOk r Q
if_ok (Ok o) P Q f holds = f o holds
if_ok (Err e) P Q f holds = tt

pub on_ok : (r : Result Outcome Memory) (P : Outcome → Type 0) (Q : Type 0) → ((o : Outcome) → P o → Q) → IfOk r P → OnOk r Q
on_ok (Ok o) P Q f holds = f o holds
on_ok (Err e) P Q f holds = tt

pub on_err : {T E : Type 0} (r : Result T E) (P : Type 0) → P → OnErr r P
on_err (Ok x) P holds = tt
on_err (Err e) P holds = holds

-- what the world runs over stays
pub setting-kept : (old : WorldView) (e : Event) (o : Outcome) (new : WorldView) → HasHistory old → Keeps old e o new → setting_of new ≡ setting_of old
setting-kept old e o new story keeps =
    let was = story.2 in
    let now = (keeps story.0 story.1 was).1 in
    ap (λ (feeds : List (List Record)). let set : Setting = record { feeds = feeds; parts = new.parts; landmarks = new.miner.landmarks } in set) (now.over.feeds ∙ sym was.over.feeds)
    ∙ (ap (λ (parts : ℕ). let set : Setting = record { feeds = old.feeds; parts = parts; landmarks = new.miner.landmarks } in set) (now.over.parts ∙ sym was.over.parts)
    ∙ ap (λ (landmarks : List User). let set : Setting = record { feeds = old.feeds; parts = old.parts; landmarks = landmarks } in set) (now.over.landmarks ∙ sym was.over.landmarks))

-- after an event the world stands for some history, whatever it answered
kept-history : (old : WorldView) (e : Event) (new : WorldView) → HasHistory old → KeptAtMemory old e new → HasHistory new
kept-history old event.Mine new (set, h, s) kept =
    ⊎_elim (λ (t : Stands set new h). (set, h, t)) (λ (t : Stands set new (event.Begin ∷ h)). (set, event.Begin ∷ h, t)) (kept set h s)
kept-history old _ new has kept = subst HasHistory (sym kept) has

pub has-after : (old : WorldView) (e : Event) (r : Result Outcome Memory) (new : WorldView) → HasHistory old → IfOk r (λ o. Keeps old e o new) → OnErr r (KeptAtMemory old e new) → HasHistory new
has-after old e (Ok o) new (set, h, s) keeps err = (set, e ∷ h, (keeps set h s).1)
has-after old e (Err x) new has keeps err = kept-history old e new has err

pub after-append : (h xs ys : List Event) → after h (xs ++ ys) ≡ after (after h xs) ys
after-append h [] ys = refl
after-append h (x ∷ xs) ys = after-append (x ∷ h) xs ys

outcomes-append : (set : Setting) (h xs ys : List Event) → outcomes set h (xs ++ ys) ≡ outcomes set h xs ++ outcomes set (after h xs) ys
outcomes-append set h [] ys = refl
outcomes-append set h (x ∷ xs) ys = ap (λ (os : List Outcome). outcome_of set h x ∷ os) (outcomes-append set (x ∷ h) xs ys)

-- no event, and one event more
pub runs-none : (w : WorldView) → Runs w [] [] w
runs-none w set h s = (refl, s)

pub runs-push : (old mid new : WorldView) (es : List Event) (told : List Outcome) (e : Event) (o : Outcome) → Runs old es told mid → Keeps mid e o new → Runs old (es ++ e ∷ []) (told ++ o ∷ []) new
runs-push old mid new es told e o runs keeps set h s =
    let so_far = runs set h s in
    let now = keeps set (after h es) so_far.1 in (
      ap (λ (os : List Outcome). os ++ o ∷ []) so_far.0 ∙ (ap (λ (x : Outcome). outcomes set h es ++ x ∷ []) now.0 ∙ sym (outcomes-append set h es (e ∷ []))),
      subst (Stands set new) (sym (after-append h es (e ∷ []))) now.1,
    )

-- events, and then one for which there was no memory
pub runs-stop : (old mid new : WorldView) (es : List Event) (told : List Outcome) (e : Event) → Runs old es told mid → KeptAtMemory mid e new →
    (set : Setting) (h : List Event) → Stands set old h → Stands set new (after h es) ⊎ Stands set new (event.Begin ∷ after h es)
runs-stop old mid new es told event.Mine runs kept set h s = kept set (after h es) (runs set h s).1
runs-stop old mid new es told _ runs kept set h s = inl (subst (λ (w : WorldView). Stands set w (after h es)) (sym kept) (runs set h s).1)
