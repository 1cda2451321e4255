-- One event that is played: what its answer prints is what the whole run prints of it.
use Rattle.std.proofs.Common.{◌≡◌, ℕ, ◌<◌, ⊎_elim, inl, inr, Bool, true, List, [], ◌∷◌, ◌++◌, Option, refl, sym, ap, subst, ◌∙◌, arith}
use Rattle.std.proofs.lemmas.List.{append-nil}
use Rattle.kin_ids.specs.declared.options.OptionWords.{OptionWords}
use Rattle.kin_script.specs.declared.events.Event.{Event}
use Rattle.kin_script.specs.declared.events.Event.TheVariants as event
use Rattle.kin_script.specs.declared.outcomes.Outcome.{Outcome}
use Rattle.kin_script.specs.declared.outcomes.Outcome.TheVariants as outcome
use Rattle.kin_io.specs.Outside.{Grew, GrewBySome}
use Rattle.kin_io.proofs.Growth.{grew_none}
use Rattle.kin_history.specs.Setting.{Setting, IsHistory}
use Rattle.kin_history.specs.Outcomes.{outcome_of}
use Rattle.kin_report.specs.Report.{Ran, mined_block, traced, block_after}
use Rattle.kin_report.proofs.Settled.{block-stays}
use Rattle.kin_world.specs.Worlds.{WorldView}
use Rattle.kin_world.specs.Stands.{Stands, HasHistory, Keeps, KeptAtMemory}
use Rattle.kin_replay.specs.Mined.{HasMined, IsOfHistory}
use Rattle.kin_replay.specs.Plays.{IsLater, StandsNear, shown_answer, shown, Plays, PlaysFront}
use Rattle.kin_replay.proofs.Cuts.{has-parts}
use Rattle.kin_replay.proofs.Mined.{mined-now}

-- an answer of a history that an epoch was mined names the one begun last
of-history : (set : Setting) (h : List Event) (e : Event) (o : Outcome) → outcome_of set h e ≡ o → IsOfHistory set (e ∷ h) o
of-history set h e (outcome.Mined k) is = (mined-now set h e k is).begun
of-history set h e _ is = tt

-- what an event that was accepted leaves was just mined, where its answer says so
pub has-mined : (old new : WorldView) (e : Event) (o : Outcome) → HasHistory old → Keeps old e o new → HasMined new o
has-mined old new e (outcome.Mined k) has keeps =
    let kept = keeps has.0 has.1 has.2 in
    let m = mined-now has.0 has.1 e k (sym kept.0) in
    record { set = has.0; h = e ∷ has.1; stands = kept.1; some = m.some; begun = m.begun; cut = m.cut; closed = m.closed }
has-mined old new e _ has keeps = tt

-- and it stands for a history
pub keeps-history : (old new : WorldView) (e : Event) (o : Outcome) → HasHistory old → Keeps old e o new → HasHistory new
keeps-history old new e o has keeps = (has.0, e ∷ has.1, (keeps has.0 has.1 has.2).1)

-- where want of memory for an event leaves a world
pub near-kept : (set : Setting) (h : List Event) (old new : WorldView) (e : Event) → KeptAtMemory old e new → Stands set old h → StandsNear true set new h
near-kept set h old new event.Mine kept s = ⊎_elim (λ (a : Stands set new h). inl a) (λ (b : Stands set new (event.Begin ∷ h)). inr (refl, b)) (kept set h s)
near-kept set h old new _ kept s = inl (subst (λ (w : WorldView). Stands set w h) (sym kept) s)

module _ (options : OptionWords) (trace : Bool) where
  -- the block that an answer prints stays as it is, whatever comes later
  block-later : (set : Setting) (h whole : List Event) (e : Event) → 0 < set.parts → IsLater set (e ∷ h) whole → (o : Outcome) → outcome_of set h e ≡ o
      → mined_block (block_after set options (e ∷ h)) o ≡ mined_block (block_after set options whole) o
  block-later set h whole e some l (outcome.Mined k) is =
      sym (ap (λ (g : List Event). block_after set options g k.0) l.goes_on
      ∙ block-stays set (e ∷ h) l.more some (subst (IsHistory set) l.goes_on l.legal) k.0 (mined-now set h e k is).cut options)
  block-later set h whole e some l _ is = refl

  module _ (old new : WorldView) (number : Option ℕ) (e : Event) (o : Outcome) (text : List ℕ) (keeps : Keeps old e o new)
      (says : (set : Setting) (h : List Event) → Stands set new h → IsOfHistory set h o → text ≡ shown_answer set options trace h number o) where
    abbrev ran : List Ran
    ran = record { number = number; event = e } ∷ []

    text-is : (set : Setting) (h whole : List Event) → Stands set old h → IsLater set (e ∷ h) whole → text ≡ shown set options trace whole h ran
    text-is set h whole s l =
        let kept = keeps set h s in
        let some = has-parts set old h s 0 (omega arith) in
        let told = outcome_of set h e in
        says set (e ∷ h) kept.1 (of-history set h e o (sym kept.0))
        ∙ ap (λ (x : Outcome). shown_answer set options trace (e ∷ h) number x) kept.0
        ∙ ap (λ (b : List ℕ). traced trace number told ++ b) (block-later set h whole e some l told refl)
        ∙ sym (append-nil (shown_answer set options trace whole number told))

    -- all that it prints was written
    pub plays-one : (was now : Option (List ℕ)) → Grew was now text → Plays options trace ran (record { world = old; taken = was }) (record { world = new; taken = now })
    plays-one was now grew set h whole s l = record { stands = (keeps set h s).1; grew = subst (Grew was now) (text-is set h whole s l) grew }

    -- a prefix of it was
    pub plays-part : (starved : Bool) (was now : Option (List ℕ)) → GrewBySome was now text → PlaysFront starved options trace ran (record { world = old; taken = was }) (record { world = new; taken = now })
    plays-part starved was now grew set h whole s l = record { count = 1; within = omega arith; stands = inl (keeps set h s).1; grew = subst (GrewBySome was now) (text-is set h whole s l) grew }

  -- the event was accepted, and nothing of what it prints was written
  pub plays-unwritten : (starved : Bool) (old new : WorldView) (number : Option ℕ) (e : Event) (o : Outcome) (taken : Option (List ℕ)) → Keeps old e o new
      → PlaysFront starved options trace (record { number = number; event = e } ∷ []) (record { world = old; taken = taken }) (record { world = new; taken = taken })
  plays-unwritten starved old new number e o taken keeps set h whole s l =
      record { count = 1; within = omega arith; stands = inl (keeps set h s).1; grew = (0, omega arith, grew_none taken) }

  -- memory was wanting for the event
  pub plays-starved : (old new : WorldView) (number : Option ℕ) (e : Event) (taken : Option (List ℕ)) → KeptAtMemory old e new
      → PlaysFront true options trace (record { number = number; event = e } ∷ []) (record { world = old; taken = taken }) (record { world = new; taken = taken })
  plays-starved old new number e taken kept set h whole s l =
      record { count = 0; within = omega arith; stands = near-kept set h old new e kept s; grew = (0, omega arith, grew_none taken) }
