-- A world that is drained event by event.
use Rattle.std.proofs.Common.{◌≡◌, suc, ◌<◌, true, List, [], ◌∷◌, ◌++◌, Option, Some, None, length, take, refl, sym, ap, subst, ◌∙◌, append_assoc, arith}
use Rattle.std.proofs.lemmas.List.{append-nil, length-append}
use Rattle.std.proofs.Math.Seq.{take-append_seam}
use Rattle.kin_script.specs.declared.events.Event.{Event}
use Rattle.kin_script.specs.declared.outcomes.Outcome.{Outcome}
use Rattle.kin_history.specs.Setting.{Setting, after}
use Rattle.kin_history.specs.Drain.{drain}
use Rattle.kin_history.specs.MiningLaws.{drain_by}
use Rattle.kin_world.specs.Worlds.{WorldView}
use Rattle.kin_world.specs.Stands.{Stands, HasHistory, Keeps, KeptAtMemory}
use Rattle.kin_replay.specs.Drained.{DrainsWorld, DrainsInPart}
use Rattle.kin_replay.specs.Left.{drain_left}
use Rattle.kin_replay.specs.Plays.{StandsNear}
use Rattle.kin_replay.proofs.Drains.{left-is}
use Rattle.kin_world.proofs.Running.{after-append}
use Rattle.kin_replay.proofs.Playing.{near-kept}

-- some first events of the drain were taken, and the rest of it is the drain of the history so far
pub record GoesOn (set : Setting) (h : List Event) (w : WorldView) : Type 0 where
  pub done : List Event
  pub rest : drain set h ≡ done ++ drain set (after h done)
  pub stands : Stands set w (after h done)

-- so it is for every history that the world stood for
abbrev pub Goes : WorldView → WorldView → Type 0
Goes old now = (set : Setting) (h : List Event) → Stands set old h → GoesOn set h now

pub goes-none : (w : WorldView) → Goes w w
goes-none w set h s = record { done = []; rest = refl; stands = s }

module _ (old now new : WorldView) (e : Event) (next : (set : Setting) (h : List Event) → Stands set now h → drain set h ≡ drain_by set h (Some e)) where
  -- the next event was taken
  pub goes-more : (o : Outcome) → Keeps now e o new → Goes old now → Goes old new
  goes-more o keeps goes set h s =
      let d = goes set h s in
      let sofar = after h d.done in
      record {
        done = d.done ++ e ∷ [];
        rest = d.rest ∙ ap (λ (es : List Event). d.done ++ es) (next set sofar d.stands) ∙ sym (append_assoc d.done (e ∷ []) (drain set (e ∷ sofar)))
            ∙ ap (λ (g : List Event). (d.done ++ e ∷ []) ++ drain set g) (sym (after-append h d.done (e ∷ [])));
        stands = subst (Stands set new) (sym (after-append h d.done (e ∷ []))) (keeps set sofar d.stands).1;
      }

  -- which leaves one event less
  pub goes-less : (o : Outcome) → HasHistory now → Keeps now e o new → drain_left new < drain_left now
  goes-less o has keeps =
      let set = has.0 in
      let h = has.1 in
      let a = left-is set now h has.2 in
      let b = left-is set new (e ∷ h) (keeps set h has.2).1 in
      let c : length (drain set h) ≡ suc (length (drain set (e ∷ h))) = ap (λ (es : List Event). length es) (next set h has.2) in
      omega (arith, a, b, c)

  -- memory was wanting for it
  pub goes-starved : KeptAtMemory now e new → Goes old now → DrainsInPart old new
  goes-starved kept goes set h s =
      let d = goes set h s in
      let rest = drain set (after h d.done) in
      let front : take (length d.done) (drain set h) ≡ d.done = ap (take (length d.done)) d.rest ∙ take-append_seam d.done rest in
      let all = ap (λ (es : List Event). length es) d.rest in (
        length d.done,
        (let n = length-append d.done rest in omega (arith, n, all)),
        subst (λ (es : List Event). StandsNear true set new (after h es)) (sym front) (near-kept set (after h d.done) now new e kept d.stands),
      )

-- nothing is left
pub goes-all : (old now : WorldView) (o : Option Event) → ((e : Event) → o ≡ Some e → ⊥) → ((set : Setting) (h : List Event) → Stands set now h → drain set h ≡ drain_by set h o)
    → Goes old now → DrainsWorld old now
goes-all old now (Some e) none next goes set h s = absurd (none e refl)
goes-all old now None none next goes set h s =
    let d = goes set h s in
    let all : drain set h ≡ d.done = d.rest ∙ ap (λ (es : List Event). d.done ++ es) (next set (after h d.done) d.stands) ∙ append-nil d.done in
    subst (λ (es : List Event). Stands set now (after h es)) (sym all) d.stands
