-- Events that are played one after the other.
use Rattle.std.proofs.Common.{◌≡◌, ℕ, ◌+◌, inl, Bool, List, [], ◌++◌, length, take, drop, sym, ap, subst, ◌∙◌, arith}
use Rattle.std.proofs.lemmas.List.{append-nil, length-append, take_all, take-append-le}
use Rattle.std.proofs.Math.Seq.{take-append_seam, take-add, drop-append_seam}
use Rattle.kin_ids.specs.declared.options.OptionWords.{OptionWords}
use Rattle.kin_script.specs.declared.events.Event.{Event}
use Rattle.kin_io.specs.Outside.{Grew, GrewBySome}
use Rattle.kin_io.proofs.Growth.{grew_more, grew_none, front_grew, piece_grew}
use Rattle.kin_history.specs.Setting.{Setting, after}
use Rattle.kin_report.specs.Report.{Ran, events_of, block_after}
use Rattle.kin_report.proofs.Quiet.{printed-append, events_of-append}
use Rattle.kin_world.specs.Stands.{Stands}
use Rattle.kin_world.proofs.Running.{after-append}
use Rattle.kin_replay.specs.Plays.{Scene, IsLater, StandsNear, shown, HasPlayed, HasPlayedFront, Plays, PlaysFront}

-- the history after two runs
pub after-runs : (h : List Event) (xs ys : List Ran) → after h (events_of (xs ++ ys)) ≡ after (after h (events_of xs)) (events_of ys)
after-runs h xs ys = ap (after h) (events_of-append xs ys) ∙ after-append h (events_of xs) (events_of ys)

-- what goes on from both of two runs goes on from the first
pub later-first : (set : Setting) (h whole : List Event) (xs ys : List Ran) → IsLater set (after h (events_of (xs ++ ys))) whole → IsLater set (after h (events_of xs)) whole
later-first set h whole xs ys l = record {
  more = events_of ys ++ l.more;
  goes_on = l.goes_on ∙ ap (λ (g : List Event). after g l.more) (after-runs h xs ys) ∙ sym (after-append (after h (events_of xs)) (events_of ys) l.more);
  legal = l.legal;
}

-- and from the second, which begins where the first ends
pub later-second : (set : Setting) (h whole : List Event) (xs ys : List Ran) → IsLater set (after h (events_of (xs ++ ys))) whole
    → IsLater set (after (after h (events_of xs)) (events_of ys)) whole
later-second set h whole xs ys l = subst (λ (g : List Event). IsLater set g whole) (after-runs h xs ys) l

shown-append : (set : Setting) (options : OptionWords) (trace : Bool) (whole h : List Event) (xs ys : List Ran) →
    shown set options trace whole h (xs ++ ys) ≡ shown set options trace whole h xs ++ shown set options trace whole (after h (events_of xs)) ys
shown-append set options trace whole h xs ys = printed-append (block_after set options whole) set trace h xs ys

module _ (set : Setting) (options : OptionWords) (trace : Bool) (whole h : List Event) where
  -- one run was played, and then the next
  pub played-more : (xs ys : List Ran) (a b c : Scene) → HasPlayed set options trace whole h xs a b → HasPlayed set options trace whole (after h (events_of xs)) ys b c
      → HasPlayed set options trace whole h (xs ++ ys) a c
  played-more xs ys a b c one two = record {
    stands = subst (Stands set c.world) (sym (after-runs h xs ys)) two.stands;
    grew = subst (Grew a.taken c.taken) (sym (shown-append set options trace whole h xs ys))
        (grew_more a.taken b.taken c.taken (shown set options trace whole h xs) (shown set options trace whole (after h (events_of xs)) ys) one.grew two.grew);
  }

  -- a front of one run is a front of a longer one
  pub front-longer : (starved : Bool) (xs ys : List Ran) (a b : Scene) → HasPlayedFront starved set options trace whole h xs a b → HasPlayedFront starved set options trace whole h (xs ++ ys) a b
  front-longer starved xs ys a b f =
      let text = shown set options trace whole h xs in
      let rest = shown set options trace whole (after h (events_of xs)) ys in
      record {
        count = f.count;
        within = let n = f.within in omega (arith, n, length-append xs ys);
        stands = subst (λ (rs : List Ran). StandsNear starved set b.world (after h (events_of rs))) (sym (take-append-le f.count xs ys f.within)) f.stands;
        grew = subst (GrewBySome a.taken b.taken) (sym (shown-append set options trace whole h xs ys))
            (f.grew.0, (let n = f.grew.1 in omega (arith, n, length-append text rest)), subst (Grew a.taken b.taken) (sym (take-append-le f.grew.0 text rest f.grew.1)) f.grew.2);
      }

  -- one run was played, and a front of the next
  pub front-after : (starved : Bool) (xs ys : List Ran) (a b c : Scene) → HasPlayed set options trace whole h xs a b → HasPlayedFront starved set options trace whole (after h (events_of xs)) ys b c
      → HasPlayedFront starved set options trace whole h (xs ++ ys) a c
  front-after starved xs ys a b c one f =
      let front : take (length xs + f.count) (xs ++ ys) ≡ xs ++ take f.count ys =
      take-add (length xs) f.count (xs ++ ys) ∙ ap (λ (t : List Ran). t ++ take f.count (drop (length xs) (xs ++ ys))) (take-append_seam xs ys) ∙ ap (λ (t : List Ran). xs ++ take f.count t) (drop-append_seam xs ys) in
      let text = shown set options trace whole h xs in
      let rest = shown set options trace whole (after h (events_of xs)) ys in
      record {
        count = length xs + f.count;
        within = let n = f.within in omega (arith, n, length-append xs ys);
        stands = subst (λ (rs : List Ran). StandsNear starved set c.world (after h (events_of rs))) (sym front) (subst (StandsNear starved set c.world) (sym (after-runs h xs (take f.count ys))) f.stands);
        grew = piece_grew a.taken b.taken c.taken text rest [] (shown set options trace whole h (xs ++ ys)) one.grew f.grew
            (ap (λ (t : List ℕ). text ++ t) (append-nil rest) ∙ sym (shown-append set options trace whole h xs ys));
      }

  -- all of a run is a front of it
  pub front-whole : (starved : Bool) (xs : List Ran) (a b : Scene) → HasPlayed set options trace whole h xs a b → HasPlayedFront starved set options trace whole h xs a b
  front-whole starved xs a b one =
      let text = shown set options trace whole h xs in
      record {
        count = length xs;
        within = omega arith;
        stands = subst (λ (rs : List Ran). StandsNear starved set b.world (after h (events_of rs))) (sym (take_all (length xs) xs (omega arith))) (inl one.stands);
        grew = front_grew a.taken b.taken text [] text one.grew (append-nil text);
      }

-- nothing was played
pub plays-none : (options : OptionWords) (trace : Bool) (a : Scene) → Plays options trace [] a a
plays-none options trace a set h whole s l = record { stands = s; grew = grew_none a.taken }

-- the same of what is played after every history
pub plays-more : (options : OptionWords) (trace : Bool) (xs ys : List Ran) (a b c : Scene) → Plays options trace xs a b → Plays options trace ys b c
    → Plays options trace (xs ++ ys) a c
plays-more options trace xs ys a b c p q set h whole s l =
    let one = p set h whole s (later-first set h whole xs ys l) in
    played-more set options trace whole h xs ys a b c one (q set (after h (events_of xs)) whole one.stands (later-second set h whole xs ys l))

pub plays-longer : (starved : Bool) (options : OptionWords) (trace : Bool) (xs ys : List Ran) (a b : Scene) → PlaysFront starved options trace xs a b → PlaysFront starved options trace (xs ++ ys) a b
plays-longer starved options trace xs ys a b p set h whole s l = front-longer set options trace whole h starved xs ys a b (p set h whole s (later-first set h whole xs ys l))

pub plays-front : (starved : Bool) (options : OptionWords) (trace : Bool) (xs ys : List Ran) (a b c : Scene) → Plays options trace xs a b → PlaysFront starved options trace ys b c
    → PlaysFront starved options trace (xs ++ ys) a c
plays-front starved options trace xs ys a b c p q set h whole s l =
    let one = p set h whole s (later-first set h whole xs ys l) in
    front-after set options trace whole h starved xs ys a b c one (q set (after h (events_of xs)) whole one.stands (later-second set h whole xs ys l))
