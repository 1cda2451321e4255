-- What follows from how a run of a job ended, and from why none began.
use Rattle.std.proofs.Common.{◌≡◌, ℕ, ◌⊎◌, inl, inr, Bool, true, false, List, Option, Some, None, length, refl, sym, ap, subst}
use Rattle.std.specs.Prelude.{is_some, IfSome}
use Rattle.std.proofs.lemmas.Bool.{true≢false}
use Rattle.kin_ids.specs.declared.options.ReplayWords.{ReplayWords}
use Rattle.kin_ids.specs.declared.statuses.Status.{Status}
use Rattle.kin_ids.specs.declared.statuses.Status.TheVariants as status
use Rattle.kin_script.specs.Schedules.{IsScript}
use Rattle.kin_script.specs.declared.events.Line.{Line}
use Rattle.kin_words.specs.Commands.{AsksReplay}
use Rattle.kin_words.proofs.Asked.{replay_once}
use Rattle.kin_world.specs.Worlds.{WorldView}
use Rattle.kin_replay.specs.Jobs.{Job}
use Rattle.kin_replay.specs.Files.{Text, Contents, Files, FilesFit, IsJob, is_refusal}
use Rattle.kin_replay.specs.Refusals.{IsOfFiles, status_of}
use Rattle.kin_replay.specs.Ends.{EndsDone, EndsUnwritten, EndsStarved, JobEnds, Asked, ForTold, ForAsked, IsDoneOrMemory, has_run, is_early}
use Rattle.kin_replay.specs.declared.refusals.Refusal.{Refusal}
use Rattle.kin_replay.specs.declared.refusals.Refusal.TheVariants as refusal
use Rattle.kin_replay.proofs.Languages.{none-outside}
use Rattle.kin_replay.proofs.Refused.{past-fits}

-- ---- a job that ran

module _ (j : Job) (old new : Option (List ℕ)) where
  -- it ended in one of three ways
  pub three-ends : (s : Status) (w : Option WorldView) → JobEnds j old new s w → (s ≡ status.Done) ⊎ (s ≡ status.Write) ⊎ (s ≡ status.Memory)
  three-ends status.Done w ends = inl refl
  three-ends status.Usage w ends = absurd ends
  three-ends (status.Script n) w ends = absurd ends
  three-ends status.Read w ends = absurd ends
  three-ends status.Write w ends = inr (inl refl)
  three-ends (status.Limit q) w ends = absurd ends
  three-ends status.Memory w ends = inr (inr refl)

  -- none of which is early
  pub ran-late : (s : Status) (w : Option WorldView) → JobEnds j old new s w → is_early s ≡ true → ⊥
  ran-late status.Done w ends e = true≢false (sym e)
  ran-late status.Usage w ends e = ends
  ran-late (status.Script n) w ends e = ends
  ran-late status.Read w ends e = ends
  ran-late status.Write w ends e = true≢false (sym e)
  ran-late (status.Limit q) w ends e = ends
  ran-late status.Memory w ends e = true≢false (sym e)

  pub ran-unrefused : (s : Status) (w : Option WorldView) → JobEnds j old new s w → is_refusal s ≡ true → ⊥
  ran-unrefused status.Done w ends e = true≢false (sym e)
  ran-unrefused status.Usage w ends e = ends
  ran-unrefused (status.Script n) w ends e = ends
  ran-unrefused status.Read w ends e = ends
  ran-unrefused status.Write w ends e = true≢false (sym e)
  ran-unrefused (status.Limit q) w ends e = ends
  ran-unrefused status.Memory w ends e = true≢false (sym e)

  -- and after two of which there is a world
  pub ran-world : (s : Status) (w : Option WorldView) → JobEnds j old new s w → has_run s ≡ true → is_some w ≡ true
  ran-world s (Some w) ends e = refl
  ran-world status.Done None ends e = absurd ends.1
  ran-world status.Usage None ends e = absurd ends
  ran-world (status.Script n) None ends e = absurd ends
  ran-world status.Read None ends e = absurd ends
  ran-world status.Write None ends e = absurd ends.1
  ran-world (status.Limit q) None ends e = absurd ends
  ran-world status.Memory None ends e = absurd (true≢false (sym e))

  pub ran-done : (s : Status) (w : Option WorldView) → JobEnds j old new s w → s ≡ status.Done → EndsDone j old new w
  ran-done s w ends e = subst (λ t. JobEnds j old new t w) e ends

  pub ran-unwritten : (s : Status) (w : Option WorldView) → JobEnds j old new s w → s ≡ status.Write → EndsUnwritten j old new w
  ran-unwritten s w ends e = subst (λ t. JobEnds j old new t w) e ends

  pub ran-starved : (s : Status) (w : Option WorldView) → JobEnds j old new s w → s ≡ status.Memory → EndsStarved j old new w
  ran-starved s w ends e = subst (λ t. JobEnds j old new t w) e ends

  pub ran-worldless : (s : Status) (w : Option WorldView) → JobEnds j old new s w → s ≡ status.Memory → w ≡ None → new ≡ old
  ran-worldless s w ends e none = subst (EndsStarved j old new) none (ran-starved s w ends e)

  -- where no write failed it is one of two
  pub ran-well : (s : Status) (w : Option WorldView) → JobEnds j old new s w → (s ≡ status.Write → ⊥) → IsDoneOrMemory s
  ran-well s w ends calm = by-end (three-ends s w ends)
    where
      by-end : (s ≡ status.Done) ⊎ (s ≡ status.Write) ⊎ (s ≡ status.Memory) → IsDoneOrMemory s
      by-end (inl e) = inl e
      by-end (inr (inl e)) = absurd (calm e)
      by-end (inr (inr e)) = inr e

-- it ended so for whatever the shelf tells, where it is the job of that
pub ran-so : (w : ReplayWords) (content : Contents) (j : Job) (Ends : Job → Type 0) → ForTold content w (λ files. IsJob w files j) → Ends j → ForTold content w (λ files. Asked w files Ends)
ran-so w content j Ends is ends files told = (j, is files told, ends)

pub ran-memory : (w : ReplayWords) (content : Contents) (j : Job) (old new : Option (List ℕ)) (s : Status) (world : Option WorldView) → JobEnds j old new s world → s ≡ status.Memory
    → ForTold content w (λ files. IsJob w files j) → IfSome world (λ v. ForTold content w (λ files. Asked w files (λ i. EndsStarved i old new (Some v))))
ran-memory w content j old new s None ends e is = tt
ran-memory w content j old new s (Some v) ends e is = ran-so w content j (λ i. EndsStarved i old new (Some v)) is (ran-starved j old new s (Some v) ends e)

-- ---- files that were refused

pub refused-early : (r : Refusal) → has_run (status_of r) ≡ true → ⊥
refused-early refusal.Read e = true≢false (sym e)
refused-early (refusal.Limit q) e = true≢false (sym e)
refused-early (refusal.Script n) e = true≢false (sym e)
refused-early refusal.Memory e = true≢false (sym e)

abbrev is_usage : Status → Bool
is_usage status.Usage = true
is_usage _ = false

pub refused-asked : (r : Refusal) → status_of r ≡ status.Usage → ⊥
refused-asked refusal.Read e = true≢false (sym (ap is_usage e))
refused-asked (refusal.Limit q) e = true≢false (sym (ap is_usage e))
refused-asked (refusal.Script n) e = true≢false (sym (ap is_usage e))
refused-asked refusal.Memory e = true≢false (sym (ap is_usage e))

abbrev is_read : Status → Bool
is_read status.Read = true
is_read _ = false

pub refused-read : (r : Refusal) → status_of r ≡ status.Read → r ≡ refusal.Read
refused-read refusal.Read e = refl
refused-read (refusal.Limit q) e = absurd (true≢false (sym (ap is_read e)))
refused-read (refusal.Script n) e = absurd (true≢false (sym (ap is_read e)))
refused-read refusal.Memory e = absurd (true≢false (sym (ap is_read e)))

-- files that fit, with a schedule, that could be read are refused for want of memory alone
pub refused-well : (w : ReplayWords) (files : Files) (script : List Line) → FilesFit w files → IsScript (length w.feeds) w.parts (files w.script) script
    → (r : Refusal) → IsOfFiles w files r → (r ≡ refusal.Read → ⊥) → status_of r ≡ status.Memory
refused-well w files script fit is refusal.Read o calm = absurd (calm refl)
refused-well w files script fit is (refusal.Limit q) o calm = absurd (past-fits w files q o fit)
refused-well w files script fit is (refusal.Script n) o calm = absurd (none-outside (length w.feeds) w.parts (files w.script) script n is o.1)
refused-well w files script fit is refusal.Memory o calm = refl

-- ---- words

-- what holds of what the words ask for holds of whatever they ask for
pub for-words : (words : List Text) (own : ReplayWords) → AsksReplay words own → (Holds : ReplayWords → Type 0) → Holds own → (w : ReplayWords) → AsksReplay words w → Holds w
for-words words own asked Holds h w asks = subst Holds (replay_once words own w asked asks) h

pub for-asked : (words : List Text) (own : ReplayWords) → AsksReplay words own → (content : Contents) (Holds : ReplayWords → Files → Type 0) → ForTold content own (Holds own) → ForAsked words content Holds
for-asked words own asked content Holds h = for-words words own asked (λ w. ForTold content w (Holds w)) h

pub for-world : (words : List Text) (own : ReplayWords) → AsksReplay words own → (content : Contents) (world : Option WorldView) (Holds : WorldView → ReplayWords → Files → Type 0)
    → IfSome world (λ v. ForTold content own (Holds v own)) → IfSome world (λ v. ForAsked words content (Holds v))
for-world words own asked content None Holds h = tt
for-world words own asked content (Some v) Holds h = for-asked words own asked content (Holds v) h
