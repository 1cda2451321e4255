-- Why files are refused: one cause at most, and none where they fit.
use Rattle.std.proofs.Common.{◌≡◌, ℕ, ◌<◌, ◌≤◌, ◌⊎◌, inl, inr, List, true, length, refl, sym, ap, ◌∙◌, arith}
use Rattle.std.proofs.lemmas.Bool.{true≢false}
use Rattle.kin_ids.specs.declared.options.ReplayWords.{ReplayWords}
use Rattle.kin_ids.specs.declared.statuses.Status.{Status}
use Rattle.kin_ids.specs.declared.statuses.Status.TheVariants as status
use Rattle.kin_ids.specs.declared.statuses.Which.{Which}
use Rattle.kin_ids.specs.declared.statuses.Which.TheVariants as which
use Rattle.kin_script.specs.declared.events.Line.{Line}
use Rattle.kin_script.specs.Schedules.{IsScript, IsFirstOutside}
use Rattle.kin_replay.specs.Files.{Files, FeedsFit, FilesFit, IsPast, IsRefused, is_refusal}
use Rattle.kin_replay.specs.Refusals.{IsOfFeeds, IsOfFiles, IsOfScript, status_of}
use Rattle.kin_replay.specs.declared.refusals.Refusal.{Refusal}
use Rattle.kin_replay.specs.declared.refusals.Refusal.TheVariants as refusal
use Rattle.kin_replay.proofs.Languages.{none-outside, first-one}

bad-order : {a b : ℕ} → b < a → a ≤ b → ⊥
bad-order lt le = omega (arith, lt, le)

module _ (w : ReplayWords) (files : Files) where
  abbrev IsOutside : ℕ → Type 0
  IsOutside n = IsFirstOutside (length w.feeds) w.parts (files w.script) n

  -- nothing that fits is past its limit
  pub past-fits : (q : Which) → IsPast w files q → FilesFit w files → ⊥
  past-fits which.FeedBytes p f = let a = f.feeds.bytes in omega (arith, p, a)
  past-fits which.Records p f = let a = f.feeds.records in let b = p.1 in omega (arith, a, b)
  past-fits which.ScriptBytes p f = let a = f.bytes in let b = p.1 in omega (arith, a, b)
  past-fits which.ScriptLines p f = let a = f.lines in let b = p.2 in omega (arith, a, b)

  -- one quantity is the first past its limit
  past-one : (p q : Which) → IsPast w files p → IsPast w files q → p ≡ q
  past-one which.FeedBytes which.FeedBytes a b = refl
  past-one which.FeedBytes which.Records a b = absurd (let x = b.0 in bad-order a x)
  past-one which.FeedBytes which.ScriptBytes a b = absurd (bad-order a b.0.bytes)
  past-one which.FeedBytes which.ScriptLines a b = absurd (bad-order a b.0.bytes)
  past-one which.Records which.FeedBytes a b = absurd (bad-order b a.0)
  past-one which.Records which.Records a b = refl
  past-one which.Records which.ScriptBytes a b = absurd (bad-order a.1 b.0.records)
  past-one which.Records which.ScriptLines a b = absurd (bad-order a.1 b.0.records)
  past-one which.ScriptBytes which.FeedBytes a b = absurd (bad-order b a.0.bytes)
  past-one which.ScriptBytes which.Records a b = absurd (bad-order b.1 a.0.records)
  past-one which.ScriptBytes which.ScriptBytes a b = refl
  past-one which.ScriptBytes which.ScriptLines a b = absurd (bad-order a.1 b.1)
  past-one which.ScriptLines which.FeedBytes a b = absurd (bad-order b a.0.bytes)
  past-one which.ScriptLines which.Records a b = absurd (bad-order b.1 a.0.records)
  past-one which.ScriptLines which.ScriptBytes a b = absurd (bad-order b.1 a.1)
  past-one which.ScriptLines which.ScriptLines a b = refl

  -- a refusal by its two causes
  abbrev Causes : Status → Type 0
  Causes s = ((q : Which) × (s ≡ status.Limit q) × IsPast w files q) ⊎ ((n : ℕ) × (s ≡ status.Script n) × FilesFit w files × IsOutside n)

  causes : (s : Status) → IsRefused w files s → Causes s
  causes status.Done r = absurd r
  causes status.Usage r = absurd r
  causes (status.Script n) r = inr (n, refl, r.0, r.1)
  causes status.Read r = absurd r
  causes status.Write r = absurd r
  causes (status.Limit q) r = inl (q, refl, r)
  causes status.Memory r = absurd r

  -- files that fit, with a schedule, aren't refused
  pub fitting : (script : List Line) → FilesFit w files → IsScript (length w.feeds) w.parts (files w.script) script → (s : Status) → IsRefused w files s → ⊥
  fitting script f is s r = by-cause (causes s r)
    where
      by-cause : Causes s → ⊥
      by-cause (inl (q, e, past)) = past-fits q past f
      by-cause (inr (n, e, fit, outside)) = none-outside (length w.feeds) w.parts (files w.script) script n is outside

  -- they are refused for one cause
  pub refused-so : (r : Refusal) (s : Status) → IsOfFiles w files r → IsRefused w files s → (r ≡ refusal.Read → ⊥) → (status_of r ≡ s) ⊎ (status_of r ≡ status.Memory)
  refused-so refusal.Read s o c calm = absurd (calm refl)
  refused-so refusal.Memory s o c calm = inr refl
  refused-so (refusal.Limit q) s o c calm = inl (by-cause (causes s c))
    where
      by-cause : Causes s → status.Limit q ≡ s
      by-cause (inl (p, e, past)) = ap status.Limit (past-one q p o past) ∙ sym e
      by-cause (inr (n, e, fit, outside)) = absurd (past-fits q o fit)
  refused-so (refusal.Script n) s o c calm = inl (by-cause (causes s c))
    where
      by-cause : Causes s → status.Script n ≡ s
      by-cause (inl (p, e, past)) = absurd (past-fits p past o.0)
      by-cause (inr (m, e, fit, outside)) = ap status.Script (first-one (length w.feeds) w.parts (files w.script) n m o.1 outside) ∙ sym e

  -- the status of a refusal tells its cause
  pub tells-cause : (r : Refusal) → IsOfFiles w files r → is_refusal (status_of r) ≡ true → IsRefused w files (status_of r)
  tells-cause refusal.Read o e = absurd (true≢false (sym e))
  tells-cause refusal.Memory o e = absurd (true≢false (sym e))
  tells-cause (refusal.Limit q) o e = o
  tells-cause (refusal.Script n) o e = o

-- what comes of the feeds comes of the words' files
pub feeds-refuse : (w : ReplayWords) (files : Files) (r : Refusal) → IsOfFeeds w.feeds files r → IsOfFiles w files r
feeds-refuse w files refusal.Read o = tt
feeds-refuse w files (refusal.Limit which.FeedBytes) o = o
feeds-refuse w files (refusal.Limit which.Records) o = o
feeds-refuse w files (refusal.Limit which.ScriptBytes) o = absurd o
feeds-refuse w files (refusal.Limit which.ScriptLines) o = absurd o
feeds-refuse w files (refusal.Script n) o = absurd o
feeds-refuse w files refusal.Memory o = tt

-- and so does what comes of the schedule, where the feeds fit
pub script-refuse : (w : ReplayWords) (files : Files) (r : Refusal) → FeedsFit w.feeds files → IsOfScript (length w.feeds) w.parts r (files w.script) → IsOfFiles w files r
script-refuse w files refusal.Read fit o = tt
script-refuse w files (refusal.Limit which.FeedBytes) fit o = absurd o
script-refuse w files (refusal.Limit which.Records) fit o = absurd o
script-refuse w files (refusal.Limit which.ScriptBytes) fit o = (fit, o)
script-refuse w files (refusal.Limit which.ScriptLines) fit o = (fit, o.0, o.1)
script-refuse w files (refusal.Script n) fit o = (record { feeds = fit; bytes = o.0; lines = o.1 }, o.2)
script-refuse w files refusal.Memory fit o = tt
