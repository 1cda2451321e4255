-- Refused events leave the world as it is.
use Rattle.std.proofs.Common.{◌≡◌, ℕ, Option, Some, None, sym, subst}
use Rattle.kin_script.specs.declared.outcomes.Outcome.{Outcome}
use Rattle.kin_script.specs.declared.outcomes.Outcome.TheVariants as outcome
use Rattle.kin_script.specs.declared.outcomes.Refusal.TheVariants as refusal
use Rattle.kin_held.specs.declared.answers.Taken.{Taken}
use Rattle.kin_held.specs.declared.answers.Taken.TheVariants as taken
use Rattle.kin_table.specs.declared.answers.Raised.{Raised}
use Rattle.kin_table.specs.declared.answers.Raised.TheVariants as raised
use Rattle.kin_world.specs.declared.sent_logs.Sent.{Sent}
use Rattle.kin_world.specs.Worlds.{WorldView, KeptWhereRefused}
use Rattle.kin_world.specs.Steps.{Stamps, Crashes, Restarts, Delivers, told, told_raise}

pub stamp-kept : (old : WorldView) (j n : ℕ) (o : Outcome) (new : WorldView) → Stamps old j n o new → KeptWhereRefused old o new
stamp-kept old j n (outcome.Refused refusal.Down) new made = made.1
stamp-kept old j n (outcome.Refused refusal.Exhausted) new made = made.2
stamp-kept old j n (outcome.Stamped s) new made = tt
stamp-kept old j n _ new made = absurd made

pub crash-kept : (old : WorldView) (j : ℕ) (o : Outcome) (new : WorldView) → Crashes old j o new → KeptWhereRefused old o new
crash-kept old j (outcome.Refused refusal.Down) new crashes = crashes.1
crash-kept old j outcome.Crashed new crashes = tt
crash-kept old j _ new crashes = absurd crashes

pub restart-kept : (old : WorldView) (j : ℕ) (o : Outcome) (new : WorldView) → Restarts old j o new → KeptWhereRefused old o new
restart-kept old j (outcome.Refused refusal.Up) new back = back.1
restart-kept old j (outcome.Refused refusal.IncarnationsSpent) new back = back.2
restart-kept old j (outcome.Restarted c base) new back = tt
restart-kept old j _ new back = absurd back

told-kept : (old : WorldView) (t : Taken) (new : WorldView) → KeptWhereRefused old (told t) new
told-kept old (taken.Held top) new = tt
told-kept old (taken.Early top) new = tt
told-kept old taken.Repeat new = tt
told-kept old (taken.Stale c) new = tt
told-kept old (taken.Adrift b f top) new = tt

pub deliver-kept : (old : WorldView) (p : ℕ) (found : Option Sent) (o : Outcome) (new : WorldView) → Delivers old p found o new → KeptWhereRefused old o new
deliver-kept old p None o new delivers = subst (λ (answer : Outcome). KeptWhereRefused old answer new) (sym delivers.0) delivers.1
deliver-kept old p (Some s) o new delivers = subst (λ (answer : Outcome). KeptWhereRefused old answer new) (sym delivers.answer) (told-kept old delivers.taken new)

raised-kept : (old : WorldView) (r : Raised) (new : WorldView) → KeptWhereRefused old (told_raise r) new
raised-kept old (raised.Raised to) new = tt
raised-kept old (raised.Level to) new = tt

pub raise-kept : (old : WorldView) (r : Raised) (o : Outcome) (new : WorldView) → o ≡ told_raise r → KeptWhereRefused old o new
raise-kept old r o new answer = subst (λ (x : Outcome). KeptWhereRefused old x new) (sym answer) (raised-kept old r new)
