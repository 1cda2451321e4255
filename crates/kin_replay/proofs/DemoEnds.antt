-- What holds of the run of a generated job holds of whatever the words ask for.
use Rattle.std.proofs.Common.{◌≡◌, inl, inr, true, List, refl, subst}
use Rattle.kin_ids.specs.declared.options.DemoWords.{DemoWords}
use Rattle.kin_ids.specs.declared.statuses.Status.{Status}
use Rattle.kin_ids.specs.declared.statuses.Status.TheVariants as status
use Rattle.kin_words.specs.Commands.{AsksDemo}
use Rattle.kin_words.proofs.Asked.{demo_once}
use Rattle.kin_replay.specs.Demos.{ForDemo}
use Rattle.kin_replay.specs.Ends.{is_early, IsDoneOrMemory}
use Rattle.kin_replay.specs.Files.{Text}

pub for-demo : (words : List Text) (own : DemoWords) → AsksDemo words own → (Holds : DemoWords → Type 0) → Holds own → ForDemo words Holds
for-demo words own asks Holds holds w also = subst Holds (demo_once words own w asks also) holds

-- a run that wasn't refused, and didn't end with Write, ended with Done or for want of memory
pub run-well : (s : Status) → (is_early s ≡ true → ⊥) → (s ≡ status.Write → ⊥) → IsDoneOrMemory s
run-well status.Done early write = inl refl
run-well status.Usage early write = absurd (early refl)
run-well (status.Script n) early write = absurd (early refl)
run-well status.Read early write = absurd (early refl)
run-well status.Write early write = absurd (write refl)
run-well (status.Limit q) early write = absurd (early refl)
run-well status.Memory early write = inr refl
