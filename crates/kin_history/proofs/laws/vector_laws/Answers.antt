use Rattle.kin_history.specs.CutLaws.{VectorLaw, KeepLaw, KeepLaterLaw, SealedLaw, NeverWithinLaw}
use Rattle.kin_history.proofs.Sound.{sound}
use Rattle.kin_history.proofs.Cuts.{sound-cuts, keeps, keeps-later, sealed, never-within}
use Rattle.kin_history.proofs.laws.vector_laws.Goals as goal

rising : VectorLaw
rising set h i some legal lt = sound-cuts set h i some legal lt

kept : KeepLaw
kept set h e i some legal lt = keeps set h e i some legal lt

kept_later : KeepLaterLaw
kept_later set h es i some legal lt = keeps-later set h es i some legal lt

sealed_law : SealedLaw
sealed_law set h i k s some legal in_it old = sealed set h i k s (sound set h i some legal) in_it old

never_within : NeverWithinLaw
never_within set h es i k s some legal old past_seal = never-within set h es i k s some legal old past_seal

pub returns : goal.returns
returns c = record { rising = rising; kept = kept; kept_later = kept_later; sealed = sealed_law; never_within = never_within }
