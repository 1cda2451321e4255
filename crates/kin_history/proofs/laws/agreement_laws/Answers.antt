use Rattle.std.proofs.Common.{arith}
use Rattle.kin_ids.proofs.Lines.{end_within}
use Rattle.kin_history.specs.Lines.{inc, line, agreed}
use Rattle.kin_history.specs.Laws.{AgreedLaw, AckLaw, WholeLaw, KeptLaw, LastingLaw}
use Rattle.kin_history.proofs.Sound.{sound}
use Rattle.kin_history.proofs.Seen.{agreed-least, agreed-reported, last-inc, seen-past, row-seen}
use Rattle.kin_history.proofs.Lasts.{rises-later, stays-later}
use Rattle.kin_history.proofs.laws.agreement_laws.Goals as goal

placed : AgreedLaw
placed set h i some legal =
    let g = sound set h i some legal in
    record { ends = g.ends; from = g.older (inc set h i) (omega arith); to = end_within 0 (line set h i) (agreed set h i) g.run g.ends; last = λ s k lt. last-inc set h i s g k lt }

acknowledged : AckLaw
acknowledged set h i some legal = let g = sound set h i some legal in record { each = g.acks; least = agreed-least set h i some g }

delivered : WholeLaw
delivered set h i p s some legal lt k le = agreed-reported set h i p s (sound set h i some legal) lt k le

kept : KeptLaw
kept set h i p c some legal p_lt le lt =
    let row = seen-past set h i p c some legal p_lt le lt in
    let more = row-seen set h i p in
    (omega arith, row)

lasting : LastingLaw
lasting set h es i some legal = record { rises = rises-later set h es i some legal; stays = stays-later set h es i (agreed set h i) some legal (omega arith) }

pub returns : goal.returns
returns c = record { placed = placed; acknowledged = acknowledged; delivered = delivered; kept = kept; lasting = lasting }
