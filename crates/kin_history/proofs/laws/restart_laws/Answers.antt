use Rattle.kin_history.specs.Laws.{WholeLineLaw, BaseLaw, CutBackLaw, LossLaw, BasesStayLaw}
use Rattle.kin_history.proofs.Sound.{sound}
use Rattle.kin_history.proofs.Lasts.{cut-back, loss, keeps-bases-later}
use Rattle.kin_history.proofs.laws.restart_laws.Goals as goal

lines : WholeLineLaw
lines set h i some legal =
    let g = sound set h i some legal in
    record { run = g.run; within = g.within; sizes = λ s k. let place = g.places s k in (g.sizes s place.made place.ingest).0; places = g.places }

bases : BaseLaw
bases set h i some legal = let g = sound set h i some legal in record { count = g.count; first = g.first; ordered = g.ordered; agreed = g.older }

cut_back : CutBackLaw
cut_back set h j some legal accepted = cut-back set h j some legal accepted

lost : LossLaw
lost set h e i s some legal was gone = loss set h e i s some legal was gone

bases_stay : BasesStayLaw
bases_stay set h es i some legal = keeps-bases-later set h es i some legal

pub returns : goal.returns
returns c = record { lines = lines; bases = bases; cut_back = cut_back; lost = lost; bases_stay = bases_stay }
