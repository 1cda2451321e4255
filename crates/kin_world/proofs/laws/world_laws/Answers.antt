use Rattle.kin_world.proofs.Facts.{agreed_is, inc_is}
use Rattle.kin_world.proofs.Leads.{lead-law}
use Rattle.kin_world.proofs.Moments.{keeps-moments}
use Rattle.kin_world.proofs.Ready.{ready-is}
use Rattle.kin_world.proofs.Taking.{is_told}
use Rattle.kin_world.proofs.laws.world_laws.Goals as goal

pub returns-clause-agreement : goal.returns-clause-agreement
returns-clause-agreement c set w h i s lt = record { agreed_is = agreed_is set w h s i lt; inc_is = inc_is set w h s i lt; ready_is = ready-is set w h s i lt }

pub returns-clause-adrift : goal.returns-clause-adrift
returns-clause-adrift c set w h x taken new s part node made based takes = is_told set w h s x.part.0 x part node made based taken takes.1.0 takes.1.1

pub returns-clause-moments : goal.returns-clause-moments
returns-clause-moments c set w h k s = keeps-moments set w h k s

pub returns-clause-leads : goal.returns-clause-leads
returns-clause-leads c = lead-law
