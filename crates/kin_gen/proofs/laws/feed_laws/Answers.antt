use Rattle.kin_gen.proofs.Texts.{others}
use Rattle.kin_gen.proofs.Totals.{count-lines, small}
use Rattle.kin_gen.proofs.Rows.{count-records}
use Rattle.kin_gen.proofs.laws.feed_laws.Goals as goal

pub returns-clause-others : goal.returns-clause-others
returns-clause-others c = others

pub returns-clause-records : goal.returns-clause-records
returns-clause-records c = count-records

pub returns-clause-lines : goal.returns-clause-lines
returns-clause-lines c = count-lines

pub returns-clause-small : goal.returns-clause-small
returns-clause-small c = small
