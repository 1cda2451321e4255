use Rattle.std.proofs.Common.{◌∙◌, sym, List, []}
use Rattle.kin_rules.specs.declared.numbers.KCount.{KCount}
use Rattle.kin_rules.proofs.ResultReads.{tag-past}
use Rattle.kin_rules.proofs.widenings.list_of.Goals as goal

pub returns-in-Err : goal.returns-in-Err
returns-in-Err c = c.new.ensures ∙ sym (tag-past {V = List KCount} c.args.tags.now c.args.expos.now c.args.t [] c.requires.long c.in-Err.ensures.none)
