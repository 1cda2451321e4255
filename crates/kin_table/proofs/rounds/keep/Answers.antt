use Rattle.std.proofs.Common.{length, ltb, rules}
use Rattle.std.proofs.lemmas.Fn.{filter_same}
use Rattle.kin_table.specs.Lists.{list_at}
use Rattle.kin_table.proofs.rounds.keep.Goals as goal

pub returns : goal.returns
returns c = filter_same _ (λ node. ltb c.args.place (length (list_at c.args.lists.now node))) _ (λ x b f' k. search rules) _ _ c.retain.ensures.filtered
