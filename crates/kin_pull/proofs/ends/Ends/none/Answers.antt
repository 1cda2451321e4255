use Rattle.std.proofs.Common.{◌∙◌, ℕ, [], ap, get_or}
use Rattle.std.specs.Option.{option_map}
use Rattle.kin_pull.proofs.LookedUp.{cell-map}
use Rattle.kin_pull.proofs.ends.Ends.none.Goals as goal

pub returns-clause-none : goal.returns-clause-none
returns-clause-none c = λ p. cell-map (λ (k : ℕ). get_or c.new.result k []) c.in_ok-no_cells.field-0.items p
    ∙ ap (option_map (λ (k : ℕ). get_or c.new.result k [])) (c.in_ok-no_cells.ensures.none p)
