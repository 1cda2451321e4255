use Rattle.std.proofs.Common.{◌∙◌, Option, None, ℕ, List, get_or, refl, ap}
use Rattle.std.proofs.lemmas.List.{get_or-map}
use Rattle.kin_rules.specs.UserCosts.{cost_of}
use Rattle.kin_rules.proofs.CostLists.{set-next}
use Rattle.kin_rules.proofs.walks.costs_of.Goals as goal

pub loop-i-preserved : goal.loop-i-preserved
loop-i-preserved c f is =
    let value = ap (λ (vs : List (Option ℕ)). get_or vs c.loop-i.i None) is ∙ get_or-map f c.args.users.now c.loop-i.i (record { 0 = 0 }) None c.loop-i-test.true in
    set-next f (cost_of c.loop-i.costs) (cost_of c.put_cost.new.costs) c.args.users.now c.loop-i.i (record { 0 = 0 }) (get_or c.args.users.now c.loop-i.i (record { 0 = 0 })) (get_or c.args.values.now c.loop-i.i None)
    c.loop-i-test.true refl value (c.loop-i.invariant f is) c.in_ok-put_cost.ensures
