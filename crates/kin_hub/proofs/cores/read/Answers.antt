use Rattle.std.proofs.Common.{◌∙◌, ℕ, sym, arith, map}
use Rattle.std.proofs.lemmas.List.{ext_get_or, get_or-map, length-map}
use Rattle.kin_held.specs.Chains.{ChainView, no_chain}
use Rattle.kin_hub.specs.Cores.{kept_inc}
use Rattle.kin_hub.proofs.cores.read.Goals as goal

pub returns-clause-incs : goal.returns-clause-incs
returns-clause-incs c = ext_get_or (record { 0 = 0 }) c.loop-i.incs (map kept_inc c.args.held.now)
    (omega (arith, length-map c.args.held.now kept_inc))
    (λ k lt. c.loop-i.invariant.incs k (omega arith) ∙ sym (get_or-map kept_inc c.args.held.now k no_chain _ (omega arith)))

pub returns-clause-tops : goal.returns-clause-tops
returns-clause-tops c =
    let top : ChainView → ℕ = λ chain. chain.top in
    ext_get_or 0 c.loop-i.tops (map top c.args.held.now) (omega (arith, length-map c.args.held.now top))
    (λ k lt. c.loop-i.invariant.tops k (omega arith) ∙ sym (get_or-map top c.args.held.now k no_chain 0 (omega arith)))
