use Rattle.std.proofs.Common.{refl, sym, ap, ◌∙◌, set}
use Rattle.kin_ids.specs.declared.ops.Half.{Half}
use Rattle.kin_store.proofs.Turns.{turned-none, turn-same, turn-writes, with_present}
use Rattle.kin_store.proofs.lists.turn.Goals as goal

pub returns-in_default-clause-ok : goal.returns-in_default-clause-ok
returns-in_default-clause-ok c = sym (turned-none c.args.other c.args.present c.args.halves.now (sym c.requires ∙ c.in_default.is))

pub returns-then-half-present-clause-ok : goal.returns-then-half-present-clause-ok
returns-then-half-present-clause-ok c =
    turn-same c.args.other c.args.present c.args.halves.now c.args.halves.now c.in-Some.at c.at-half.result refl (sym c.in-Some.is
    ∙ c.requires)
    (rw (← c.at-half.ensures c.at-half.result) c.if-half-present.true)

pub returns-clause-ok : goal.returns-clause-ok
returns-clause-ok c =
    c.in_ok-set.ensures.ok ∙ (ap (λ (h : Half). set c.args.halves.now c.in-Some.at (with_present c.args.present h))
    (c.at-half.ensures c.at-half.result)
    ∙ turn-writes c.args.other c.args.present c.args.halves.now c.args.halves.now c.in-Some.at c.at-half.result refl (sym c.in-Some.is
    ∙ c.requires))
