use Rattle.std.proofs.Common.{ℕ, ◌-◌, ◌∙◌, List, sym, ap, subst}
use Rattle.kin_ids.specs.declared.ids.User.{User}
use Rattle.kin_ids.specs.Users.{has_user}
use Rattle.kin_rules.specs.ResultChanges.{SetsNumber}
use Rattle.kin_counts.specs.Changes.{lowered}
use Rattle.kin_counts.proofs.Moving.{moves-one, moves-none, lowered-none}
use Rattle.kin_counts.proofs.changes.lower_one.Goals as goal

pub returns-then-is_among : goal.returns-then-is_among
returns-then-is_among c =
    moves-one lowered lowered-none c.args.counted.now c.put_number.new.self c.args.which c.args.u 1
    (sym (ap (λ (us : List User). has_user us c.args.u) c.users.ensures.users) ∙ (sym c.is_among.ensures ∙ c.if-is_among.true))
    (subst (λ (n : ℕ). SetsNumber c.args.counted.now c.args.which c.args.u n c.put_number.new.self)
    (c.saturating_sub.ensures ∙ ap (λ (n : ℕ). n - 1) c.number_of-n.ensures) c.put_number.ensures)

pub returns-else-is_among : goal.returns-else-is_among
returns-else-is_among c =
    moves-none lowered lowered-none c.args.counted.now c.args.which c.args.u 1
    (sym (ap (λ (us : List User). has_user us c.args.u) c.users.ensures.users) ∙ (sym c.is_among.ensures ∙ c.if-is_among.false))
