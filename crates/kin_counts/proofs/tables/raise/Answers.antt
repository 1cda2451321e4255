use Rattle.std.proofs.Common.{nat_eq, unwrap_or, refl, ◌∙◌, ap}
use Rattle.std.specs.HashMap.{get}
use Rattle.kin_ids.specs.declared.ids.User.{User}
use Rattle.kin_ids.specs.Users.{same_user}
use Rattle.kin_ids.proofs.Same.{same_user-true}
use Rattle.kin_counts.specs.Changes.{raised}
use Rattle.kin_counts.proofs.Moving.{raised-is}
use Rattle.kin_counts.proofs.Filling.{one-moved, user-test}
use Rattle.kin_counts.proofs.tables.raise.Goals as goal

pub returns-clause-numbers : goal.returns-clause-numbers
returns-clause-numbers c =
    let old = λ (x : User). unwrap_or (get nat_eq c.args.numbers.now x.0) 0 in
    let new = λ (x : User). unwrap_or (get nat_eq c.put.new.numbers x.0) 0 in
    one-moved raised (λ n. refl) same_user same_user-true old new c.args.u c.args.by (λ x. nat_eq c.args.u.0 x.0)
    (user-test c.args.u) c.saturating_add.result
    (c.saturating_add.ensures ∙ (raised-is c.args.by c.number_at-n.result c.number_at-n.type_inv
    ∙ ap (raised c.args.by) c.number_at-n.ensures)) (λ x. c.put.ensures.numbers x.0)
