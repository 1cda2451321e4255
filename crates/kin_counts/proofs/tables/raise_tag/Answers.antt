use Rattle.std.proofs.Common.{ℕ, List, nat_eq, unwrap_or, refl, ◌∙◌, ap}
use Rattle.std.specs.HashMap.{get}
use Rattle.std.specs.Cmp.Lexicographic.{pointwise}
use Rattle.kin_ids.specs.Users.{same_tag}
use Rattle.kin_ids.proofs.Same.{same_tag-true}
use Rattle.kin_counts.specs.Changes.{raised}
use Rattle.kin_counts.proofs.Moving.{raised-is}
use Rattle.kin_counts.proofs.Filling.{one-moved, tag-test}
use Rattle.kin_counts.proofs.tables.raise_tag.Goals as goal

pub returns-clause-numbers : goal.returns-clause-numbers
returns-clause-numbers c =
    let old = λ (x : List ℕ). unwrap_or (get (pointwise nat_eq) c.args.numbers.now x) 0 in
    let new = λ (x : List ℕ). unwrap_or (get (pointwise nat_eq) c.put.new.numbers x) 0 in
    one-moved raised (λ n. refl) same_tag same_tag-true old new c.args.t 1 (pointwise nat_eq c.args.t)
    (tag-test c.args.t) c.saturating_add.result
    (c.saturating_add.ensures ∙ (raised-is 1 c.number_at-n.result c.number_at-n.type_inv
    ∙ ap (raised 1) c.number_at-n.ensures)) c.put.ensures.numbers
