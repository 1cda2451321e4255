use Rattle.std.proofs.Common.{◌≡◌, ◌<◌, ◌+◌, ◌∙◌, ℕ, List, Option, None, Some, IfSome, get_or, length, set, ap, ap₂, sym, subst}
use Rattle.std.proofs.lemmas.List.{length_push}
use Rattle.kin_pull.proofs.LookedUp.{rows-at, rows-below, rows-put}
use Rattle.kin_pull.proofs.ends.Ends.put.Goals as goal

pub invariant_of-self-2 : goal.invariant_of-self-2
invariant_of-self-2 c = λ p.
    let rows : length c.push_row.new.self ≡ length c.self.inside.rows + 1 = ap (λ (rs : List (List ℕ)). length rs) c.in_ok-push_row.ensures.ok
    ∙ length_push c.self.inside.rows c.args.row.now in
    subst (λ (n : ℕ). IfSome (get_or (set c.self.inside.numbers.items c.args.i (Some c.len-number.result)) p None) (λ k. k < n)) (sym rows)
    (subst (λ (n : ℕ). IfSome (get_or (set c.self.inside.numbers.items c.args.i (Some n)) p None) (λ k. k < length c.self.inside.rows + 1))
    (sym c.len-number.ensures)
    (rows-below (length c.self.inside.rows) c.self.inside.numbers.items c.args.i c.self.invariant p))

pub returns-clause-ok : goal.returns-clause-ok
returns-clause-ok c =
    ap₂ (λ (rs : List (List ℕ)) (n : ℕ). rows-at rs (set c.self.inside.numbers.items c.args.i (Some n))) c.in_ok-push_row.ensures.ok c.len-number.ensures
    ∙ (rows-put c.self.inside.rows c.args.row.now c.self.inside.numbers.items c.args.i c.self.invariant
    ∙ ap (λ (es : List (Option (List ℕ))). set es c.args.i (Some c.args.row.now)) c.self.view_is)
