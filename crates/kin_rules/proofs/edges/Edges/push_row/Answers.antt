use Rattle.std.proofs.Common.{◌≡◌, ◌≤◌, ◌∙◌, ◌++◌, [], ◌∷◌, List, ℕ, length, length-append, sym, subst, ap, ap₂, arith}
use Rattle.kin_rules.specs.Edges.{AreStops, rows_from}
use Rattle.kin_rules.proofs.EdgeRows.{stops-more, rows-more}
use Rattle.kin_rules.proofs.edges.Edges.push_row.Goals as goal

pub invariant_of-self-2 : goal.invariant_of-self-2
invariant_of-self-2 c =
    let len : c.len.result ≡ length c.extend_from_slice.new.self.items = omega (arith, c.len.ensures) in
    let stops = c.push_reserved.ensures.items ∙ ap₂ (λ (ss : List ℕ) (n : ℕ). ss ++ n ∷ []) c.in_ok-reserve.ensures.items len in
    let more : length c.self.inside.ends.items ≤ length c.extend_from_slice.new.self.items = rw (c.in_ok-extend_from_slice.ensures.items, length-append) (omega arith) in
    subst (λ (ss : List ℕ). AreStops 0 ss (length c.extend_from_slice.new.self.items)) (sym stops)
    (stops-more 0 c.self.inside.stops.items (length c.self.inside.ends.items) (length c.extend_from_slice.new.self.items) c.self.invariant more)

pub returns-clause-ok : goal.returns-clause-ok
returns-clause-ok c =
    let len : c.len.result ≡ length c.extend_from_slice.new.self.items = omega (arith, c.len.ensures) in
    let ends = c.in_ok-extend_from_slice.ensures.items in
    let stops = c.push_reserved.ensures.items ∙ ap₂ (λ (ss : List ℕ) (n : ℕ). ss ++ n ∷ []) c.in_ok-reserve.ensures.items (len ∙ ap length ends) in
    ap₂ (λ (ss : List ℕ) (es : List ℕ). rows_from 0 ss es) stops ends ∙ rows-more 0 c.self.inside.stops.items c.self.inside.ends.items c.args.row.now c.self.invariant
    ∙ ap (λ (rows : List (List ℕ)). rows ++ c.args.row.now ∷ []) c.self.view_is
