-- A run of pieces takes a partition's part of any graph to its part of the graph after the run's records.
use Rattle.std.proofs.Common.{◌≡◌, ℕ, ◌<◌, List, [], ◌∷◌, sym, ◌∙◌, ap, subst, arith}
use Rattle.std.specs.List.{AllByRecursion}
use Rattle.kin_ids.specs.Types.{Record, Piece}
use Rattle.kin_ids.specs.Lines.{IsLine, end_of, stamps_of}
use Rattle.kin_ids.specs.Graph.{Graph}
use Rattle.kin_ids.specs.Order.{entries, between, folded}
use Rattle.kin_ids.specs.Operations.{part_ops}
use Rattle.kin_ids.specs.Parts.{PartView, IsPart, ops_applied}
use Rattle.kin_ids.proofs.Lines.{line_grows}
use Rattle.kin_ids.proofs.Joins.{between-none, entries-split, folded-append}
use Rattle.kin_ids.proofs.Shares.{part-law}

-- the operations of a node's pieces, one piece after the other
abbrev pub pieces_applied : ℕ → ℕ → PartView → List Piece → PartView
pieces_applied e i v [] = v
pieces_applied e i v (x ∷ xs) = pieces_applied e i (ops_applied e i v x.ops) xs

-- a piece has exactly its partition's operations of its stamp's records
abbrev pub HasOps : ℕ → ℕ → List Record → Piece → Type 0
HasOps parts p feed x = x.ops ≡ part_ops parts p x.stamp.from (between feed x.stamp.from x.stamp.to)

pub pieces-part : (parts p e i : ℕ) (feed : List Record) (at : ℕ) (xs : List Piece) (g : Graph) (v : PartView) → IsLine at (stamps_of xs) → AllByRecursion (HasOps parts p feed) xs → IsPart parts p g v →
    IsPart parts p (folded g (entries e i at (between feed at (end_of at (stamps_of xs))))) (pieces_applied e i v xs)
pieces-part parts p e i feed at [] g v l all h = subst (λ ys. IsPart parts p (folded g (entries e i at ys)) v) (sym (between-none feed at)) h
pieces-part parts p e i feed at (x ∷ xs) g v l all h =
    let to = x.stamp.to in
    let some : at < to = l.1 in
    let ops : x.ops ≡ part_ops parts p at (between feed at to) = all.0 ∙ ap (λ (n : ℕ). part_ops parts p n (between feed n to)) l.0 in
    let one : IsPart parts p (folded g (entries e i at (between feed at to))) (ops_applied e i v x.ops) =
    subst (λ os. IsPart parts p (folded g (entries e i at (between feed at to))) (ops_applied e i v os)) (sym ops) (part-law parts p e i at g v (between feed at to) h) in
    let rest = pieces-part parts p e i feed to xs (folded g (entries e i at (between feed at to))) (ops_applied e i v x.ops) l.2 all.1 one in
    let joined : folded (folded g (entries e i at (between feed at to))) (entries e i to (between feed to (end_of to (stamps_of xs)))) ≡ folded g (entries e i at (between feed at (end_of to (stamps_of xs)))) =
    sym (folded-append g (entries e i at (between feed at to)) (entries e i to (between feed to (end_of to (stamps_of xs)))))
    ∙ ap (folded g) (sym (entries-split e i feed at to (end_of to (stamps_of xs)) (omega arith) (line_grows to (stamps_of xs) l.2))) in
    subst (λ graph. IsPart parts p graph (pieces_applied e i (ops_applied e i v x.ops) xs)) joined rest
