-- What pieces make of a part, one after the other.
use Rattle.std.proofs.Common.{◌≡◌, ℕ, ◌+◌, ◌<◌, ◌≤◌, List, [], ◌∷◌, ◌++◌, refl, sym, ◌∙◌, ap, arith, length, get_or, take, drop}
use Rattle.std.proofs.lemmas.List.{take_more, take-append-drop}
use Rattle.kin_ids.specs.declared.ids.User.{User}
use Rattle.kin_ids.specs.declared.ops.Piece.{Piece}
use Rattle.kin_ids.specs.Parts.{PartView}
use Rattle.kin_ids.proofs.PartOps.{ops-say}
use Rattle.kin_graph.specs.State.{after}
use Rattle.kin_blocks.specs.Blocks.{pieces_applied}

-- nobody is mentioned less after more pieces
pub said-pieces : (e : ℕ) (v : PartView) (xs : List Piece) (u : User) → v.said u ≤ (pieces_applied e v xs).said u
said-pieces e v [] u = omega arith
said-pieces e v (x ∷ xs) u =
    let one = ops-say e x.stamp.ingest.0 v x.ops u in
    let more = said-pieces e (after e x v) xs u in
    omega arith

-- pieces one after the other
pub pieces-append : (e : ℕ) (v : PartView) (xs ys : List Piece) → pieces_applied e v (xs ++ ys) ≡ pieces_applied e
    (pieces_applied e v xs) ys
pieces-append e v [] ys = refl
pieces-append e v (x ∷ xs) ys = pieces-append e (after e x v) xs ys

-- the first pieces, and one more
pub pieces-step : (e : ℕ) (v : PartView) (xs : List Piece) (k : ℕ) (x : Piece) → k < length xs → x ≡ get_or xs k x
    → pieces_applied e v (take (k + 1) xs) ≡ after e x (pieces_applied e v (take k xs))
pieces-step e v xs k x lt is =
    ap (pieces_applied e v) (take_more xs k x lt) ∙ (pieces-append e v (take k xs) (get_or xs k x ∷ [])
    ∙ ap (λ (y : Piece). after e y (pieces_applied e v (take k xs))) (sym is))

pub said-front : (e : ℕ) (v : PartView) (xs : List Piece) (k : ℕ) (u : User) → (pieces_applied e v (take k xs)).said u
    ≤ (pieces_applied e v xs).said u
said-front e v xs k u =
    let more = said-pieces e (pieces_applied e v (take k xs)) (drop k xs) u in
    let same : (pieces_applied e (pieces_applied e v (take k xs)) (drop k xs)).said u ≡ (pieces_applied e v xs).said u =
    ap (λ (w : PartView). w.said u) (sym (pieces-append e v (take k xs) (drop k xs)) ∙ ap (pieces_applied e v) (take-append-drop k xs)) in
    omega arith
