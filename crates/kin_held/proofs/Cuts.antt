-- Runs of pieces, cut at a position.
use Rattle.std.proofs.Common.{◌≡◌, ℕ, zero, suc, ◌<◌, ◌≤◌, true, false, leb, inl, inr, ⊎_elim, List, [], ◌∷◌, length, get_or, take, drop, refl, sym, ◌∙◌, ap, arith}
use Rattle.std.proofs.lemmas.Bool.{cond_both, le-leb, lt-leb, leb-true}
use Rattle.kin_ids.specs.declared.ops.Piece.{Piece}
use Rattle.kin_ids.specs.declared.stamps.Stamp.{Stamp}
use Rattle.kin_ids.specs.Lines.{end_of, IsLine, IsEnd, stamps_of, upto, past}
use Rattle.kin_ids.proofs.Joins.{past-end_of}
use Rattle.kin_ids.proofs.Lines.{upto-line, upto-end, past-line}
use Rattle.kin_held.specs.Chains.{IsRun, pieces_upto, pieces_past}
use Rattle.kin_held.proofs.Pieces.{stamps_of-pieces_upto, stamps_of-pieces_past}

-- where the first k pieces end at or before a position, and the others past it, the cut is at k
pub record IsCut (at k : ℕ) (ps : List Piece) : Type 0 where
  pub front : take k ps ≡ pieces_upto at ps
  pub rest : drop k ps ≡ pieces_past at ps

pub cut : (at k : ℕ) (ps : List Piece) → k ≤ length ps → ((j : ℕ) (d : Piece) → j < k → (get_or ps j d).stamp.to ≤ at) →
    ((j : ℕ) (d : Piece) → k ≤ j → j < length ps → at < (get_or ps j d).stamp.to) → IsCut at k ps
cut at zero [] le low high = record { front = refl; rest = refl }
cut at (suc k) [] le low high = absurd (omega arith)
cut at zero (p ∷ ps) le low high =
    let no : leb p.stamp.to at ≡ false = lt-leb _ _ (high 0 p (omega arith) (omega arith)) in
    record { front = rw no refl; rest = rw no refl }
cut at (suc k) (p ∷ ps) le low high =
    let yes : leb p.stamp.to at ≡ true = le-leb _ _ (low 0 p (omega arith)) in
    let more = cut at k ps (omega arith) (λ j d lt. low (suc j) d (omega arith)) (λ j d ge lt. high (suc j) d (omega arith) (omega arith)) in
    record { front = rw yes (ap (λ qs. p ∷ qs) more.front); rest = rw yes more.rest }

-- a position that the front up to it reaches is a place
pub end_upto : (at b : ℕ) (ss : List Stamp) → end_of at (upto b ss) ≡ b → IsEnd at ss b
end_upto at b [] = λ e. sym e
end_upto at b (s ∷ ss) = cond_both (leb s.to b) (s ∷ upto b ss) [] (λ ys. end_of at ys ≡ b → IsEnd at (s ∷ ss) b)
    (λ _ e. inr (end_upto s.to b ss e)) (λ _ e. inl (sym e))

-- what is cut at a place of a run is a run to it
pub IsRun-pieces_upto : (at b to : ℕ) (ps : List Piece) → IsRun at ps to → IsEnd at (stamps_of ps) b → IsRun at (pieces_upto b ps) b
IsRun-pieces_upto at b to ps run place = rw (stamps_of-pieces_upto b ps) (upto-line at b (stamps_of ps) run.0, upto-end at b (stamps_of ps) run.0 place)

-- what is left past a place of a run is a run from it
pub IsRun-pieces_past : (at b to : ℕ) (ps : List Piece) → IsRun at ps to → IsEnd at (stamps_of ps) b → IsRun b (pieces_past b ps) to
IsRun-pieces_past at b to ps run place = rw (stamps_of-pieces_past b ps) (past-line at b (stamps_of ps) run.0 place, past-end_of at b (stamps_of ps) run.0 place ∙ run.1)

-- a position that the pieces up to it reach is a place
pub place_from_end : (at b : ℕ) (ps : List Piece) → end_of at (stamps_of (pieces_upto b ps)) ≡ b → IsEnd at (stamps_of ps) b
place_from_end at b ps e = end_upto at b (stamps_of ps) (ap (end_of at) (sym (stamps_of-pieces_upto b ps)) ∙ e)
