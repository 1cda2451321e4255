-- Lists of pieces by their stamps.
use Rattle.std.proofs.Common.{◌≡◌, ℕ, zero, suc, ◌+◌, ◌-◌, ◌<◌, leb, List, [], ◌∷◌, ◌++◌, Some, length, get_or, slice_get, refl, sym, ◌∙◌, ap, subst, arith}
use Rattle.std.specs.Prelude.{All, IsPermutation}
use Rattle.std.specs.List.Sorted.{IsNonDecreasingBy}
use Rattle.std.proofs.Math.Seq.{drop-append_seam}
use Rattle.std.proofs.lemmas.List.Elements.{All-drop}
use Rattle.std.proofs.lemmas.List.Sorted.{All-permutation}
use Rattle.std.proofs.lemmas.Bool.{cond_both, cond-true, cond-false}
use Rattle.std.proofs.lemmas.Option.{slice_get_within, get_or_from_slice_get}
use Rattle.kin_ids.specs.declared.ops.Piece.{Piece}
use Rattle.kin_ids.specs.Lines.{end_of, IsLine, stamps_of, upto, past}
use Rattle.kin_ids.proofs.Lines.{IsLine-append, end_of-append}
use Rattle.kin_held.specs.Chains.{IsRun, pieces_upto, pieces_past}

pub stamps_of-append : (ps qs : List Piece) → stamps_of (ps ++ qs) ≡ stamps_of ps ++ stamps_of qs
stamps_of-append [] qs = refl
stamps_of-append (p ∷ ps) qs = ap (λ ss. p.stamp ∷ ss) (stamps_of-append ps qs)

pub stamps_of-pieces_upto : (at : ℕ) (ps : List Piece) → stamps_of (pieces_upto at ps) ≡ upto at (stamps_of ps)
stamps_of-pieces_upto at [] = refl
stamps_of-pieces_upto at (p ∷ ps) =
    cond_both (leb p.stamp.to at) (p ∷ pieces_upto at ps) [] (λ qs. stamps_of qs ≡ upto at (stamps_of (p ∷ ps)))
    (λ t. ap (λ ss. p.stamp ∷ ss) (stamps_of-pieces_upto at ps) ∙ sym (cond-true (leb p.stamp.to at) _ _ t))
    (λ n. sym (cond-false (leb p.stamp.to at) _ _ n))

pub stamps_of-pieces_past : (at : ℕ) (ps : List Piece) → stamps_of (pieces_past at ps) ≡ past at (stamps_of ps)
stamps_of-pieces_past at [] = refl
stamps_of-pieces_past at (p ∷ ps) =
    cond_both (leb p.stamp.to at) (pieces_past at ps) (p ∷ ps) (λ qs. stamps_of qs ≡ past at (stamps_of (p ∷ ps)))
    (λ t. stamps_of-pieces_past at ps ∙ sym (cond-true (leb p.stamp.to at) _ _ t))
    (λ n. sym (cond-false (leb p.stamp.to at) _ _ n))

-- runs one after the other are a run
pub IsRun-append : (at mid to : ℕ) (xs ys : List Piece) → IsRun at xs mid → IsRun mid ys to → IsRun at (xs ++ ys) to
IsRun-append at mid to xs ys first second =
    let next : IsLine (end_of at (stamps_of xs)) (stamps_of ys) = subst (λ (n : ℕ). IsLine n (stamps_of ys)) (sym first.1) second.0 in
    rw (stamps_of-append xs ys) (
      IsLine-append at (stamps_of xs) (stamps_of ys) first.0 next,
      end_of-append at (stamps_of xs) (stamps_of ys) ∙ (ap (λ (n : ℕ). end_of n (stamps_of ys)) first.1 ∙ second.1),
    )

-- one more piece
pub IsRun-push : (at mid : ℕ) (xs : List Piece) (p : Piece) → IsRun at xs mid → p.stamp.from ≡ mid → p.stamp.from < p.stamp.to → IsRun at (xs ++ p ∷ []) p.stamp.to
IsRun-push at mid xs p first e lt = IsRun-append at mid p.stamp.to xs (p ∷ []) first ((e, omega arith, tt), refl)

-- where the last piece ends
end_at : (at : ℕ) (ps : List Piece) (k : ℕ) (d : Piece) → length ps ≡ k + 1 → end_of at (stamps_of ps) ≡ (get_or ps k d).stamp.to
end_at at [] k d e = absurd (omega arith)
end_at at (p ∷ []) zero d e = refl
end_at at (p ∷ []) (suc k) d e = absurd (omega arith)
end_at at (p ∷ q ∷ ps) zero d e = absurd (omega arith)
end_at at (p ∷ q ∷ ps) (suc k) d e = end_at p.stamp.to (q ∷ ps) k d (omega arith)

pub end_of-last : (at : ℕ) (ps : List Piece) (p : Piece) → slice_get ps (length ps - 1) ≡ Some p → end_of at (stamps_of ps) ≡ p.stamp.to
end_of-last at ps p e =
    let lt : length ps - 1 < length ps = slice_get_within ps (length ps - 1) p e in
    end_at at ps (length ps - 1) p (omega arith) ∙ ap (λ (x : Piece). x.stamp.to) (get_or_from_slice_get ps (length ps - 1) p p e)

-- each piece of a run ends past its start
ends_past : (at : ℕ) (ps : List Piece) → IsLine at (stamps_of ps) → (j : ℕ) (d : Piece) → j < length ps → at < (get_or ps j d).stamp.to
ends_past at [] line j d lt = absurd (omega arith)
ends_past at (p ∷ ps) line zero d lt = line.1
ends_past at (p ∷ ps) line (suc j) d lt = let rest = ends_past p.stamp.to ps line.2 j d (omega arith) in let first : at < p.stamp.to = line.1 in omega arith

-- the ends of a run grow
pub ends_grow : (at : ℕ) (ps : List Piece) → IsLine at (stamps_of ps) → IsNonDecreasingBy (λ (p : Piece). p.stamp.to) ps
ends_grow at [] line i j d le lt = absurd (omega arith)
ends_grow at (p ∷ ps) line zero zero d le lt = omega arith
ends_grow at (p ∷ ps) line zero (suc j) d le lt = let past = ends_past p.stamp.to ps line.2 j d (omega arith) in omega arith
ends_grow at (p ∷ ps) line (suc i) zero d le lt = absurd (omega arith)
ends_grow at (p ∷ ps) line (suc i) (suc j) d le lt = ends_grow p.stamp.to ps line.2 i j d (omega arith) (omega arith)

-- what holds of each holds of those that a split leaves
pub All-split : (P : Piece → Type 0) (xs ys zs : List Piece) → IsPermutation xs (ys ++ zs) → All P xs → All P zs
All-split P xs ys zs split all =
    subst (λ (ps : List Piece). All P ps) (drop-append_seam ys zs) (All-drop P (length ys) (ys ++ zs) (All-permutation P xs (ys ++ zs) split all))
