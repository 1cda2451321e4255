-- Fronts of lists of stamps, and of the runs of pieces that have them.
use Rattle.std.proofs.Common.{◌≡◌, ℕ, zero, suc, ◌+◌, ◌-◌, ◌<◌, ◌≤◌, cond, leb, List, [], ◌∷◌, ◌++◌, length, take, drop, get_or, refl}
use Rattle.std.proofs.Common.{sym, ◌∙◌, ap, arith, add-one}
use Rattle.std.specs.Prelude.{take_while}
use Rattle.std.specs.List.{zip}
use Rattle.std.proofs.lemmas.Bool.{cond_both, cond-true, leb-true, le-leb}
use Rattle.std.proofs.lemmas.List.Sums.{take_while-cons}
use Rattle.std.proofs.lemmas.List.{length-append, take_rest}
use Rattle.std.proofs.Math.ListN.{length-take}
use Rattle.std.proofs.Math.Seq.{drop-append_seam, drop-cons}
use Rattle.kin_ids.specs.declared.stamps.Stamp.{Stamp}
use Rattle.kin_ids.specs.declared.ops.Piece.{Piece}
use Rattle.kin_ids.specs.Lines.{same_stamp, stamps_of, upto, past}
use Rattle.kin_ids.proofs.Lines.{upto-past}
use Rattle.kin_held.specs.Chains.{ChainView, chain_at, pieces_upto}
use Rattle.kin_held.proofs.Pieces.{stamps_of-pieces_upto}
use Rattle.kin_hub.specs.Fronts.{same_stamps, common, common_with, common_of}
use Rattle.kin_hub.specs.Cores.{past_in}

pub length-stamps_of : (ps : List Piece) → length (stamps_of ps) ≡ length ps
length-stamps_of [] = refl
length-stamps_of (p ∷ ps) = ap suc (length-stamps_of ps)

pub stamps_of-take : (n : ℕ) (ps : List Piece) → stamps_of (take n ps) ≡ take n (stamps_of ps)
stamps_of-take zero ps = refl
stamps_of-take (suc n) [] = refl
stamps_of-take (suc n) (p ∷ ps) = ap (λ ss. p.stamp ∷ ss) (stamps_of-take n ps)

pub stamps_of-drop : (n : ℕ) (ps : List Piece) → stamps_of (drop n ps) ≡ drop n (stamps_of ps)
stamps_of-drop zero ps = refl
stamps_of-drop (suc n) [] = refl
stamps_of-drop (suc n) (p ∷ ps) = stamps_of-drop n ps

-- how many pieces have their stamps in common
pub length-take_while : (ps qs : List Piece) → length (take_while same_stamps (zip ps qs)) ≡ length (common (stamps_of ps) (stamps_of qs))
length-take_while [] qs = refl
length-take_while (p ∷ ps) [] = refl
length-take_while (p ∷ ps) (q ∷ qs) = rw (take_while-cons same_stamps (p, q) (zip ps qs))
    (cond_both (same_stamp p.stamp q.stamp) (p.stamp ∷ common (stamps_of ps) (stamps_of qs)) []
    (λ zs. length (cond (same_stamp p.stamp q.stamp) ((p, q) ∷ take_while same_stamps (zip ps qs)) []) ≡ length zs)
    (λ t. rw t (ap suc (length-take_while ps qs))) (λ n. rw n refl))

-- a common front is one of the first list
pub take-common : (xs ys : List Stamp) → take (length (common xs ys)) xs ≡ common xs ys
take-common [] ys = refl
take-common (x ∷ xs) [] = refl
take-common (x ∷ xs) (y ∷ ys) = cond_both (same_stamp x y) (x ∷ common xs ys) [] (λ zs. take (length zs) (x ∷ xs) ≡ zs)
    (λ _. ap (λ zs. x ∷ zs) (take-common xs ys)) (λ _. refl)

pub length-common : (xs ys : List Stamp) → length (common xs ys) ≤ length xs
length-common [] ys = omega arith
length-common (x ∷ xs) [] = omega arith
length-common (x ∷ xs) (y ∷ ys) = cond_both (same_stamp x y) (x ∷ common xs ys) [] (λ zs. length zs ≤ length (x ∷ xs))
    (λ _. let ih = length-common xs ys in omega arith) (λ _. omega arith)

-- what is cut at a position before is cut there after
pub common-upto : (to : ℕ) (xs ys : List Stamp) → common (upto to xs) ys ≡ upto to (common xs ys)
common-upto to [] ys = refl
common-upto to (x ∷ xs) [] = cond_both (leb x.to to) (x ∷ upto to xs) [] (λ zs. common zs [] ≡ []) (λ _. refl) (λ _. refl)
common-upto to (x ∷ xs) (y ∷ ys) = cond_both (same_stamp x y) (x ∷ common xs ys) [] (λ zs. common (upto to (x ∷ xs)) (y ∷ ys) ≡ upto to zs)
    (λ t. cond_both (leb x.to to) (x ∷ upto to xs) [] (λ zs. common zs (y ∷ ys) ≡ cond (leb x.to to) (x ∷ upto to (common xs ys)) [])
    (λ low. rw (t, low) (ap (λ zs. x ∷ zs) (common-upto to xs ys))) (λ high. rw high refl))
    (λ n. cond_both (leb x.to to) (x ∷ upto to xs) [] (λ zs. common zs (y ∷ ys) ≡ []) (λ _. rw n refl) (λ _. refl))

pub common_with-upto : (to : ℕ) (xs : List Stamp) (rest : List (List Stamp)) → common_with (upto to xs) rest ≡ upto to (common_with xs rest)
common_with-upto to xs [] = refl
common_with-upto to xs (ys ∷ rest) = ap (λ zs. common_with zs rest) (common-upto to xs ys) ∙ common_with-upto to (common xs ys) rest

-- what is common is the front of a run
pub common_run : (ps qs : List Piece) → stamps_of (take (length (take_while same_stamps (zip ps qs))) ps) ≡ common (stamps_of ps)
    (stamps_of qs)
common_run ps qs = stamps_of-take (length (take_while same_stamps (zip ps qs))) ps
    ∙ rw (length-take_while ps qs) (take-common (stamps_of ps) (stamps_of qs))

-- a list up to one position, and then up to a later one
pub upto_over : (a b : ℕ) (xs ys : List Stamp) → a ≤ b → upto b (upto a xs ++ ys) ≡ upto a xs ++ upto b ys
upto_over a b [] ys le = refl
upto_over a b (x ∷ xs) ys le = cond_both (leb x.to a) (x ∷ upto a xs) [] (λ zs. upto b (zs ++ ys) ≡ zs ++ upto b ys)
    (λ t. let low = leb-true _ _ t in cond-true (leb x.to b) _ _ (le-leb _ _ (omega arith)) ∙ ap (λ zs. x ∷ zs) (upto_over a b xs ys le))
    (λ _. refl)

pub upto-split : (a b : ℕ) (ss : List Stamp) → a ≤ b → upto b ss ≡ upto a ss ++ upto b (past a ss)
upto-split a b ss le = ap (upto b) (sym (upto-past a ss)) ∙ upto_over a b ss (past a ss) le

-- where a run is cut at two positions
module _ (at to a b : ℕ) (ps : List Piece) (le : at ≤ to) (first : take a ps ≡ pieces_upto at ps) (last : take b ps ≡ pieces_upto to ps)
    (a_in : a ≤ length ps) (b_in : b ≤ length ps) where
  pub cut_lengths : (a ≡ length (upto at (stamps_of ps))) × (a ≤ b)
  cut_lengths =
      let ss = stamps_of ps in
      let la : length (upto at ss) ≡ a = ap length (sym (stamps_of-pieces_upto at ps))
      ∙ (length-stamps_of (pieces_upto at ps) ∙ (ap length (sym first) ∙ length-take_in a ps a_in)) in
      let lb : length (upto to ss) ≡ b = ap length (sym (stamps_of-pieces_upto to ps))
      ∙ (length-stamps_of (pieces_upto to ps) ∙ (ap length (sym last) ∙ length-take_in b ps b_in)) in
      let split : length (upto to ss) ≡ length (upto at ss ++ upto to (past at ss)) = ap length (upto-split at to ss le) in
      (sym la, omega (arith, length-append (upto at ss) (upto to (past at ss))))
    where
      length-take_in : (n : ℕ) (xs : List Piece) → n ≤ length xs → length (take n xs) ≡ n
      length-take_in n xs h = omega (arith, length-take n xs)

  pub between-is : stamps_of (drop a (take b ps)) ≡ upto to (past at (stamps_of ps))
  between-is =
      let ss = stamps_of ps in
      ap (λ qs. stamps_of (drop a qs)) last ∙ (stamps_of-drop a (pieces_upto to ps)
      ∙ (ap (drop a) (stamps_of-pieces_upto to ps ∙ upto-split at to ss le)
      ∙ (ap (λ m. drop m (upto at ss ++ upto to (past at ss))) cut_lengths.0 ∙ drop-append_seam (upto at ss) (upto to (past at ss)))))

-- The run of the first partition against the others', and a step further.
pub shared-first : (helds : List (List ChainView)) (at to i : ℕ) (d : List ChainView) → 0 < length helds →
    common_with (upto to (past at (stamps_of (chain_at (get_or helds 0 d) i).held))) (past_in (take (length helds - 1) (drop 1 helds)) at i)
    ≡ upto to (common_of (past_in helds at i))
shared-first [] at to i d some = absurd (omega arith)
shared-first (h ∷ hs) at to i d some = ap (λ rest. common_with (upto to (past at (stamps_of (chain_at h i).held))) (past_in rest at i))
    (take_rest (h ∷ hs) 1)
    ∙ common_with-upto to (past at (stamps_of (chain_at h i).held)) (past_in hs at i)

pub shared-next : (helds : List (List ChainView)) (at i k : ℕ) (d : List ChainView) (xs : List Stamp) → k < length helds →
    common_with xs (past_in (drop k helds) at i) ≡ common_with (common xs (past at (stamps_of (chain_at (get_or helds k d) i).held)))
    (past_in (drop (k + 1) helds) at i)
shared-next helds at i k d xs lt = rw (add-one) (ap (λ rest. common_with xs (past_in rest at i)) (drop-cons helds k d lt))
