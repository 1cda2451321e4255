-- Pieces from lists of operations.
use Rattle.std.proofs.Common.{◌≡◌, ℕ, zero, suc, ◌+◌, ◌<◌, List, [], ◌∷◌, length, get_or, refl, sym, ◌∙◌, ap, subst, arith, All}
use Rattle.kin_ids.specs.declared.ops.Numbered.{Numbered}
use Rattle.kin_ids.specs.declared.ops.Record.{Record}
use Rattle.kin_ids.specs.declared.ops.Piece.{Piece}
use Rattle.kin_ids.specs.declared.stamps.Stamp.{Stamp}
use Rattle.kin_ids.specs.Operations.{all_ops}
use Rattle.kin_ops.specs.Pieces.{IsStampOf, IsPieceOf, ArePiecesOf, AreSpread, FitsWhereOf, labelled}

pub length-labelled : (s : Stamp) (base p : ℕ) (lists : List (List Numbered)) → length (labelled s base p lists) ≡ length lists
length-labelled s base p [] = refl
length-labelled s base p (x ∷ xs) = ap suc (length-labelled s base (p + 1) xs)

-- the piece that stands at a place
pub labelled-at : (s : Stamp) (base p : ℕ) (lists : List (List Numbered)) (q : ℕ) (d : Piece) → q < length lists →
    get_or (labelled s base p lists) q d ≡ record { stamp = s; base = base; part = record { 0 = p + q }; ops = get_or lists q [] }
labelled-at s base p [] q d lt = absurd (omega arith)
labelled-at s base p (x ∷ xs) zero d lt = ap (λ (n : ℕ). record { stamp = s; base = base; part = record { 0 = n }; ops = x }) (omega arith)
labelled-at s base p (x ∷ xs) (suc q) d lt =
    labelled-at s base (p + 1) xs q d (omega arith) ∙ ap (λ (n : ℕ). record { stamp = s; base = base; part = record { 0 = n }; ops = get_or xs q [] }) (omega arith)

pub spread-pieces : (parts : ℕ) (s : Stamp) (base : ℕ) (records : List Record) (lists : List (List Numbered)) → AreSpread parts lists (all_ops s.from records) →
    ArePiecesOf parts s base records (labelled s base 0 lists)
spread-pieces parts s base records lists spread p d lt =
    let count = spread.count in
    let at = labelled-at s base 0 lists p d (omega arith) in
    subst (IsPieceOf parts s base records p) (sym at) (record { stamp = refl; base_is = refl; part = omega arith; ops = spread.each p lt })

-- a piece of a transaction fits the feeds of which these are its records
pub piece-fits : (parts : ℕ) (s : Stamp) (base : ℕ) (records : List Record) (p : ℕ) (x : Piece) → IsStampOf s base records → IsPieceOf parts s base records p x →
    FitsWhereOf parts s records x
piece-fits parts s base records p x is_stamp piece feeds of within =
    let stamp = piece.stamp in
    let base_is = piece.base_is in
    record {
      formed = record {
        after_base = rw (stamp, base_is) is_stamp.after_base;
        some = rw stamp is_stamp.some;
        few = rw stamp is_stamp.few;
      };
      inside = rw stamp within;
      exact = rw (stamp, piece.part, of) piece.ops;
    }

pub pieces-fit : (parts : ℕ) (s : Stamp) (base : ℕ) (records : List Record) (xs : List Piece) → length xs ≡ parts → IsStampOf s base records → ArePiecesOf parts s base records xs →
    All (FitsWhereOf parts s records) xs
pieces-fit parts s base records xs count is_stamp pieces p d lt = piece-fits parts s base records p (get_or xs p d) is_stamp (pieces p d (omega arith))
