-- A tag's text in place holds the tag.
use Rattle.std.proofs.Common.{◌≡◌, ℕ, ◌-◌, ◌+◌, ◌≤◌, true, leb, ◌&&◌, List, ◌++◌, length, drop, replicate, ◌∙◌, ap, arith}
use Rattle.std.proofs.lemmas.Bool.{and_parts, leb-true}
use Rattle.std.specs.List.{list_all}
use Rattle.std.proofs.lemmas.List.{length-append, length-drop, drop-replicate}
use Rattle.std.proofs.Math.Seq.{take-append_seam, drop-append_seam}
use Rattle.kin_ids.specs.TagTexts.{is_tag, is_tag_byte}
use Rattle.kin_ids.specs.TagBytes.{HoldsTag}

abbrev zeros : List ℕ
zeros = replicate 24 0

pub holds-tag : (text bytes : List ℕ) → bytes ≡ text → is_tag text ≡ true → HoldsTag (bytes ++ drop (length text) zeros) (length text)
holds-tag text bytes e form =
    let short : length text ≤ 24 = leb-true _ _ (and_parts (leb 1 (length text)) (leb (length text) 24) (and_parts (leb 1 (length text) && leb (length text) 24) (list_all is_tag_byte text) form).0).1 in
    let both : length (text ++ drop (length text) zeros) ≡ length text + length (drop (length text) zeros) = length-append text (drop (length text) zeros) in
    let rest : length (drop (length text) zeros) ≡ 24 - length text = length-drop (length text) zeros in
    rw e (record {
      padded = record {
        long = omega (arith, both, rest, short);
        short = short;
        zeros = drop-append_seam text (drop (length text) zeros) ∙ drop-replicate (length text) 24 0;
      };
      form = ap is_tag (take-append_seam text (drop (length text) zeros)) ∙ form;
    })
