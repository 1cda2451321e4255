-- Lines cut off one after the other.
use Rattle.std.proofs.Common.{rules, cond, ◌≡◌, ◌∙◌, ◌<◌, ◌≤◌, ◌==◌, ◌+◌, ◌-◌, ℕ, List, [], ◌∷◌, ◌++◌, length, map, take, drop, false, refl, sym, ap, subst, arith, All}
use Rattle.std.specs.Prelude.{slice_index}
use Rattle.std.specs.List.{slice_split}
use Rattle.std.specs.Str.Lines.{lines, lines_of_parts, strip_carriage_return}
use Rattle.std.proofs.lemmas.List.{append_assoc, map-append, append-nil, take-append-drop, drop-drop, drop_more, get_or-drop, length-drop, drop_all, take_rest}
use Rattle.std.proofs.lemmas.List.Elements.{All-more, All-push, All-nil}
use Rattle.std.proofs.lemmas.List.Splits.{slice_split_at, slice_split_none, length-slice_split}
use Rattle.kin_line.specs.declared.spans.Span.{Span}
use Rattle.kin_line.specs.Lines.{text_at, IsWithin}

before_parts : (x : List ℕ) (parts : List (List ℕ)) → 0 < length parts → lines_of_parts (x ∷ parts) ≡ strip_carriage_return x ∷ lines_of_parts parts
before_parts x [] some = absurd (omega arith)
before_parts x (y ∷ more) some = refl

-- the first line is what stands before the first LF
pub first_line : (xs ys : List ℕ) → All (λ b. (b == 10) ≡ false) xs → lines (xs ++ 10 ∷ ys) ≡ strip_carriage_return xs ∷ lines ys
first_line xs ys none =
    ap lines_of_parts (slice_split_at (λ b. b == 10) xs 10 ys none refl)
    ∙ before_parts xs (slice_split (λ b. b == 10) ys) (let many = length-slice_split (λ b. b == 10) ys in omega (arith, many))

-- without an LF the text is one line, where it isn't empty
pub only_line : (xs : List ℕ) → All (λ b. (b == 10) ≡ false) xs → 0 < length xs → lines xs ≡ xs ∷ []
only_line [] none some = absurd (omega arith)
only_line (x ∷ xs) none some =
    let filled : (length (x ∷ xs) == 0) ≡ false = search rules in
    ap lines_of_parts (slice_split_none (λ b. b == 10) (x ∷ xs) none) ∙ ap (λ b. cond b [] ((x ∷ xs) ∷ [])) filled

-- the spans are the lines of a text up to a place, and no LF comes from there to a second place
pub record IsCut (text : List ℕ) (spans : List Span) (from end : ℕ) : Type 0 where
  pub ordered : from ≤ end
  pub none : All (λ b. (b == 10) ≡ false) (take (end - from) (drop from text))
  pub lines_are : map (text_at text) spans ++ lines (drop from text) ≡ lines text
  pub within : All (IsWithin text) spans

pub uncut : (text : List ℕ) → IsCut text [] 0 0
uncut text = record { ordered = search rules; none = All-nil _; lines_are = refl; within = All-nil _ }

module _ (text : List ℕ) (spans : List Span) (from end : ℕ) (cut : IsCut text spans from end) where
  -- another byte
  pub kept : end < length text → (slice_index text end == 10) ≡ false → IsCut text spans from (end + 1)
  kept lt other =
      let ordered = cut.ordered in
      let one_more : end + 1 - from ≡ (end - from) + 1 = omega arith in
      let at : from + (end - from) ≡ end = omega arith in
      let inside : end - from < length (drop from text) = rw (length-drop from text) (omega arith) in
      let here : (slice_index (drop from text) (end - from) == 10) ≡ false = rw (get_or-drop from text (end - from) 0, at) other in
      record {
        ordered = omega arith;
        none = rw one_more (All-more (λ b. (b == 10) ≡ false) (drop from text) (end - from) 0 inside cut.none here);
        lines_are = cut.lines_are;
        within = cut.within;
      }

  -- an LF
  pub added : (s : Span) → end < length text → slice_index text end ≡ 10 → text_at text s ≡ strip_carriage_return (take (end - from) (drop from text)) → IsWithin text s
      → IsCut text (spans ++ s ∷ []) (end + 1) (end + 1)
  added s lt ends is inside =
      let ordered = cut.ordered in
      let at : from + (end - from) ≡ end = omega arith in
      let gone : end + 1 - (end + 1) ≡ 0 = omega arith in
      let tail : drop (end - from) (drop from text) ≡ 10 ∷ drop (end + 1) text =
      drop-drop (end - from) from text ∙ ap (λ n. drop n text) at ∙ drop_more text end 0 lt ∙ ap (λ b. b ∷ drop (end + 1) text) ends in
      let whole : drop from text ≡ take (end - from) (drop from text) ++ 10 ∷ drop (end + 1) text =
      sym (take-append-drop (end - from) (drop from text)) ∙ ap (λ t. take (end - from) (drop from text) ++ t) tail in
      let first : lines (drop from text) ≡ text_at text s ∷ lines (drop (end + 1) text) =
      ap lines whole ∙ first_line (take (end - from) (drop from text)) (drop (end + 1) text) cut.none ∙ ap (λ t. t ∷ lines (drop (end + 1) text)) (sym is) in
      record {
        ordered = search rules;
        none = rw gone (All-nil _);
        lines_are =
            ap (λ ls. ls ++ lines (drop (end + 1) text)) (map-append (text_at text) spans (s ∷ []))
            ∙ append_assoc (map (text_at text) spans) (text_at text s ∷ []) (lines (drop (end + 1) text))
            ∙ ap (λ ls. map (text_at text) spans ++ ls) (sym first) ∙ cut.lines_are;
        within = All-push (IsWithin text) spans s cut.within inside;
      }

  -- nothing stands after the last LF
  pub closed : length text ≤ from → map (text_at text) spans ≡ lines text
  closed past = sym (append-nil (map (text_at text) spans)) ∙ ap (λ t. map (text_at text) spans ++ lines t) (sym (drop_all from text past)) ∙ cut.lines_are

  -- a last line without an LF
  pub last : end ≡ length text → from < length text → map (text_at text) (spans ++ record { from = from; to = length text } ∷ []) ≡ lines text
  last whole lt =
      let rest : take (length text - from) (drop from text) ≡ drop from text = take_rest text from in
      let filled : 0 < length (drop from text) = rw (length-drop from text) (omega arith) in
      let none : All (λ b. (b == 10) ≡ false) (drop from text) =
      subst (λ t. All (λ b. (b == 10) ≡ false) t) (ap (λ n. take (n - from) (drop from text)) whole ∙ rest) cut.none in
      map-append (text_at text) spans _ ∙ ap (λ t. map (text_at text) spans ++ t ∷ []) rest
      ∙ ap (λ ls. map (text_at text) spans ++ ls) (sym (only_line (drop from text) none filled)) ∙ cut.lines_are
