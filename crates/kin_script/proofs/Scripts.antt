-- Lines read one after the other.
use Rattle.std.proofs.Common.{rules, ◌≡◌, ◌∙◌, ◌<◌, ◌≤◌, ◌+◌, inl, inr, not, ℕ, List, [], ◌∷◌, ◌++◌, length, map, take, filter, get_or, true, false, refl, sym, ap, subst, arith, All}
use Rattle.std.proofs.lemmas.List.{map-append, append-nil, take_more, take_all, get_or_default}
use Rattle.std.proofs.lemmas.List.Elements.{All-push, All-nil, filter-append}
use Rattle.std.proofs.lemmas.List.{get_or-map, length-map, length-take}
use Rattle.kin_line.specs.declared.spans.Span.{Span}
use Rattle.kin_line.specs.Lines.{lines, text_at}
use Rattle.kin_script.specs.declared.events.Line.{Line}
use Rattle.kin_script.specs.Schedules.{Text, event_text, is_silent, numbered, spoken, written, IsInRange, IsInLanguage, IsScript, IsFirstOutside}
use Rattle.kin_script.specs.declared.schedules.ScriptFault.{ScriptFault}
use Rattle.kin_script.specs.declared.schedules.ScriptFault.TheVariants as fault
use Rattle.kin_script.specs.Ends.{TakesLine, FailsAt, IfLine}

numbered-append : (n : ℕ) (xs : List Text) (x : Text) → numbered n (xs ++ x ∷ []) ≡ numbered n xs ++ (n + length xs, x) ∷ []
numbered-append n [] x = ap (λ m. (m, x) ∷ []) (omega arith)
numbered-append n (y ∷ ys) x =
    let same : n + 1 + length ys ≡ n + length (y ∷ ys) = search rules in
    ap (λ rest. (n, y) ∷ rest) (numbered-append (n + 1) ys x ∙ ap (λ m. numbered (n + 1) ys ++ (m, x) ∷ []) same)

spoken-append : (xs : List Text) (x : Text) → spoken (xs ++ x ∷ []) ≡ spoken xs ++ filter (λ line. not (is_silent line.1)) ((length xs + 1, x) ∷ [])
spoken-append xs x =
    let same : 1 + length xs ≡ length xs + 1 = omega arith in
    ap (filter (λ line. not (is_silent line.1))) (numbered-append 1 xs x ∙ ap (λ m. numbered 1 xs ++ (m, x) ∷ []) same)
    ∙ filter-append (λ line. not (is_silent line.1)) (numbered 1 xs) ((length xs + 1, x) ∷ [])

-- these lines were read, and gave this script
pub record AreRead (nodes parts : ℕ) (all : List Text) (script : List Line) : Type 0 where
  pub texts : map written script ≡ spoken all
  pub range : All (λ line. IsInRange nodes parts line.event) script
  pub inside : All (IsInLanguage nodes parts) all

module _ (nodes parts : ℕ) where
  pub none_read : AreRead nodes parts [] []
  none_read = record { texts = refl; range = All-nil _; inside = All-nil _ }

  silent_kept : (n : ℕ) (x : Text) → is_silent x ≡ true → filter {X = ℕ × Text} (λ line. not (is_silent line.1)) ((n, x) ∷ []) ≡ []
  silent_kept n x e = rw e refl

  other_kept : (n : ℕ) (x : Text) → is_silent x ≡ false → filter {X = ℕ × Text} (λ line. not (is_silent line.1)) ((n, x) ∷ []) ≡ (n, x) ∷ []
  other_kept n x e = rw e refl

  -- one more line
  pub one_read : (all : List Text) (x : Text) (before after : List Line) → AreRead nodes parts all before → TakesLine nodes parts (length all + 1) x before after
      → AreRead nodes parts (all ++ x ∷ []) after
  one_read all x before after r (inl (silent, same)) = record {
    texts = ap (map written) same ∙ r.texts ∙ sym (append-nil (spoken all)) ∙ ap (λ rest. spoken all ++ rest) (sym (silent_kept (length all + 1) x silent)) ∙ sym (spoken-append all x);
    range = subst (λ s. All (λ line. IsInRange nodes parts line.event) s) (sym same) r.range;
    inside = All-push (IsInLanguage nodes parts) all x r.inside (inl silent);
  }
  one_read all x before after r (inr (e, other, range, is, grown)) = record {
    texts = ap (map written) grown ∙ map-append written before (record { number = length all + 1; event = e } ∷ [])
        ∙ ap (λ front. front ++ (length all + 1, event_text e) ∷ []) r.texts ∙ ap (λ t. spoken all ++ (length all + 1, t) ∷ []) is
        ∙ ap (λ rest. spoken all ++ rest) (sym (other_kept (length all + 1) x other)) ∙ sym (spoken-append all x);
    range = subst (λ s. All (λ line. IsInRange nodes parts line.event) s) (sym grown) (All-push (λ line. IsInRange nodes parts line.event) before _ r.range range);
    inside = All-push (IsInLanguage nodes parts) all x r.inside (inr (e, range, is));
  }

  pub whole_script : (bytes : List ℕ) (n : ℕ) (script : List Line) → length (lines bytes) ≤ n → AreRead nodes parts (take n (lines bytes)) script → IsScript nodes parts bytes script
  whole_script bytes n script past r = record { texts = r.texts ∙ ap spoken (take_all n (lines bytes) past); range = r.range }

  pub first_outside : (bytes : List ℕ) (n number : ℕ) (script : List Line) (x : Text) → n < length (lines bytes) → AreRead nodes parts (take n (lines bytes)) script
      → x ≡ get_or (lines bytes) n x → number ≡ n + 1 → (IsInLanguage nodes parts x → ⊥) → IsFirstOutside nodes parts bytes number
  first_outside bytes n number script x lt r at is out = record {
    before = n;
    number_is = is;
    inside = lt;
    others = r.inside;
    outside = λ d inside. out (subst (IsInLanguage nodes parts) (get_or_default (lines bytes) n d x lt ∙ sym at) inside);
  }

  module _ (bytes : List ℕ) (spans : List Span) (are : map (text_at bytes) spans ≡ lines bytes) (i : ℕ) (lt : i < length spans) (d : Span) where
    here : i < length (lines bytes)
    here = let same = ap length are in let mapped = length-map spans (text_at bytes) in omega arith

    line_is : text_at bytes (get_or spans i d) ≡ get_or (lines bytes) i (text_at bytes (get_or spans i d))
    line_is = sym (get_or-map (text_at bytes) spans i d (text_at bytes (get_or spans i d)) lt) ∙ ap (λ ls. get_or ls i (text_at bytes (get_or spans i d))) are

    front : length (take i (lines bytes)) ≡ i
    front = length-take i (lines bytes) ∙ (let lt = here in omega arith)

    -- the line of the next span
    pub next_read : (before after : List Line) → AreRead nodes parts (take i (lines bytes)) before
        → TakesLine nodes parts (i + 1) (text_at bytes (get_or spans i d)) before after → AreRead nodes parts (take (i + 1) (lines bytes)) after
    next_read before after r takes =
        subst (λ ls. AreRead nodes parts ls after) (ap (λ x. take i (lines bytes) ++ x ∷ []) line_is ∙ sym (take_more (lines bytes) i _ here))
        (one_read (take i (lines bytes)) (text_at bytes (get_or spans i d)) before after r
        (subst (λ n. TakesLine nodes parts (n + 1) (text_at bytes (get_or spans i d)) before after) (sym front) takes))

    pub ends_there : (script : List Line) (f : ScriptFault) → AreRead nodes parts (take i (lines bytes)) script
        → FailsAt nodes parts (i + 1) (text_at bytes (get_or spans i d)) f → IfLine (IsFirstOutside nodes parts bytes) f
    ends_there script (fault.Line n) r fails = first_outside bytes i n script (text_at bytes (get_or spans i d)) here r line_is fails.0 fails.1
    ends_there script fault.TooLong r fails = absurd fails
    ends_there script fault.Memory r fails = tt
