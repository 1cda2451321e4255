-- The lines of a schedule as a run, front by front.
use Rattle.std.proofs.Common.{◌≡◌, ℕ, ◌+◌, ◌<◌, get_or, List, [], ◌∷◌, ◌++◌, Some, length, take, drop, refl, sym, ap, ◌∙◌}
use Rattle.std.proofs.lemmas.List.{take_more, take-append-drop}
use Rattle.kin_script.specs.declared.events.Line.{Line}
use Rattle.kin_report.specs.Report.{Ran, scheduled}

scheduled-append : (xs ys : List Line) → scheduled (xs ++ ys) ≡ scheduled xs ++ scheduled ys
scheduled-append [] ys = refl
scheduled-append (x ∷ xs) ys = ap (λ (rs : List Ran). record { number = Some x.number; event = x.event } ∷ rs) (scheduled-append xs ys)

module _ (lines : List Line) (n : ℕ) (d : Line) (lt : n < length lines) where
  abbrev ran : List Ran
  ran = record { number = Some (get_or lines n d).number; event = (get_or lines n d).event } ∷ []

  -- one line more
  pub scheduled-more : scheduled (take (n + 1) lines) ≡ scheduled (take n lines) ++ ran
  scheduled-more = ap scheduled (take_more lines n d lt) ∙ scheduled-append (take n lines) (get_or lines n d ∷ [])

  -- and the rest after it
  pub scheduled-split : scheduled lines ≡ (scheduled (take n lines) ++ ran) ++ scheduled (drop (n + 1) lines)
  scheduled-split = ap scheduled (sym (take-append-drop (n + 1) lines)) ∙ scheduled-append (take (n + 1) lines) (drop (n + 1) lines)
      ∙ ap (λ (rs : List Ran). rs ++ scheduled (drop (n + 1) lines)) scheduled-more
