-- What a world's hub has of an epoch is what the history says.
use Rattle.std.proofs.Common.{◌≡◌, ℕ, suc, ◌+◌, ◌<◌, ◌≤◌, get_or, List, [], ◌∷◌, length, map, refl, sym, ap, ◌∙◌, arith}
use Rattle.std.specs.List.{range_with_len}
use Rattle.kin_ids.specs.Lines.{inc_at}
use Rattle.kin_script.specs.declared.events.Event.{Event}
use Rattle.kin_history.specs.Setting.{Setting, nodes}
use Rattle.kin_history.specs.Lines.{line, agreed}
use Rattle.kin_history.specs.Vectors.{cuts, vector}
use Rattle.kin_history.proofs.Cuts.{sound-cuts}
use Rattle.kin_history.proofs.Sound.{sound}
use Rattle.kin_table.specs.Vectors.{no_end, end_at, vector_at}
use Rattle.kin_report.specs.Epochs.{ends_of}
use Rattle.kin_report.proofs.Settled.{inc-upto}
use Rattle.kin_world.specs.Worlds.{WorldView}
use Rattle.kin_world.specs.Stands.{Stands}

-- a list is what a function makes of the numbers of its places
by-places : {A : Type 0} (f : ℕ → A) (d : A) (from : ℕ) (xs : List A) → ((i : ℕ) → i < length xs → get_or xs i d ≡ f (from + i)) → xs ≡ map f (range_with_len from (length xs))
by-places f d from [] same = refl
by-places f d from (x ∷ xs) same =
    let here : from + 0 ≡ from = omega arith in
    let head : x ≡ f from = same 0 (omega arith) ∙ ap f here in
    let tail = by-places f d (from + 1) xs (λ i lt. let next : from + suc i ≡ from + 1 + i = omega arith in same (suc i) (omega (arith, lt)) ∙ ap f next) in
    λ j. head j ∷ tail j

module _ (set : Setting) (w : WorldView) (h : List Event) (s : Stands set w h) (k : ℕ) (le : k ≤ cuts set h) where
  within : k < length w.hub.core.table.vectors
  within = let n = s.epochs.vectors in omega (arith, n, le)

  pub has-parts : 0 < set.parts
  has-parts =
      let c = s.epochs.hub.core in
      let a = c.core.table.parts in
      let b = c.core.parts in
      let d = c.parts_are in
      omega (arith, a, b, d)

  pub end-is : (i : ℕ) → i < nodes set → end_at (vector_at w.hub.core.table.vectors k) i ≡ record { inc = record { 0 = inc_at (line set h i) (vector set h k i) }; to = vector set h k i }
  end-is i lt =
      let e = s.epochs.hub.core.ends k i within lt in
      let some = has-parts in
      let g = sound set h i some s.over.history in
      let inc = e.inc ∙ inc-upto 0 (agreed set h i) (vector set h k i) (line set h i) g.run ((sound-cuts set h i some s.over.history lt).within k) in
      λ j. record { inc = record { 0 = inc j }; to = e.to j }

  pub ends-are : vector_at w.hub.core.table.vectors k ≡ ends_of (line set h) (vector set h k) (nodes set)
  ends-are =
      let count : length (vector_at w.hub.core.table.vectors k) ≡ nodes set = s.epochs.hub.core.core.table.vectors k [] within ∙ s.epochs.hub.core.nodes_are in
      by-places (λ i. record { inc = record { 0 = inc_at (line set h i) (vector set h k i) }; to = vector set h k i }) no_end 0 (vector_at w.hub.core.table.vectors k)
      (λ i lt. let here : 0 + i ≡ i = omega arith in end-is i (rw count at lt) ∙ ap (λ i. record { inc = record { 0 = inc_at (line set h i) (vector set h k i) }; to = vector set h k i }) (sym here))
      ∙ ap (λ (n : ℕ). map (λ i. record { inc = record { 0 = inc_at (line set h i) (vector set h k i) }; to = vector set h k i }) (range_with_len 0 n)) count
