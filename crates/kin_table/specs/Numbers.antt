-- Cuts by their numbers.
use Rattle.std.specs.Prelude.{ℕ, ◌≡◌, ◌<◌, List, [], map, length, slice_index_or}
use Rattle.kin_ids.specs.declared.stamps.End.{End}
use Rattle.kin_table.specs.declared.cuts.Cut.{Cut}

-- their vectors
abbrev pub vectors_of : List Cut → List (List End)
vectors_of cuts = map (λ (cut : Cut). cut.ends) cuts

abbrev pub cut_at : List Cut → ℕ → Cut
cut_at cuts k = slice_index_or cuts k (record { epoch = record { 0 = 0 }; ends = [] })

-- there is one, and each is that of the epoch with its number
pub record IsNumbered (cuts : List Cut) : Type 0 where
  pub some : 0 < length cuts
  pub epochs : (k : ℕ) → k < length cuts → (cut_at cuts k).epoch.0 ≡ k
