-- Steps of a fair cut that counts down what is left to take.
use Rattle.std.proofs.Common.{◌≡◌, ◌∙◌, ℕ, ◌+◌, ◌-◌, ◌<◌, ◌++◌, List, get_or, refl}
use Rattle.kin_ids.specs.declared.stamps.Stamp.{Stamp}
use Rattle.kin_ids.specs.Fair.{Waiting, enough, last_end}
use Rattle.kin_ids.specs.Rounds.{row, rows}
use Rattle.kin_ids.proofs.Rounds.{rows-step}

-- a round takes the next row
pub took-row : (pending : ℕ → List Stamp) (all kept : List ℕ) (place m left less : ℕ) (ends new : List ℕ) → place < m → row pending place kept ≡ row pending place all →
    ((rest : List Waiting) (i : ℕ) → last_end (get_or new i 0) i (enough less rest) ≡ last_end (get_or ends i 0) i (enough left (row pending place kept ++ rest))) →
    (i : ℕ) → last_end (get_or new i 0) i (enough less (rows pending all (place + 1) (m - (place + 1)))) ≡ last_end (get_or ends i 0) i (enough left (rows pending all place (m - place)))
took-row pending all kept place m left less ends new lt same took i = took _ i ∙ rw (rows-step pending all place m lt, same) refl
