-- The next cut of a table.
use Rattle.std.specs.Prelude.{ℕ, ◌≡◌, ◌<◌, ◌+◌, List, Option, Some, None, length}
use Rattle.kin_ids.specs.declared.stamps.Stamp.{Stamp}
use Rattle.kin_ids.specs.Fair.{fair}
use Rattle.kin_table.specs.Vectors.{end_at}
use Rattle.kin_table.specs.Lists.{list_at}
use Rattle.kin_table.specs.Ends.{end_of_cut}
use Rattle.kin_table.specs.Tables.{TableView, agreed_of, cuts_of, last_of}
use Rattle.kin_table.specs.declared.cuts.Cut.{Cut}

-- The position of a node in the next vector, over each node's agreed stamps past the last one: without a number the agreed
-- position, with a number by the fair cut from the last vector on.
abbrev pub next_position : TableView → Option ℕ → List (List Stamp) → ℕ → ℕ
next_position t None lists i = agreed_of t i
next_position t (Some n) lists i = fair (λ j. (last_of t j).to) (list_at lists) (length t.agreed) n i

-- the cut of the next epoch
pub record IsNextCut (t : TableView) (n : Option ℕ) (lists : List (List Stamp)) (cut : Cut) : Type 0 where
  pub epoch : cut.epoch.0 ≡ cuts_of t + 1
  pub count : length cut.ends ≡ length t.agreed
  pub ends : (i : ℕ) → i < length t.agreed →
      end_at cut.ends i ≡ end_of_cut (last_of t i) (list_at lists i) (next_position t n lists i)
