-- The block of an epoch by the lines and vectors of a history.
use Rattle.std.specs.Prelude.{ℕ, ◌-◌, List, length, map, count_by}
use Rattle.std.specs.List.{range_with_len}
use Rattle.kin_ids.specs.declared.stamps.Stamp.{Stamp}
use Rattle.kin_ids.specs.declared.stamps.End.{End}
use Rattle.kin_ids.specs.declared.ops.Record.{Record}
use Rattle.kin_ids.specs.declared.options.OptionWords.{OptionWords}
use Rattle.kin_ids.specs.Lines.{inc_at}
use Rattle.kin_ids.specs.Operations.{is_bad}
use Rattle.kin_ids.specs.Order.{Entry, of_epoch, snapshot}
use Rattle.kin_report.specs.Block.{block_text}

-- where the nodes stand in a vector, each with the incarnation of its transaction that ends there
abbrev pub ends_of : (ℕ → List Stamp) → (ℕ → ℕ) → ℕ → List End
ends_of lines vector nodes = map (λ i. record { inc = record { 0 = inc_at (lines i) (vector i) }; to = vector i }) (range_with_len 0 nodes)

-- the records that are new in epoch k
abbrev pub new_records : List (List Record) → (ℕ → ℕ → ℕ) → ℕ → List Entry
new_records feeds vectors k = of_epoch feeds k (vectors (k - 1)) (vectors k) (length feeds)

-- how many of them there are, and how many are Bad
abbrev pub records_in : List (List Record) → (ℕ → ℕ → ℕ) → ℕ → ℕ
records_in feeds vectors k = length (new_records feeds vectors k)

abbrev pub bad_in : List (List Record) → (ℕ → ℕ → ℕ) → ℕ → ℕ
bad_in feeds vectors k = count_by (λ x. is_bad x.content) (new_records feeds vectors k)

-- the block of epoch k: its ends, the counts of its new records, and the rules on its snapshot
abbrev pub block : List (List Record) → (ℕ → List Stamp) → (ℕ → ℕ → ℕ) → OptionWords → ℕ → List ℕ
block feeds lines vectors options k =
    block_text k (ends_of lines (vectors k) (length feeds)) (records_in feeds vectors k) (bad_in feeds vectors k) options
    (snapshot feeds vectors k)
