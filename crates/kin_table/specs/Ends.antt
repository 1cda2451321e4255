-- Ends of a cut.
use Rattle.std.specs.Prelude.{ℕ, ◌==◌, if◌then◌else◌, List}
use Rattle.kin_ids.specs.declared.stamps.Stamp.{Stamp}
use Rattle.kin_ids.specs.declared.stamps.End.{End}
pub use Rattle.kin_ids.specs.Lines.{inc_at}

-- A node's end at a position, over its stamps past its last end: the last end where nothing was taken since, else with the
-- incarnation of the stamp that ends there.
abbrev pub end_of_cut : End → List Stamp → ℕ → End
end_of_cut last stamps to = if to == last.to then last else record { inc = record { 0 = inc_at stamps to }; to = to }
