-- What a partition keeps of a user, as the store has it.
pub use Rattle.kin_store.specs.Rows.{UserRow, no_row, is_none, is_apart, row_applied}
