pub mod Records
pub mod RowsRead
pub mod BadIndex
