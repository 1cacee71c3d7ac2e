pub mod RowLemmas
pub mod ChangedLemmas
pub mod DirtyRows
