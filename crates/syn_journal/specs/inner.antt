-- Definitions that no public clause reaches.
pub mod Commit
pub mod Reading
pub mod Whole
