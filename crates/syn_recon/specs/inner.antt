-- Definitions that no public clause reaches.
pub mod Walks
pub mod Decided
