-- Definitions that no public clause reaches.
pub mod Spaces
