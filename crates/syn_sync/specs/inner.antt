-- Definitions that no public clause reaches.
pub mod Calling
