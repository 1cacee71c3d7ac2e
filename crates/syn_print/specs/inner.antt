-- Definitions that no public clause reaches.
pub mod Damages
pub mod Named
