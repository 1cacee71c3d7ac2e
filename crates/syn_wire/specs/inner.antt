-- Definitions that no public clause reaches.
pub mod Kinds
pub mod Parts
pub mod Windows
