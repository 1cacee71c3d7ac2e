-- Definitions that no public clause reaches.
pub mod Pasts
pub mod Trees
