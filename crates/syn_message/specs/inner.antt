-- Definitions that no public clause reaches.
pub mod Heads
pub mod Listed
pub mod Stated
