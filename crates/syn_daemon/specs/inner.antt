-- Definitions that no public clause reaches.
pub mod Connections
pub mod Started
