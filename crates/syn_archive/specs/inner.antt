-- Definitions that no public clause reaches.
pub mod Openings
pub mod Agreements
pub mod Keepings
