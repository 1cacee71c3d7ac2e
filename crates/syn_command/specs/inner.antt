-- Definitions that no public clause reaches.
pub mod Asking
pub mod SessionLines
