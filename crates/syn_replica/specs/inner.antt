-- Definitions that no public clause reaches.
pub mod Additions
pub mod Memories
pub mod Digests
pub mod Batches
