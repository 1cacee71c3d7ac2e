pub mod Refusals
pub mod Paths
pub mod inner
