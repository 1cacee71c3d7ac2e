pub mod History
pub mod Prefixes
pub mod Views
pub mod Passes
pub mod Guards
pub mod Locks
pub mod Refusals
pub mod inner
