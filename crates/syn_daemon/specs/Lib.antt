pub mod Sessions
pub mod inner
