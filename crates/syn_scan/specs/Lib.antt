pub mod Refusals
pub mod Found
pub mod Asked
pub mod inner
