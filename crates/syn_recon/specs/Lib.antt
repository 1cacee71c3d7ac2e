pub mod Refusals
pub mod Items
pub mod inner
