pub mod Refusals
pub mod States
pub mod Exchanges
pub mod inner
pub mod Sides
