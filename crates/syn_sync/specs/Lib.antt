pub mod States
pub mod Outlets
pub mod Drivers
pub mod Runs
pub mod Refusals
pub mod inner
