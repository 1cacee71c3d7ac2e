pub mod Errors
pub mod Images
pub mod Reports
pub mod Known
pub mod Events
pub mod Counting
pub mod Plans
pub mod inner
