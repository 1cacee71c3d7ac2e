pub mod Marks
pub mod Placings
pub mod Changes
pub mod inner
