-- Definitions of what is private.
pub mod Walking
pub mod Settling
pub mod Carrying
pub mod Taking
pub mod Answered
pub mod Advancing
pub mod Recording
