pub mod Events
pub mod Index
pub mod Past
pub mod Status
pub mod Trails
pub mod Refusals
