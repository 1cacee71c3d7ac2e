pub mod Asked
pub mod Told
pub mod Power
pub mod Steps
pub mod Sessions
pub mod Promise
pub mod Records
pub mod Laws
