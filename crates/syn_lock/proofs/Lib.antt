pub mod Bits
pub mod Histories
pub mod Seats
pub mod Turns
pub mod Keeps
pub mod Gives
pub mod Arrivals
