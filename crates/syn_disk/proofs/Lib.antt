mod Flags
pub mod Joined
pub mod LeftLemmas
pub mod Moments
pub mod Overwritten
pub mod Padding
mod Stopped
mod Tracking
mod Extents
mod Written
mod Zeros
