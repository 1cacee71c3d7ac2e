pub mod Looks
pub mod Refusals
pub mod Strangers
pub mod Glimpses
pub mod Stages
pub mod Places
pub mod Moments
pub mod Courses
