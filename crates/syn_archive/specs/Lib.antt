pub mod Keepings
pub mod Archive
pub mod Disks
pub mod Refusals
pub mod Calls
pub mod Machines
pub mod inner
