pub mod Checks
pub mod Refusals
pub mod Settlements
pub mod Settlings
pub mod Shared
pub mod Stops
pub mod Strangers
pub mod UnderWay
