pub mod Refusals
pub mod Carrying
pub mod Asking
pub mod Transfers
pub mod inner
