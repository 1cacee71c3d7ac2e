pub mod Rows
pub mod Witness
pub mod Forbidden
