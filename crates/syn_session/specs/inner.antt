-- Definitions of what is private.
pub mod Listing
pub mod Items
