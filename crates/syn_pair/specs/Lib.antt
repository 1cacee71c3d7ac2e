pub mod Belongs
pub mod Folders
pub mod Following
pub mod Known
pub mod Marks
pub mod Refusals
pub mod Sides
