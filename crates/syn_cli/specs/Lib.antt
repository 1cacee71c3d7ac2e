pub mod App
pub mod Places
pub mod Reads
pub mod Verbs
pub mod inner
