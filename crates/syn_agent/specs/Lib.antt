pub mod Stagings
pub mod Agents
pub mod Answers
pub mod Causes
pub mod Machines
pub mod inner
