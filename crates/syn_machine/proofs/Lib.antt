pub mod NetworkLemmas
pub mod Heard
pub mod Rising
pub mod WaitingLemmas
