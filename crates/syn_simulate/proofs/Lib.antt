mod MoveLemmas
mod LineLemmas
mod PlayerLemmas
mod LoopLemmas
mod StartLemmas
mod RunLemmas
pub mod WordLemmas
pub mod VerbLemmas
pub mod ScriptLemmas
