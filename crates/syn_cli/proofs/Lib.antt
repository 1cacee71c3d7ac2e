pub mod GivenLemmas
pub mod LackLemmas
pub mod CommandLemmas
pub mod VerbLemmas
pub mod WrongLemmas
