pub mod ConnectionLemmas
pub mod SessionLemmas
