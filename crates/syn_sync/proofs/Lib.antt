pub mod WriteLemmas
pub mod RunLemmas
pub mod StartLemmas
