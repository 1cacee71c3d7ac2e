pub mod InputLemmas
pub mod EditLemmas
pub mod ImportLemmas
mod MigrateLemmas
mod SentLemmas
mod AskedLemmas
