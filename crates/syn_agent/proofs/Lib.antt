pub mod CauseLemmas
mod ReplicaLemmas
mod BeginLemmas
mod ReplaceLemmas
pub mod ReadingLemmas
mod StageLemmas
mod MachineLemmas
mod ListedLemmas
