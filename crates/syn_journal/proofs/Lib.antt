mod Appends
mod Batches
pub mod Calls
mod Checkpoints
mod Commits
mod Formats
pub mod Meanings
pub mod Moments
mod Parts
mod Openings
mod Records
mod Whole
pub mod AppendLemmas
pub mod Endings
pub mod Migrations
pub mod Results
pub mod Spent
mod StartLemmas
pub mod CallLemmas
pub mod DiskLemmas
pub mod ImageLemmas
pub mod MachineLemmas
pub mod OpeningLemmas
pub mod ReadLemmas
pub mod RecordLemmas
