pub mod RoomLemmas
pub mod StandLemmas
pub mod WithRoomLemmas
pub mod RefusalLemmas
pub mod MeaningLemmas
mod VersionLemmas
mod MigrateLemmas
mod MigrateCauses
mod KeepingLemmas
mod MachineLemmas
mod RememberedLemmas
mod WriteLemmas
pub mod CallLemmas
pub mod FormattedLemmas
pub mod SessionLemmas
pub mod GrowthLemmas
pub mod ReopenLemmas
mod LawfulLemmas
mod DigestLemmas
pub mod BatchLemmas
pub mod CauseLemmas
pub mod StandingLemmas
pub mod SinceLemmas
pub mod AlikeLemmas
pub mod ReadingLemmas
