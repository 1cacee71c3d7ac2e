pub mod StandLemmas
pub mod FormatLemmas
pub mod AlikeLemmas
pub mod OpeningLemmas
pub mod MeaningLemmas
mod MigrateLemmas
mod CallLemmas
pub mod EndLemmas
pub mod KeepLemmas
pub mod WriteLemmas
mod KeepingLemmas
mod MachineLemmas
