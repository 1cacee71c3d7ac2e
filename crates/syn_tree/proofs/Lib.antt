pub mod WithinLemmas
pub mod FitLemmas
pub mod PartLemmas
pub mod MeasureLemmas
pub mod MakeLemmas
pub mod ChangeLemmas
pub mod CheckLemmas
pub mod EmptyLemmas
pub mod PlaceableLemmas
pub mod ListingLemmas
pub mod WholeLemmas
pub mod StripLemmas
pub mod LawfulLemmas
pub mod ModeLemmas
pub mod RootedLemmas
mod TurnLemmas
