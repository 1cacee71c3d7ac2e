pub mod MergeLemmas
pub mod PartLemmas
pub mod WalkLemmas
pub mod PlanLemmas
mod ListingLemmas
mod LimitLemmas
mod ScanLemmas
