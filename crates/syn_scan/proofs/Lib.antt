pub mod PositionLemmas
pub mod ShownLemmas
pub mod FoundLemmas
pub mod FirstLemmas
pub mod ListingLemmas
pub mod NamesLemmas
