pub mod MarkLemmas
pub mod PlacingLemmas
pub mod ChangeLemmas
pub mod SameLemmas
