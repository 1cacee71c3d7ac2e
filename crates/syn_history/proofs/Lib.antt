pub mod IndexLemmas
pub mod PlaceLemmas
pub mod TouchLemmas
