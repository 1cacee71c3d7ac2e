pub mod GoingLemmas
pub mod NeedLemmas
pub mod OverlayLemmas
pub mod PartLemmas
pub mod RemovalLemmas
pub mod ResultLemmas
pub mod ShorterLemmas
mod StandingLemmas
