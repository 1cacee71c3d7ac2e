pub mod BeginLemmas
pub mod BodyLemmas
pub mod OnceLemmas
pub mod ServeLemmas
pub mod HoldLemmas
