pub mod ImageLemmas
pub mod KeptLemmas
