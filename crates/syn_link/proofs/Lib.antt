mod FrameLemmas
mod ReadLemmas
mod StreamLemmas
mod WriteLemmas
