pub mod UserLemmas
mod PieceLemmas
mod SideLemmas
