mod CollectLemmas
mod OrderLemmas
mod KnownLemmas
mod DamageLemmas
