mod MarkLemmas
mod SettleLemmas
mod StrangerLemmas
mod CarryLemmas
mod RunLemmas
mod SharedLemmas
mod PlannableLemmas
mod AloneLemmas
