mod AskLemmas
mod CarryLemmas
mod EndLemmas
mod StepLemmas
