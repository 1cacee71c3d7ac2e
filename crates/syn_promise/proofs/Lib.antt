pub mod AskedLemmas
pub mod RecordLemmas
mod AllowedLemmas
pub mod ReportLemmas
pub mod StartedLemmas
pub mod SessionLemmas
pub mod PowerLemmas
pub mod ComeLemmas
pub mod PromiseLemmas
mod NumberLemmas
mod LeaveLemmas
mod UpLemmas
mod SaidLemmas
mod PlannedLemmas
mod CarriedLemmas
mod ReportedLemmas
mod ApartLemmas
mod RefusedLemmas
