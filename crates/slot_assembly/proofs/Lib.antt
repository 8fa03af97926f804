mod GivenLemmas
mod FlushLemmas
pub mod Surface
mod RankOrder
mod Changes
mod Lags
mod SatOrder
mod HealthChanges
mod TakeLemmas
mod PartLemmas
mod JoinLemmas
mod StepLemmas
mod KeptLemmas
mod KnownLemmas
mod StandLemmas
mod GiveLemmas
mod ClosingLemmas
