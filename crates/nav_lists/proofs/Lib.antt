mod SweepLemmas
mod CoverLemmas
mod Orders
mod FrontLemmas
mod InsertLemmas
mod MergeLemmas
mod HeldLemmas
pub mod RankedLemmas
pub mod RankedHeldLemmas
pub mod Surface
