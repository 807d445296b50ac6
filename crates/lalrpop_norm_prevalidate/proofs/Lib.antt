mod AgainLemmas
mod AttributeLemmas
pub mod EntryLemmas
mod ExamplesOfChecks
mod ExamplesOfFaults
mod FaultLemmas
mod FirstLemmas
mod NameLemmas
pub mod SetLemmas
mod StandingLemmas
