mod AutomatonLemmas
mod ExamplesOfEntries
mod ExamplesOfTokenFaults
mod FaultLemmas
mod MakingLemmas
mod NotingLemmas
mod PlaceLemmas
mod SearchLemmas
pub mod UniqueLemmas
pub mod UsedLemmas
