pub mod ListLemmas
pub mod SortedLemmas
pub mod NameLemmas
pub mod ConflictLemmas
pub mod EdgeLemmas
pub mod MemberLemmas
pub mod NoConflictLemmas
pub mod ExamplesOfViews
mod ExamplesOfConflicts
mod ExamplesOfDots
mod ExamplesOfEdges
pub mod GraphLemmas
pub mod IncomingLemmas
pub mod ProductionViewLemmas
