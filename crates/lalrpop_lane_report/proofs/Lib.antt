pub mod CharacterLemmas
pub mod DrawLemmas
pub mod EnumeratorLemmas
pub mod ExampleLemmas
mod ExamplesOfBacktraces
mod ExamplesOfExamples
mod ExamplesOfPaths
mod ExamplesOfReductions
mod ExamplesOfReports
pub mod FilterLemmas
pub mod GoingLemmas
pub mod KeyLemmas
pub mod PathLemmas
pub mod PathOrderLemmas
pub mod PathWalkLemmas
pub mod PieceLemmas
pub mod ShownLemmas
pub mod TraceGraphLemmas
pub mod TracingLemmas
pub mod TurnLemmas
pub mod VisitLemmas
