pub mod AddLemmas
pub mod AppliedLemmas
pub mod AscendingLemmas
pub mod AskLemmas
pub mod BackLemmas
mod ExamplesOfClasses
mod ExamplesOfContextSets
mod ExamplesOfMerges
mod ExamplesOfTables
pub mod FrontLemmas
pub mod GatherLemmas
pub mod InsertLemmas
pub mod KeyLemmas
pub mod NodeLemmas
pub mod PatchLemmas
pub mod PutLemmas
pub mod RowLemmas
pub mod TableLemmas
pub mod TableGainLemmas
pub mod TraceLemmas
pub mod TracingLemmas
pub mod UnifyLemmas
pub mod CopiedLemmas
pub mod MergeClassLemmas
pub mod MergeLemmas
pub mod MergeWalkLemmas
pub mod SpreadViewLemmas
