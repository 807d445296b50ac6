pub mod AscendingListLemmas
pub mod CommonLemmas
pub mod EntryLemmas
mod ExamplesOfRanges
mod ExamplesOfSets
pub mod JoinedLemmas
pub mod NumberTextLemmas
pub mod OrderLemmas
pub mod PlaceLemmas
pub mod QueueLemmas
pub mod RangeEditLemmas
pub mod RangeLemmas
pub mod TokenLemmas
pub mod TokenSetLemmas
