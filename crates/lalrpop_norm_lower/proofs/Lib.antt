pub mod EarlierLemmas
pub mod PutLemmas
pub mod OrderLemmas
pub mod RowLemmas
pub mod ExpansionRowLemmas
pub mod NumberedLemmas
pub mod EntryLemmas
pub mod MapLemmas
pub mod NonterminalLemmas
pub mod InlineLemmas
pub mod ListedLemmas
pub mod LoweredLemmas
pub mod ExamplesOfLowering
mod ReadyLemmas
