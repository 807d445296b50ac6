pub mod BuildLemmas
pub mod CountLemmas
pub mod MeasureLemmas
pub mod OpenedTreeLemmas
pub mod QueueLemmas
pub mod RuleLemmas
pub mod SearchLemmas
pub mod UseLemmas
mod ExamplesOfLeastTrees
pub mod NumberLemmas
pub mod SpellLemmas
pub mod GrammarLemmas
pub mod LeastLemmas
pub mod AnswerLemmas
pub mod TableLemmas
pub mod MoveLemmas
mod ExamplesOfLeastForests
pub mod PushLemmas
pub mod KindLemmas
pub mod ForthLemmas
pub mod BackLemmas
pub mod WantedLemmas
pub mod BeginLemmas
pub mod BeginAnswerLemmas
mod ExamplesOfBeginForests
pub mod RestLemmas
pub mod PlaceLemmas
pub mod SymbolLemmas
pub mod OtherLemmas
mod ExamplesOfRestForests
pub mod MakingLemmas
pub mod MadeTreeLemmas
mod ExamplesOfMadeTrees
