mod LeftLemmas
pub mod KnownLemmas
pub mod DuplicateLemmas
pub mod FaultListLemmas
pub mod RuleNameLemmas
pub mod TypeLemmas
pub mod RuleListLemmas
pub mod ItemLemmas
pub mod LawLemmas
pub mod ExamplesOfFoundFaults
