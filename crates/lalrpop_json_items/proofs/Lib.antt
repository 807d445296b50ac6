pub mod AlternativeLemmas
pub mod ExternLemmas
pub mod ItemLemmas
pub mod MatchLemmas
pub mod RuleLemmas
pub mod AlternativeSpellingLemmas
pub mod ItemSpellingLemmas
pub mod MatchSpellingLemmas
