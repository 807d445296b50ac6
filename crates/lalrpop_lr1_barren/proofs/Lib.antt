pub mod ClauseLemmas
pub mod FollowLemmas
pub mod NameLemmas
pub mod RuleLemmas
pub mod SearchLemmas
pub mod NamedLemmas
pub mod BarrenLemmas
pub mod AloneLemmas
