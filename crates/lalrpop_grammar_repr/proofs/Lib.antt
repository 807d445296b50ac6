mod AloneLemmas
mod MapLemmas
pub mod EqualLemmas
mod PlainKindLemmas
