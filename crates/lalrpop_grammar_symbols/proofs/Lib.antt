pub mod ComparedLemmas
pub mod EscapeLemmas
pub mod MapLemmas
pub mod SubsymbolLemmas
pub mod TextLemmas
pub mod BoolLemmas
pub mod NameLemmas
