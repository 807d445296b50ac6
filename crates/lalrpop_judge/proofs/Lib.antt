pub mod PlaceLemmas
pub mod SearchLemmas
pub mod ViewLemmas
pub mod SizeLemmas
pub mod ChoiceLemmas
pub mod StartLemmas
pub mod LeafLemmas
pub mod WalkLemmas
pub mod CompiledLemmas
pub mod MoveLemmas
pub mod EntryLemmas
pub mod FrontLemmas
pub mod MembershipLemmas
pub mod RootEntryLemmas
pub mod RootLemmas
mod ExamplesOfCertificates
mod ExamplesOfEntryMoves
