mod GroundingLemmas
pub mod DropLemmas
pub mod TakingApartLemmas
pub mod TreeLemmas
pub mod WalkLemmas
