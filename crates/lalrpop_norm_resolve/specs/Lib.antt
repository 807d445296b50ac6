pub mod Left
pub mod FoundFaults
pub mod Searches
pub mod NameViews
