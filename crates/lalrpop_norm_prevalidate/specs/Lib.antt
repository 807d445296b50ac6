pub mod Attributes
pub mod Blocks
pub mod Entries
pub mod Faults
pub mod Firsts
pub mod Labels
pub mod Names
