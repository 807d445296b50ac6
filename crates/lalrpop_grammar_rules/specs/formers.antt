pub mod closed
