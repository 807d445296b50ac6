pub mod Attributes
pub mod Literals
pub mod Readable
pub mod Spelling
pub mod Symbols
pub mod Types
pub mod Kinds
