pub mod Alternatives
pub mod Externs
pub mod Items
pub mod Matches
pub mod Readable
pub mod Rules
pub mod Spelling
pub mod Origins
