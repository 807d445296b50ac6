pub mod ReadGrammars
pub mod Stages
pub mod Normalizing
