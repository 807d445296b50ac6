pub mod Algorithms
pub mod Maps
pub mod NormErrorTexts
pub mod Productions
pub mod SymbolTypes
