pub mod ExamplesOfLines
pub mod LineLemmas
pub mod WordLemmas
pub mod ParsableLemmas
mod TerminalLemmas
