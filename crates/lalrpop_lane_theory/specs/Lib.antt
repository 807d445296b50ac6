pub mod Lanes
pub mod Columns
pub mod LaneTables
pub mod SpreadStates
pub mod CarriedConflicts
pub mod Lalr1Grammars
pub mod LaneLaws
