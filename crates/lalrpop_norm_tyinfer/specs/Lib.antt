pub mod GroundViews
pub mod TypesByTable
pub mod Equations
pub mod TypeFaults
pub mod NamedRules
pub mod ProgramViews
pub mod Searching
pub mod TerminalTypes
