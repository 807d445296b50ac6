pub mod GotoNumbers
pub mod LaneStates
pub mod Constructions
pub mod Merges
pub mod Rounds
pub mod BuilderAnswers
