pub mod Expansions
pub mod ExpansionTrees
pub mod Barren
pub mod Laws
pub mod TextAnswers
pub mod AnswerLaws
pub mod TreeChoices
