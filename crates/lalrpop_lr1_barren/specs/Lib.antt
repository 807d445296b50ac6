pub mod Clauses
pub mod ClauseRules
pub mod RuleClauses
pub mod NameMarks
pub mod NamedLists
pub mod LeastBarren
