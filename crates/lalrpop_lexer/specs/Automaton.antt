-- The whole automaton, before it is said which pattern each state accepts.
use Rattle.std.specs.Prelude.{ℕ, List}
use Rattle.lalrpop_lexer_nfa.specs.Paths.{Graph}
use Rattle.lalrpop_lexer.specs.Numbering.{EdgeView, IsFirstSeen}
use Rattle.lalrpop_lexer.specs.Subsets.{IsSubsetConstruction}

-- the states' sets make a machine, and the states are numbered as they are first seen
pub record IsAutomaton (t : Graph) (start : ℕ) (sets : List (List ℕ)) (edges : ℕ → List EdgeView) (n : ℕ) : Type 0 where
  pub machine : IsSubsetConstruction t start sets edges n
  pub parent : ℕ → ℕ
  pub place : ℕ → ℕ
  pub seen : IsFirstSeen edges n parent place
