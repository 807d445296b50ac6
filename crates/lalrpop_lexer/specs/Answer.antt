-- What an automaton answers, as a part of the text.
use Rattle.std.specs.Prelude.{◌≡◌, ℕ, List, ◌++◌, Some, length}
use Rattle.std.specs.Str.{chars}
use Rattle.lalrpop_lexer.specs.Simulation.{StateView, answer_of}

-- the front of the text is what the automaton's answer counts, and belongs to the pattern of the answer
pub record IsAnswerFront (nodes : List StateView) (text : List ℕ) (pattern : ℕ) (front : List ℕ) : Type 0 where
  pub rest : List ℕ
  pub is : text ≡ front ++ rest
  pub answer : answer_of nodes (chars text) ≡ Some (pattern, length (chars front))
