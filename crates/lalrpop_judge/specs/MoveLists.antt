-- Moves of trees as lists: for the test of certificates.
use Rattle.std.specs.Prelude.{List, [], ◌∷◌, length, take, drop, slice_get, Some, ◌≡◌}
use Rattle.lalrpop_grammar_symbols.specs.Symbols.{Terminal}
use Rattle.lalrpop_lr1_theory.specs.Productions.{Next, first}
use Rattle.lalrpop_lr1_theory.specs.Trees.{Move, shift, reduce}
use Rattle.lalrpop_judge.specs.Certificates.{NumberedMove, number_move}

-- the terminals that moves shift
abbrev pub shifted_terminals : List Move → List Terminal
shifted_terminals [] = []
shifted_terminals (shift t ∷ ms) = t ∷ shifted_terminals ms
shifted_terminals (reduce p ∷ ms) = shifted_terminals ms

-- the first of the moves is the one that is named, and the first shift among them is of what comes next
pub record ContinuesBy (left : List Move) (x : Next) (m : NumberedMove) : Type 0 where
  pub move : Move
  pub move_is : slice_get left 0 ≡ Some move
  pub move_named : number_move move ≡ m
  pub next : first (shifted_terminals left) ≡ x

-- the moves of a whole tree are first those of the shared trees, and continue so
pub record MovesBehind (shared whole : List Move) (x : Next) (m : NumberedMove) : Type 0 where
  pub front : take (length shared) whole ≡ shared
  pub continues : ContinuesBy (drop (length shared) whole) x m
