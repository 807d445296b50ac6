-- Moves that build a forest with given roots: for who asks for one.
use Rattle.std.specs.Prelude.{List, ◌≡◌, Option, Some, None}
use Rattle.lalrpop_lr1_theory.specs.Productions.{Production, Symbol}
use Rattle.lalrpop_lr1_theory.specs.Trees.{AreOver, Forest, Move, moves, roots}

-- the moves are those of trees over the productions with these roots
pub record AreForestMoves (G : Production → Type 0) (syms : List Symbol) (all : List Move) : Type 0 where
  pub trees : Forest
  pub over : AreOver G trees
  pub roots_are : roots trees ≡ syms
  pub moves_are : all ≡ moves trees

-- such moves, or none where no trees over the productions have these roots
abbrev pub HaveForestMoves : (Production → Type 0) → List Symbol → Option (List Move) → Type 0
HaveForestMoves G syms None = (ts : Forest) → AreOver G ts → roots ts ≡ syms → ⊥
HaveForestMoves G syms (Some all) = AreForestMoves G syms all
