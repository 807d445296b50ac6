-- Moves by names and by numbers: for moves that are told.
use Rattle.std.specs.Prelude.{ℕ, List, [], ◌∷◌, ◌≡◌, ⊤, Option, Some}
use Rattle.lalrpop_grammar_symbols.specs.Views.{terminal_view}
use Rattle.lalrpop_lr1_theory.specs.Productions.{Production, Symbol, terminal}
use Rattle.lalrpop_lr1_theory.specs.Trees.{Move, reduce, shift}
use Rattle.lalrpop_lr1_core.specs.Views.{production_view}
use Rattle.lalrpop_lr1_least_trees.specs.declared.least_counts.rule.NumberMove.{NumberMove}
use Rattle.lalrpop_lr1_least_trees.specs.declared.least_counts.rule.NumberMove.TheVariants as numbered
use Rattle.lalrpop_lr1_least_trees.specs.declared.tree_move.TreeMove.{TreeMove}
use Rattle.lalrpop_lr1_least_trees.specs.declared.tree_move.TreeMove.TheVariants as named

-- what the theory sees of a move
abbrev pub tree_move_view : TreeMove → Move
tree_move_view (named.Shift t) = shift (terminal_view t.now)
tree_move_view (named.Reduce p) = reduce (production_view p.now)

-- the number is the move's: a terminal's, or a production's
abbrev pub IsNumberedMove : (ℕ → Option Symbol) → (ℕ → Option Production) → NumberMove → Move → Type 0
IsNumberedMove symbol_at production_at (numbered.Shift s) (shift t) = symbol_at s ≡ Some (terminal t)
IsNumberedMove symbol_at production_at (numbered.Shift s) (reduce p) = ⊥
IsNumberedMove symbol_at production_at (numbered.Reduce r) (shift t) = ⊥
IsNumberedMove symbol_at production_at (numbered.Reduce r) (reduce p) = production_at r ≡ Some p

-- the numbers are the moves', one after another
abbrev pub SpellsMoves : (ℕ → Option Symbol) → (ℕ → Option Production) → List NumberMove → List Move → Type 0
SpellsMoves symbol_at production_at [] [] = ⊤
SpellsMoves symbol_at production_at [] (m ∷ ms) = ⊥
SpellsMoves symbol_at production_at (n ∷ ns) [] = ⊥
SpellsMoves symbol_at production_at (n ∷ ns) (m ∷ ms) = IsNumberedMove symbol_at production_at n m × SpellsMoves symbol_at
    production_at ns ms
