-- The states on a parser's stack, and what its trees are while it parses: for the machine, and for all that its stack may hold.
use Rattle.std.specs.Prelude.{ℕ, suc, ◌≤◌, List, [], ◌∷◌, ◌++◌, length, take, slice_index, ◌≡◌}
use Rattle.lalrpop_grammar.specs.Trees.{Token}
use Rattle.lalrpop_grammar_symbols.specs.Symbols.{Terminal}
use Rattle.lalrpop_lr1_theory.specs.Productions.{Production, Symbol}
use Rattle.lalrpop_lr1_theory.specs.Trees.{Move, roots, shift}
use Rattle.lalrpop_lr1_theory.specs.Spans.{SpannedForest, leaf_at, node_at, none_at, without_spans}
use Rattle.lalrpop_lr1_theory.specs.Automata.{Walk}

infixr 60 ◌beside◌
-- the trees of one list, then those of the other
abbrev pub ◌beside◌ : SpannedForest → SpannedForest → SpannedForest
none_at beside us = us
(leaf_at t span ts) beside us = leaf_at t span (ts beside us)
(node_at p cs ts) beside us = node_at p cs (ts beside us)

-- the numbers are those of the states to which the symbols lead, one symbol after the other, state 0 first
pub record AreStatesOn (Edge : ℕ → Symbol → ℕ → Type 0) (numbers : List ℕ) (g : List Symbol) : Type 0 where
  pub counted : length numbers ≡ suc (length g)
  pub walks : (i : ℕ) → i ≤ length g → Walk Edge (take i g) (slice_index numbers i)

-- the last of the moves, if there are any, is a shift
pub data EndsByShift : List Move → Type 0 where
  no_moves : EndsByShift []
  by_shift : (before : List Move) (t : Terminal) → EndsByShift (before ++ shift t ∷ [])

-- what stands for trees over tokens ends with the children of a node by the production
pub record HasChildren (Stands : SpannedForest → List Token → Type 0) (p : Production) : Type 0 where
  pub kept : SpannedForest
  pub children : SpannedForest
  pub tokens : List Token
  pub stands : Stands (kept beside children) tokens
  pub roots_are : roots (without_spans children) ≡ p.right
