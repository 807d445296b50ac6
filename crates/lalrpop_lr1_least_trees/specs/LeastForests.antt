-- What is least among trees: how many leaves and nodes, the production at a root, the moves. For who asks for least trees.
use Rattle.std.specs.Prelude.{ℕ, ◌≤◌, Bool, true, false, List, [], ◌≡◌, Option, Some, None}
use Rattle.lalrpop_grammar_symbols.specs.Symbols.{Text}
use Rattle.lalrpop_lr1_theory.specs.Productions.{Production}
use Rattle.lalrpop_lr1_theory.specs.Trees.{Forest, IsTreeOf, Move, moves, node, nodes, none, yield}
use Rattle.lalrpop_lr1_least_trees.specs.LeastTrees.{capped_count}

-- a tree of the nonterminal, with leaves or without
abbrev pub IsTreeOfKind : (Production → Type 0) → Text → Bool → Forest → Type 0
IsTreeOfKind G A true ts = IsTreeOf G A ts
IsTreeOfKind G A false ts = IsTreeOf G A ts × (yield ts ≡ [])

-- Some of these trees has so many leaves and nodes, as they are counted, and none has fewer.
pub record IsLeastCount (Wanted : Forest → Type 0) (count : ℕ) : Type 0 where
  pub tree : Forest
  pub wanted : Wanted tree
  pub is : capped_count (nodes tree) ≡ count
  pub least : (ts : Forest) → Wanted ts → count ≤ nodes ts

-- so many, or none where there is no such tree
abbrev pub CountsLeast : (Forest → Type 0) → Option ℕ → Type 0
CountsLeast Wanted None = (ts : Forest) → Wanted ts → ⊥
CountsLeast Wanted (Some count) = IsLeastCount Wanted count

-- Some of these trees has the production at its root, and none has fewer leaves and nodes, as they are counted.
pub record IsLeastRoot (Wanted : Forest → Type 0) (p : Production) : Type 0 where
  pub children : Forest
  pub wanted : Wanted (node p children none)
  pub least : (ts : Forest) → Wanted ts → capped_count (nodes (node p children none)) ≤ nodes ts

abbrev pub HasLeastRoot : (Forest → Type 0) → Option Production → Type 0
HasLeastRoot Wanted None = (ts : Forest) → Wanted ts → ⊥
HasLeastRoot Wanted (Some p) = IsLeastRoot Wanted p

-- The moves are those of one of these trees, and none has fewer leaves and nodes.
pub record AreMovesOfLeast (Wanted : Forest → Type 0) (all : List Move) : Type 0 where
  pub trees : Forest
  pub wanted : Wanted trees
  pub moves_are : all ≡ moves trees
  pub least : (ts : Forest) → Wanted ts → nodes trees ≤ nodes ts

abbrev pub HaveLeastMoves : (Forest → Type 0) → Option (List Move) → Type 0
HaveLeastMoves Wanted None = (ts : Forest) → Wanted ts → ⊥
HaveLeastMoves Wanted (Some all) = AreMovesOfLeast Wanted all
