-- Trees that begin with a terminal, and what is told of them: by which production and at which place they do, how many leaves and
-- nodes they have, and their moves.
use Rattle.std.specs.Prelude.{ℕ, List, [], length, ◌≡◌, Option, Some, None}
use Rattle.lalrpop_grammar_symbols.specs.Symbols.{Text, Terminal}
use Rattle.lalrpop_lr1_theory.specs.Productions.{Production, Symbol, first, terminal}
use Rattle.lalrpop_lr1_theory.specs.Trees.{Forest, IsTreeOf, Move, moves, node, nodes, none, roots, yield, ◌and◌}
use Rattle.lalrpop_lr1_least_trees.specs.LeastTrees.{capped_count}

-- a tree of the nonterminal whose first leaf is the terminal
abbrev pub IsBeginTreeOf : (Production → Type 0) → Text → Terminal → Forest → Type 0
IsBeginTreeOf G A t ts = IsTreeOf G A ts × (first (yield ts) ≡ Some t)

-- Some such tree has the production at its root: the trees in front of the place have no leaves, and the one at the place begins with
-- the terminal.
pub record IsBeginRoot (G : Production → Type 0) (A : Text) (t : Terminal) (p : Production) (place : ℕ) : Type 0 where
  pub front : Forest
  pub here : Forest
  pub behind : Forest
  pub is_tree : IsTreeOf G A (node p (front and (here and behind)) none)
  pub place_is : length (roots front) ≡ place
  pub one : length (roots here) ≡ 1
  pub empty : yield front ≡ []
  pub begins : first (yield here) ≡ Some t

-- the production with the place, or none where no such tree is there
abbrev pub HasBeginRoot : (Production → Type 0) → Text → Terminal → Option (Production × ℕ) → Type 0
HasBeginRoot G A t None = (ts : Forest) → IsBeginTreeOf G A t ts → ⊥
HasBeginRoot G A t (Some root) = IsBeginRoot G A t root.0 root.1

-- some such tree has so many leaves and nodes, as they are counted
pub record IsBeginCount (G : Production → Type 0) (A : Text) (t : Terminal) (count : ℕ) : Type 0 where
  pub tree : Forest
  pub begins : IsBeginTreeOf G A t tree
  pub is : capped_count (nodes tree) ≡ count

-- so many, or none where no such tree is there
abbrev pub CountsBegin : (Production → Type 0) → Text → Terminal → Option ℕ → Type 0
CountsBegin G A t None = (ts : Forest) → IsBeginTreeOf G A t ts → ⊥
CountsBegin G A t (Some count) = IsBeginCount G A t count

-- the moves are those of such a tree
pub record AreBeginMoves (G : Production → Type 0) (A : Text) (t : Terminal) (all : List Move) : Type 0 where
  pub tree : Forest
  pub begins : IsBeginTreeOf G A t tree
  pub moves_are : all ≡ moves tree

abbrev pub HaveBeginMoves : (Production → Type 0) → Text → Terminal → Option (List Move) → Type 0
HaveBeginMoves G A t None = (ts : Forest) → IsBeginTreeOf G A t ts → ⊥
HaveBeginMoves G A t (Some all) = AreBeginMoves G A t all

-- The number is the terminal's, and no other symbol has it; it may be that none has it.
pub record IsWanted (symbol_at : ℕ → Option Symbol) (t : Terminal) (wanted : ℕ) : Type 0 where
  pub only : (s : ℕ) → symbol_at s ≡ Some (terminal t) → s ≡ wanted
  pub is : (u : Terminal) → symbol_at wanted ≡ Some (terminal u) → u ≡ t
