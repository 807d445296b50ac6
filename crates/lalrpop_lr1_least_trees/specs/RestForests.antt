-- Trees with given symbols at their roots and leaves of a given kind, and what is told of them: how many leaves and nodes they have, and
-- their moves. For who asks for trees of what stands behind a dot.
use Rattle.std.specs.Prelude.{ℕ, Bool, true, false, List, [], ◌≡◌, ⊤, Option, Some, None}
use Rattle.lalrpop_grammar_symbols.specs.Symbols.{Terminal}
use Rattle.lalrpop_lr1_theory.specs.Productions.{Production, Symbol, first}
use Rattle.lalrpop_lr1_theory.specs.Trees.{AreOver, Forest, Move, moves, nodes, roots, yield}
use Rattle.lalrpop_lr1_least_trees.specs.LeastTrees.{capped_count}

-- which leaves are asked for: any, none, or some whose first is the terminal
abbrev pub AnyLeaves : List Terminal → Type 0
AnyLeaves w = ⊤

abbrev pub NoLeaves : List Terminal → Type 0
NoLeaves w = w ≡ []

abbrev pub BeginsWith : Terminal → List Terminal → Type 0
BeginsWith t w = first w ≡ Some t

-- any leaves, or none
abbrev pub LeavesOfKind : Bool → List Terminal → Type 0
LeavesOfKind true = AnyLeaves
LeavesOfKind false = NoLeaves

-- some trees over the productions have these symbols at their roots, and the leaves that are asked for
pub record HasRest (G : Production → Type 0) (ss : List Symbol) (Wanted : List Terminal → Type 0) : Type 0 where
  pub trees : Forest
  pub over : AreOver G trees
  pub roots_are : roots trees ≡ ss
  pub wanted : Wanted (yield trees)

-- no trees do
abbrev pub HasNoRest : (Production → Type 0) → List Symbol → (List Terminal → Type 0) → Type 0
HasNoRest G ss Wanted = (ts : Forest) → AreOver G ts → roots ts ≡ ss → Wanted (yield ts) → ⊥

-- some such trees have so many leaves and nodes, as they are counted
pub record IsRestCount (G : Production → Type 0) (ss : List Symbol) (Wanted : List Terminal → Type 0) (count : ℕ) : Type 0 where
  pub rest : HasRest G ss Wanted
  pub is : capped_count (nodes rest.trees) ≡ count

-- so many, or none where there are no such trees
abbrev pub CountsRest : (Production → Type 0) → List Symbol → (List Terminal → Type 0) → Option ℕ → Type 0
CountsRest G ss Wanted None = HasNoRest G ss Wanted
CountsRest G ss Wanted (Some count) = IsRestCount G ss Wanted count

-- the moves build some such trees
pub record AreRestMoves (G : Production → Type 0) (ss : List Symbol) (Wanted : List Terminal → Type 0) (all : List Move) : Type 0 where
  pub rest : HasRest G ss Wanted
  pub moves_are : all ≡ moves rest.trees

-- moves that do, or none where there are no such trees
abbrev pub HaveRestMoves : (Production → Type 0) → List Symbol → (List Terminal → Type 0) → Option (List Move) → Type 0
HaveRestMoves G ss Wanted None = HasNoRest G ss Wanted
HaveRestMoves G ss Wanted (Some all) = AreRestMoves G ss Wanted all
