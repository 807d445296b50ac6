-- At which place trees with given symbols at their roots begin with a terminal, and how many leaves and nodes they have: for the search
-- of the lightest.
use Rattle.std.specs.Prelude.{ℕ, ◌+◌, List, [], ◌∷◌, ◌++◌, length, ◌≡◌, ◌⊎◌, Option, Some, None}
use Rattle.std.specs.Option.{option_map}
use Rattle.lalrpop_grammar_symbols.specs.Symbols.{Terminal}
use Rattle.lalrpop_lr1_theory.specs.Productions.{Production, Symbol}
use Rattle.lalrpop_lr1_theory.specs.Trees.{nodes}
use Rattle.lalrpop_lr1_least_trees.specs.LeastTrees.{capped_count}
use Rattle.lalrpop_lr1_least_trees.specs.Searches.{add_counts}
use Rattle.lalrpop_lr1_least_trees.specs.declared.rest_trees.begin_place.BeginPlace.{BeginPlace}
use Rattle.lalrpop_lr1_least_trees.specs.RestForests.{AnyLeaves, BeginsWith, HasNoRest, HasRest, NoLeaves}

-- what trees beside each other count, where both are there
abbrev pub counts_beside : Option ℕ → Option ℕ → Option ℕ
counts_beside one other = option_map capped_count (add_counts one other)

-- the place, where trees with so many leaves and nodes begin at it
abbrev pub place_here : ℕ → Option ℕ → Option BeginPlace
place_here place None = None
place_here place (Some count) = Some (record { place = place; count = count })

-- the place behind trees with so many nodes and no leaves
abbrev pub place_behind : Option ℕ → Option BeginPlace → Option BeginPlace
place_behind None later = None
place_behind (Some count) None = None
place_behind (Some count) (Some later) = Some (record later { count = capped_count (count + later.count) })

-- one of the two, or none where there is neither
abbrev pub IsEitherPlace : Option BeginPlace → Option BeginPlace → Option BeginPlace → Type 0
IsEitherPlace one other None = (one ≡ None) × (other ≡ None)
IsEitherPlace one other (Some place) = (one ≡ Some place) ⊎ (other ≡ Some place)

-- Some trees begin with the terminal at the place, which is counted from a number on: those in front of it have no leaves, and the one at
-- it begins so. Together they have so many leaves and nodes, as they are counted.
pub record IsBeginPlace (G : Production → Type 0) (ss : List Symbol) (t : Terminal) (from : ℕ) (it : BeginPlace) : Type 0 where
  pub before : List Symbol
  pub symbol : Symbol
  pub after : List Symbol
  pub parts : ss ≡ before ++ symbol ∷ after
  pub place_is : it.place ≡ from + length before
  pub front : HasRest G before NoLeaves
  pub here : HasRest G (symbol ∷ []) (BeginsWith t)
  pub behind : HasRest G after AnyLeaves
  pub count_is : capped_count (nodes front.trees + (nodes here.trees + nodes behind.trees)) ≡ it.count

-- the place, or none where no such trees begin with the terminal
abbrev pub HasBeginPlace : (Production → Type 0) → List Symbol → Terminal → ℕ → Option BeginPlace → Type 0
HasBeginPlace G ss t from None = HasNoRest G ss (BeginsWith t)
HasBeginPlace G ss t from (Some place) = IsBeginPlace G ss t from place
