-- Computed: over the grammar of one production, 1 = '7', the moves along a path by '7' and 1, refused without the reduction and where
-- none are told; edges by numbers, none to a state that isn't there; the last edges and the steps of a table of three states.
use Rattle.std.proofs.Common.{◌≡◌, ℕ, List, [], ◌∷◌, ◌++◌, refl, Option, Some, None}
use Rattle.lalrpop_lr1_theory.specs.Productions.{Production, Symbol, nonterminal, terminal}
use Rattle.lalrpop_lr1_theory.specs.Trees.{Forest, Move, leaf, moves, node, none, reduce, roots, shift}
use Rattle.lalrpop_lr1_theory.proofs.ExampleLemmas.{name, production, quoted}
use Rattle.lalrpop_lr1_paths.specs.declared.state_paths.path_edges.NumberEdge.{NumberEdge}
use Rattle.lalrpop_lr1_paths.specs.NumberEdges.{edge_list}
use Rattle.lalrpop_lr1_paths.specs.PathForests.{HaveForestMoves}
use Rattle.lalrpop_lr1_paths.specs.PathTables.{last_edge_at}
use Rattle.lalrpop_lr1_paths.specs.ReversedGraphs.{start_goals, reversed_ends}

abbrev plain : Production
plain = production 0 (name 1) (terminal (quoted 7) ∷ [])

abbrev Grammar : Production → Type 0
Grammar p = p ≡ plain

-- the path's symbols, and trees over them
abbrev along : List Symbol
along = terminal (quoted 7) ∷ nonterminal (name 1) ∷ []

abbrev trees_along : Forest
trees_along = leaf (quoted 7) (node plain (leaf (quoted 7) none) none)

built : HaveForestMoves Grammar along (Some (shift (quoted 7) ∷ shift (quoted 7) ∷ reduce plain ∷ []))
built = record { trees = trees_along; over = (refl, refl, tt, tt); roots_are = refl; moves_are = refl }

-- refused: none are told though there are some
not_none : HaveForestMoves Grammar along None → ⊥
not_none lacks = lacks trees_along (refl, refl, tt, tt) refl

-- refused: the reduction left out
never_shift : (ms : List Move) (p : Production) → ms ++ reduce p ∷ [] ≡ shift (quoted 7) ∷ [] → ⊥
never_shift [] p e = cc
never_shift (m ∷ []) p e = cc
never_shift (m ∷ k ∷ ms) p e = cc

not_unfinished : HaveForestMoves Grammar along (Some (shift (quoted 7) ∷ shift (quoted 7) ∷ [])) → ⊥
not_unfinished f = go f.trees f.roots_are f.moves_are
  where
    go : (ts : Forest) → roots ts ≡ along → shift (quoted 7) ∷ shift (quoted 7) ∷ [] ≡ moves ts → ⊥
    go none e m = cc
    go (leaf t none) e m = cc
    go (leaf t (leaf u ts)) e m = cc
    go (leaf t (node p cs none)) e m =
        let rest : moves cs ++ reduce p ∷ [] ≡ shift (quoted 7) ∷ [] = cc in never_shift (moves cs) p rest
    go (leaf t (node p cs (leaf u ts))) e m = cc
    go (leaf t (node p cs (node q ds ts))) e m = cc
    go (node p cs ts) e m = cc

-- an edge by its numbers
abbrev by_numbers : ℕ → ℕ → ℕ → NumberEdge
by_numbers n s m = record { source = n; symbol = s; target = m }

told_edge : edge_list 3 0 (Some 1) 2 ≡ by_numbers 0 1 2 ∷ []
told_edge = refl

no_such_state : edge_list 2 0 (Some 1) 2 ≡ []
no_such_state = refl

no_such_symbol : edge_list 3 0 None 2 ≡ []
no_such_symbol = refl

reversed : reversed_ends (by_numbers 0 1 2) ≡ (2, 0)
reversed = refl

-- the goal is state 0, where there are states
goal_of_three : start_goals 3 ≡ record { node = 0; weight = 0 } ∷ []
goal_of_three = refl

goal_of_none : start_goals 0 ≡ []
goal_of_none = refl

-- state 1 is led to from state 0, and state 2 from state 1
abbrev steps : List (Option NumberEdge)
steps = None ∷ Some (by_numbers 0 1 1) ∷ Some (by_numbers 1 0 2) ∷ []

last_of_two : last_edge_at steps 2 ≡ Some (by_numbers 1 0 2)
last_of_two = refl

none_of_start : last_edge_at steps 0 ≡ None
none_of_start = refl

none_past_all : last_edge_at steps 3 ≡ None
none_past_all = refl
