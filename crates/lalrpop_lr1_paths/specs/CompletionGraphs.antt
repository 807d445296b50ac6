-- What the graphs of steps keep: for those who search completions by them.
use Rattle.std.specs.Prelude.{ℕ, List, ◌≡◌, Option, Some, slice_get}
use Rattle.lalrpop_grammar_symbols.specs.Symbols.{Text}
use Rattle.lalrpop_grammar_repr.specs.declared.grammar.Grammar.{Grammar}
use Rattle.lalrpop_lr1_theory.specs.Productions as theory
use Rattle.lalrpop_lr1_theory.specs.States.{State, HasItem}
use Rattle.lalrpop_lr1_first.specs.FirstNumbers.{name_count}
use Rattle.lalrpop_lr1_first.specs.FirstSetsOf.{IsProductionOf}
use Rattle.lalrpop_lr1_first.specs.NumberedGrammars.{IsNumberTableOf}
use Rattle.lalrpop_lr1_first.specs.declared.numbered.Numbered.{Numbered}
use Rattle.lalrpop_lr1_paths.specs.GraphPaths.{GoalsAreBelow}
use Rattle.lalrpop_lr1_paths.specs.Graphs.{IsGraph, graph_edges, graph_node_count}
use Rattle.lalrpop_lr1_paths.specs.declared.graph_paths.graph.Goal.{Goal}
use Rattle.lalrpop_lr1_least_trees.specs.GrammarTrees.{symbols_by}
use Rattle.lalrpop_lr1_paths.specs.PathTables.{AreStatePaths, last_steps}
use Rattle.lalrpop_lr1_paths.specs.CompletionSteps.{AreEmptyEdges, AreListedEdges, AreCompletionSteps, AreStepEdges, IsCompletionNode}
use Rattle.lalrpop_lr1_paths.specs.declared.completion_steps.completion_graphs.CompletionGraphs.{CompletionGraphs}

-- the grammar by numbers
abbrev pub ways_table : CompletionGraphs → Numbered
ways_table it = it.paths.now.trees.now.table

-- the graphs have an edge for each step, and for each of the listed ones, and the goals are at nodes of theirs
pub record AreCompletionGraphs (it : CompletionGraphs) : Type 0 where
  pub paths : AreStatePaths it.paths.now
  pub any_graph : IsGraph it.any
  pub any : AreStepEdges it.steps.items (graph_edges it.any)
  pub empty_graph : IsGraph it.empty
  pub empty : AreListedEdges it.steps.items it.empties.items (graph_edges it.empty)
  pub goals : GoalsAreBelow (graph_node_count it.any) it.goals.items
  pub nodes : graph_node_count it.empty ≡ graph_node_count it.any

-- some goal is at the start in state 0, and all are
pub record AreEndGoals (symbol_at : ℕ → Option theory.Symbol) (names : ℕ) (s : Text) (goals : List Goal) : Type 0 where
  pub number : ℕ
  pub goal : Goal
  pub there : slice_get goals number ≡ Some goal
  pub each : (k : ℕ) (other : Goal) → slice_get goals k ≡ Some other → IsCompletionNode symbol_at names other.node 0 s

-- The steps are those over the items of the grammar's states, and those with an edge of their own behind whose nonterminals nothing may
-- come; and they end at the start in state 0.
pub record AreCompletions (g : Grammar) (s : Text) (states : List State) (it : CompletionGraphs) : Type 0 where
  pub of : IsNumberTableOf g (ways_table it)
  pub steps : AreCompletionSteps (IsProductionOf g) states (last_steps it.paths.now) (symbols_by (ways_table it)) (name_count (ways_table it))
      (HasItem states) it.steps.items
  pub empty : AreEmptyEdges (IsProductionOf g) it.steps.items it.empties.items (graph_edges it.empty)
  pub end : AreEndGoals (symbols_by (ways_table it)) (name_count (ways_table it)) s it.goals.items
