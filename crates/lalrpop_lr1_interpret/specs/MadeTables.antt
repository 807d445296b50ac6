-- A table whose lists are the entries of states, by numbers: for making a table of states.
use Rattle.std.specs.Prelude.{ℕ, ◌≡◌, List, length, map, flat_map}
use Rattle.lalrpop_grammar_repr.specs.declared.terminal_set.TerminalSet.{TerminalSet}
use Rattle.lalrpop_lr1_core.specs.declared.state.State.{State}
use Rattle.lalrpop_lr1_interpret.specs.Numbers.{HaveOneNumber}
use Rattle.lalrpop_lr1_interpret.specs.Rows.{AreActionsOf, AreNumberedProductions, AreNumbersOf, AreRowsOf, end_productions, goto_entries}
use Rattle.lalrpop_lr1_interpret.specs.Rows.{terminal_entries}
use Rattle.lalrpop_lr1_interpret.specs.declared.parse.action_table.ActionTable.{ActionTable}

-- its rows, keys, actions, ends, gotos are those of the states
pub record IsMadeOf (table : ActionTable) (ts : TerminalSet) (states : List (State (List ℕ))) : Type 0 where
  pub rows : AreRowsOf ts states table.rows.items
  pub count : length table.rows.items ≡ length states
  pub keys : AreNumbersOf table.terminals.keys (map (λ e. e.0) (flat_map (terminal_entries ts) states)) table.keys.items
  pub actions : AreActionsOf table.nonterminals.keys (map (λ e. e.1) (flat_map (terminal_entries ts) states)) table.actions.items
  pub ends : AreNumberedProductions table.nonterminals.keys (flat_map (end_productions ts) states) table.ends.items
  pub goto_keys : AreNumbersOf table.nonterminals.keys (map (λ e. e.0) (flat_map goto_entries states)) table.goto_keys.items
  pub targets : table.targets.items ≡ map (λ e. e.1) (flat_map goto_entries states)
  pub one_terminal : HaveOneNumber table.terminals.keys
  pub one_nonterminal : HaveOneNumber table.nonterminals.keys
