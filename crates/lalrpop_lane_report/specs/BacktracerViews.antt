-- What is seen of a tracer: its states, and the first sets and terminals of their grammar.
use Rattle.std.specs.Prelude.{ℕ, List}
use Rattle.lalrpop_grammar_symbols.specs.declared.names.NonterminalString.{NonterminalString}
use Rattle.lalrpop_grammar_repr.specs.declared.terminal_set.TerminalSet.{TerminalSet}
use Rattle.lalrpop_lr1_core.specs.declared.state.State.{State}

pub record BacktracerView : Type 0 where
  pub states : List (State (List ℕ))
  pub firsts : List (NonterminalString × List ℕ)
  pub terminals : TerminalSet
