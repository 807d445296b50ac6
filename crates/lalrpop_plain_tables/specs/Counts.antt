-- How many states and conflicts a grammar has for a start: for what the program counts.
use Rattle.std.specs.Prelude.{◌≡◌, ℕ, false, List, [], length}
use Rattle.lalrpop_grammar_symbols.specs.declared.names.NonterminalString.{NonterminalString}
use Rattle.lalrpop_grammar_repr.specs.declared.grammar.Grammar.{Grammar}
use Rattle.lalrpop_grammar_repr.specs.declared.terminal_set.TerminalSet.{TerminalSet}
use Rattle.lalrpop_lr1_core.specs.Views.{nil_lookahead}
use Rattle.lalrpop_lr1_core.specs.declared.state.State.{State}
use Rattle.lalrpop_lr1_build.specs.BuiltStates.{AreBuiltStates}
use Rattle.lalrpop_lr1_build.specs.CollapseAnswers.{AreCollapsedStates}
use Rattle.lalrpop_sets.specs.declared.nil.Nil.{Nil}
use Rattle.lalrpop_plain_tables.specs.declared.answers.canonical.Canonical.{Canonical}
use Rattle.lalrpop_plain_tables.specs.declared.answers.counts.Counts.{Counts}

-- the canonical states are put together to so many
pub record AreCollapsedSoMany (ts : TerminalSet) (built : List (State (List ℕ))) (count : ℕ) : Type 0 where
  pub collapsed : List (State (List ℕ))
  pub are : AreCollapsedStates ts built collapsed
  pub number : count ≡ length collapsed

-- the grammar has so many states without lookaheads
pub record AreWithoutSoMany (g : Grammar) (start : NonterminalString) (count : ℕ) : Type 0 where
  pub states : List (State Nil)
  pub are : AreBuiltStates (λ n. []) nil_lookahead false (λ x. ⊥) g start states
  pub number : count ≡ length states

-- so many states and conflicts there are where these are the canonical states
pub record AreSoMany (g : Grammar) (start : NonterminalString) (canonical : Canonical) (counts : Counts) : Type 0 where
  pub canonical_are : counts.canonical ≡ length canonical.states.items
  pub collapsed_are : AreCollapsedSoMany g.terminals canonical.states.items counts.collapsed
  pub without_are : AreWithoutSoMany g start counts.without
  pub conflicts_are : counts.conflicts ≡ canonical.conflicts
