-- What comes next by a set of numbers: a terminal of the grammar's, or the end.
use Rattle.std.specs.Prelude.{◌≡◌, ◌≤◌, ℕ, true, List}
use Rattle.lalrpop_grammar_repr.specs.declared.terminal_set.TerminalSet.{TerminalSet}
use Rattle.lalrpop_lr1_theory.specs.Productions.{Next}
use Rattle.lalrpop_lr1_core.specs.Views.{next_of_number}
use Rattle.lalrpop_sets.specs.AscendingLists.{has}
use Rattle.lalrpop_sets.specs.Tokens.{eof_number}

abbrev pub IsNextIn : TerminalSet → List ℕ → Next → Type 0
IsNextIn ts s x = (k : ℕ) × (k ≤ eof_number ts) × (has s k ≡ true) × (next_of_number ts k ≡ x)
