-- Terminals that are numbered by their places, as a grammar's are: under which numbers and terminals say the same.
use Rattle.std.specs.Prelude.{◌≡◌, ◌+◌, ◌≤◌, ℕ, List, All, Some, true, slice_get}
use Rattle.lalrpop_grammar_symbols.specs.declared.terminal.TerminalString.{TerminalString}
use Rattle.lalrpop_grammar_repr.specs.Maps.{at_terminal}
use Rattle.lalrpop_grammar_repr.specs.declared.terminal_set.TerminalSet.{TerminalSet}
use Rattle.lalrpop_sets.specs.AscendingLists.{has}
use Rattle.lalrpop_sets.specs.Tokens.{eof_number}
use Rattle.lalrpop_lr1_core.specs.declared.state.State.{State}

-- each terminal has its place as its number
abbrev pub IsNumberedByPlaces : TerminalSet → Type 0
IsNumberedByPlaces ts = (k : ℕ) (t : TerminalString) → slice_get ts.all k ≡ Some t → at_terminal t ts.bits ≡ Some k

-- each number that is given to a terminal is its place
abbrev pub NumbersArePlaces : TerminalSet → Type 0
NumbersArePlaces ts = (k : ℕ) (t : TerminalString) → at_terminal t ts.bits ≡ Some k → slice_get ts.all k ≡ Some t

-- the set holds numbers of tokens alone
abbrev pub IsOverTokens : TerminalSet → List ℕ → Type 0
IsOverTokens ts s = (k : ℕ) → has s k ≡ true → k ≤ eof_number ts + 1

-- the sets of a state's reductions hold numbers of tokens alone
abbrev pub ReducesOverTokens : TerminalSet → State (List ℕ) → Type 0
ReducesOverTokens ts state = All (λ r. IsOverTokens ts r.0) state.reductions
