-- To which states edges lead, by their numbers: for the states that are asked what they bring.
use Rattle.std.specs.Prelude.{ℕ, List, ◌++◌, map}
use Rattle.lalrpop_grammar_symbols.specs.declared.names.NonterminalString.{NonterminalString}
use Rattle.lalrpop_grammar_symbols.specs.declared.terminal.TerminalString.{TerminalString}
use Rattle.lalrpop_lr1_core.specs.declared.state.State.{State}
use Rattle.lalrpop_lr1_core.specs.declared.state_index.StateIndex.{StateIndex}

abbrev pub shift_target : TerminalString × StateIndex → ℕ
shift_target e = e.1.0

abbrev pub goto_target : NonterminalString × StateIndex → ℕ
goto_target e = e.1.0

-- where a state leads
abbrev pub targets_of_state : {L : Type 0} → State L → List ℕ
targets_of_state state = map shift_target state.shifts ++ map goto_target state.gotos
