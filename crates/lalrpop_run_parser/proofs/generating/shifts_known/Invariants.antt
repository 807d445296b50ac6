use Rattle.std.specs.List.{AllWithin}
use Rattle.std.specs.List.Sorted.{IsStrictlySortedBy}
use Rattle.std.specs.Map.{keys_of}
use Rattle.lalrpop_grammar_symbols.specs.contracts.terminal.TerminalStringOrd.TheImpl as terminal_order
use Rattle.lalrpop_run_parser.proofs.generating.shifts_known.Given as goal

abbrev pub invariant-loop-state : goal.invariant-loop-state
invariant-loop-state l =
    AllWithin (λ state. IsStrictlySortedBy (terminal_order.ghosts).cmp (keys_of state.shifts)) l.states 0 l.state-index
