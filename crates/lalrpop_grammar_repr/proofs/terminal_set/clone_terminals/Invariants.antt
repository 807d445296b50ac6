use Rattle.std.proofs.Common.{◌≡◌, take}
use Rattle.lalrpop_grammar_repr.proofs.terminal_set.clone_terminals.Given as goal

abbrev pub invariant-loop-terminal : goal.invariant-loop-terminal
invariant-loop-terminal l = l.copy ≡ take l.terminal-index l.terminals
