use Rattle.std.proofs.Common.{◌≡◌, Some, slice_get}
use Rattle.std.specs.List.{All}
use Rattle.lalrpop_plain_tables.proofs.answers.own_terminals.are_places.Given as goal

abbrev pub invariant-loop-terminal : goal.invariant-loop-terminal
invariant-loop-terminal l =
    All (λ e. slice_get l.terminals.all e.1 ≡ Some e.0) l.terminal-iterator
    → All (λ e. slice_get l.terminals.all e.1 ≡ Some e.0) l.terminals.bits
