use Rattle.std.proofs.Common.{◌≡◌, ◌++◌, drop}
use Rattle.lalrpop_norm_lower.specs.LoweredLists.{with_places}
use Rattle.lalrpop_norm_lower.proofs.terminals.places_of.Given as goal

abbrev pub invariant-loop-terminal : goal.invariant-loop-terminal
invariant-loop-terminal l = record {
  made : l.places.items ++ with_places l.place (drop l.terminal-index l.terminals) ≡ with_places 0 l.terminals;
  place : l.place ≡ l.terminal-index;
}
