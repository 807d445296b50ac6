use Rattle.std.proofs.Common.{◌≡◌, ◌++◌, drop, map}
use Rattle.lalrpop_grammar.specs.Views.{intern_entry_view}
use Rattle.lalrpop_norm_tyinfer.specs.TerminalTypes.{found_terminals, terminals_of_entries}
use Rattle.lalrpop_norm_tyinfer.proofs.terminals.add_entries.Given as goal

abbrev pub invariant-loop-entry : goal.invariant-loop-entry
invariant-loop-entry l =
    found_terminals l.found.items ++ terminals_of_entries (map intern_entry_view (drop l.entry-index l.entries))
    ≡ found_terminals l.fn.found.items ++ terminals_of_entries (map intern_entry_view l.entries)
