use Rattle.std.proofs.Common.{◌≡◌, ◌++◌, map, option_map}
use Rattle.std.specs.Vec.Iter.{into_iter_items}
use Rattle.lalrpop_grammar_symbols.specs.Views.{terminal_view}
use Rattle.lalrpop_run_prepare.proofs.TokenEntryLemmas.{terminals_in}
use Rattle.lalrpop_run_prepare.proofs.tokens.entries.terminals_of.Given as goal

abbrev pub invariant-loop-entry : goal.invariant-loop-entry
invariant-loop-entry l =
    map (option_map terminal_view) l.found.items ++ terminals_in (into_iter_items l.entry-iterator) ≡ terminals_in l.fn.entries
