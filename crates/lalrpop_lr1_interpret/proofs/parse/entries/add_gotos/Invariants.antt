use Rattle.std.proofs.Common.{◌≡◌, ◌++◌, map}
use Rattle.lalrpop_lr1_interpret.specs.Rows.{goto_entries, goto_entry, goto_entry_view}
use Rattle.lalrpop_lr1_interpret.proofs.parse.entries.add_gotos.Given as goal

abbrev pub invariant-loop-nonterminal : goal.invariant-loop-nonterminal
invariant-loop-nonterminal l =
    map goto_entry_view l.entries.items ++ map goto_entry l.nonterminal-iterator
    ≡ map goto_entry_view l.initial.entries.items ++ goto_entries l.state
