use Rattle.std.proofs.Common.{◌≡◌, ◌++◌, drop, map}
use Rattle.lalrpop_grammar.specs.Views.{item_view}
use Rattle.lalrpop_norm_tyinfer.specs.TerminalTypes.{found_terminals, terminals_of_items}
use Rattle.lalrpop_norm_tyinfer.proofs.terminals.add_items.Given as goal

abbrev pub invariant-loop-item : goal.invariant-loop-item
invariant-loop-item l =
    found_terminals l.found.items ++ terminals_of_items (map item_view (drop l.item-index l.items))
    ≡ found_terminals l.fn.found.items ++ terminals_of_items (map item_view l.items)
