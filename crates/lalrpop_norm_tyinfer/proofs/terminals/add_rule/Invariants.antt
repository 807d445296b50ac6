use Rattle.std.proofs.Common.{◌≡◌, ◌++◌, drop, map}
use Rattle.lalrpop_grammar.specs.Views.{alternative_view}
use Rattle.lalrpop_norm_tyinfer.specs.TerminalTypes.{found_terminals, terminals_of_alternatives}
use Rattle.lalrpop_norm_tyinfer.proofs.terminals.add_rule.Given as goal

abbrev pub invariant-loop-alternative : goal.invariant-loop-alternative
invariant-loop-alternative l =
    found_terminals l.found.items
    ++ terminals_of_alternatives (map alternative_view (drop l.alternative-index l.alternative-items))
    ≡ found_terminals l.fn.found.items ++ terminals_of_alternatives (map alternative_view l.alternative-items)
