use Rattle.std.proofs.Common.{◌≡◌, ◌++◌}
use Rattle.lalrpop_grammar.specs.RulesLeft.{rules_left}
use Rattle.lalrpop_grammar.specs.Views.{grammar_view}
use Rattle.lalrpop_grammar.specs.WrittenGrammar.{rules_of}
use Rattle.lalrpop_norm_tyinfer.specs.TerminalTypes.{found_terminals, terminals_of_rules}
use Rattle.lalrpop_norm_tyinfer.proofs.terminals.add_rules.Given as goal

abbrev pub invariant-loop-rule : goal.invariant-loop-rule
invariant-loop-rule l =
    found_terminals l.found.items ++ terminals_of_rules (rules_left l.rule-iterator)
    ≡ found_terminals l.fn.found.items ++ terminals_of_rules (rules_of (grammar_view l.grammar).items)
