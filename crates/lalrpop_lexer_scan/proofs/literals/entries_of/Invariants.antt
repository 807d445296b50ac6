use Rattle.std.specs.Prelude.{flat_map}
use Rattle.lalrpop_grammar.specs.RulesLeft.{rules_left}
use Rattle.lalrpop_grammar.specs.Views.{grammar_view}
use Rattle.lalrpop_lexer_scan.specs.Literals.{first_span, uses_in_grammar, uses_in_rule}
use Rattle.lalrpop_lexer_scan.proofs.NotingLemmas.{NotesInAll}
use Rattle.lalrpop_lexer_scan.proofs.literals.entries_of.Given as goal

abbrev pub invariant-loop-rule : goal.invariant-loop-rule
invariant-loop-rule l =
    NotesInAll (first_span (uses_in_grammar (grammar_view l.grammar))) l.uses (flat_map uses_in_rule (rules_left l.rule-iterator))
