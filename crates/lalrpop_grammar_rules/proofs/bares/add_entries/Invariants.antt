use Rattle.std.proofs.Common.{◌≡◌, ◌||◌, drop}
use Rattle.lalrpop_grammar_symbols.specs.Symbols.{Text}
use Rattle.lalrpop_grammar_language.specs.Enabled.{has_text}
use Rattle.lalrpop_grammar_rules.specs.RuleTable.{bares_of_entries, knows}
use Rattle.lalrpop_grammar_rules.proofs.bares.add_entries.Given as goal

abbrev pub invariant-loop-entry : goal.invariant-loop-entry
invariant-loop-entry l = (n : Text) →
    (knows l.fn.bares n || has_text n (bares_of_entries l.entries))
    ≡ (knows l.bares n || has_text n (bares_of_entries (drop l.entry-index l.entries)))
