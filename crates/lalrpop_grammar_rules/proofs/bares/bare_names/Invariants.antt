use Rattle.std.proofs.Common.{◌≡◌, ◌||◌, drop}
use Rattle.lalrpop_grammar_symbols.specs.Symbols.{Text}
use Rattle.lalrpop_grammar_language.specs.Enabled.{has_text}
use Rattle.lalrpop_grammar_rules.specs.RuleTable.{bares_of_items, knows}
use Rattle.lalrpop_grammar_rules.proofs.bares.bare_names.Given as goal

abbrev pub invariant-loop-item : goal.invariant-loop-item
invariant-loop-item l = (n : Text) →
    has_text n (bares_of_items l.items) ≡ (knows l.bares n || has_text n (bares_of_items (drop l.item-index l.items)))
