use Rattle.std.proofs.Common.{◌≡◌, ◌||◌, drop}
use Rattle.lalrpop_grammar_symbols.specs.Symbols.{Text}
use Rattle.lalrpop_grammar_language.specs.Enabled.{has_text}
use Rattle.lalrpop_grammar_rules.specs.RuleTable.{bares_of_groups, knows}
use Rattle.lalrpop_grammar_rules.proofs.bares.add_groups.Given as goal

abbrev pub invariant-loop-group : goal.invariant-loop-group
invariant-loop-group l = (n : Text) →
    (knows l.fn.bares n || has_text n (bares_of_groups l.groups))
    ≡ (knows l.bares n || has_text n (bares_of_groups (drop l.group-index l.groups)))
