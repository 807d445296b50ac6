use Rattle.std.proofs.Common.{◌≡◌, ◌||◌, map}
use Rattle.lalrpop_grammar.specs.RulesLeft.{rules_left}
use Rattle.lalrpop_grammar.specs.Views.{grammar_view}
use Rattle.lalrpop_grammar_symbols.specs.Symbols.{Text}
use Rattle.lalrpop_grammar_language.specs.Enabled.{has_text}
use Rattle.lalrpop_grammar_rules.specs.RuleTable.{knows}
use Rattle.lalrpop_norm_tyinfer.specs.TypesByTable.{known_names}
use Rattle.lalrpop_norm_tyinfer.proofs.names.rule_names.Given as goal

abbrev pub invariant-loop-rule : goal.invariant-loop-rule
invariant-loop-rule l = (n : Text) → has_text n (known_names (grammar_view l.grammar)).rules
    ≡ (knows l.names n || has_text n (map (λ r. r.name) (rules_left l.rule-iterator)))
