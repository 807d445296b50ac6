use Rattle.std.proofs.Common.{◌≡◌, ◌||◌, map, drop}
use Rattle.lalrpop_grammar_symbols.specs.Symbols.{Text}
use Rattle.lalrpop_grammar_language.specs.Enabled.{has_text}
use Rattle.lalrpop_grammar_rules.specs.RuleTable.{knows}
use Rattle.lalrpop_norm_precedence.proofs.level_names.names.parameter_names.Given as goal

abbrev pub invariant-loop-parameter : goal.invariant-loop-parameter
invariant-loop-parameter l =
    (n : Text) → has_text n (map (λ m. m.0) l.rule.args)
    ≡ (knows l.names n || has_text n (map (λ m. m.0) (drop l.parameter-index l.rule.args)))
