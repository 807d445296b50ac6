use Rattle.std.proofs.Common.{◌≡◌, ◌||◌, false, map, drop}
use Rattle.lalrpop_grammar_symbols.specs.Symbols.{Text}
use Rattle.lalrpop_grammar_language.specs.Enabled.{has_text}
use Rattle.lalrpop_grammar_rules.specs.RuleTable.{knows}
use Rattle.lalrpop_norm_resolve.specs.Searches.{first_known}
use Rattle.lalrpop_norm_resolve.proofs.names.rule_names.known_parameters.Given as goal

abbrev pub invariant-loop-parameter : goal.invariant-loop-parameter
invariant-loop-parameter l = record {
  known : (n : Text) → has_text n (map (λ m. m.0) l.rule.args)
      ≡ (knows l.names n || has_text n (map (λ m. m.0) (drop l.parameter-index l.rule.args)));
  once : first_known (λ m. m) (knows l.names) (map (λ m. m.0) (drop l.parameter-index l.rule.args))
      ≡ first_known (λ m. m) (λ m. false) (map (λ m. m.0) l.rule.args);
}
