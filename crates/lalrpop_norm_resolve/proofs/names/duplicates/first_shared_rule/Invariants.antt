use Rattle.std.proofs.Common.{◌≡◌, ◌||◌}
use Rattle.lalrpop_grammar.specs.RulesLeft.{rules_left}
use Rattle.lalrpop_grammar.specs.Views.{grammar_view}
use Rattle.lalrpop_grammar_rules.specs.RuleTable.{knows}
use Rattle.lalrpop_norm_resolve.specs.Searches.{first_known, first_shared_rule}
use Rattle.lalrpop_norm_resolve.proofs.names.duplicates.first_shared_rule.Given as goal

abbrev pub invariant-loop-rule : goal.invariant-loop-rule
invariant-loop-rule l =
    first_known (λ r. r.name) (λ n. knows l.definitions.bares n || knows l.seen n) (rules_left l.rule-iterator)
    ≡ first_shared_rule (grammar_view l.definitions.grammar.now)
