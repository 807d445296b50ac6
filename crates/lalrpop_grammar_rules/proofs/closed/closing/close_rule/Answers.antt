use Rattle.std.proofs.Common.{refl, rules, ◌∙◌}
use Rattle.lalrpop_grammar_rules.specs.Details.{enabled_rule_view}
use Rattle.lalrpop_grammar_rules.specs.Scopes.{scope_view}
use Rattle.lalrpop_grammar_rules.proofs.CallLemmas.{name_refused, seen-Faulty}
use Rattle.lalrpop_grammar_rules.proofs.closed.closing.close_rule.Goals as goal

pub returns-then-not-is_empty : goal.returns-then-not-is_empty
returns-then-not-is_empty c =
    seen-Faulty ∙ name_refused (scope_view c.args.scope.now) c.args.before c.args.name.now
    (enabled_rule_view c.args.scope.now.rules.now.features.now c.in-Rule.rule.now)
    c.in-Rule.rule.now.written.now.args refl c.in-Rule.ensures.0 (λ none. search (rules, none))
