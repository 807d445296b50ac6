use Rattle.std.proofs.Common.{◌≡◌, [], refl, sym, ◌∙◌, rules}
use Rattle.lalrpop_grammar_rules.specs.Details.{enabled_rule_view}
use Rattle.lalrpop_grammar_rules.specs.Scopes.{scope_view}
use Rattle.lalrpop_grammar_rules.proofs.CallLemmas.{call_refused, call_given, seen-Call, seen-Faulty}
use Rattle.lalrpop_grammar_rules.proofs.closed.closing.close_macro.Goals as goal

pub returns-then-len-clause-symbol : goal.returns-then-len-clause-symbol
returns-then-len-clause-symbol c =
    seen-Faulty ∙ call_refused (scope_view c.args.scope.now) c.args.before c.args.name.now
    (enabled_rule_view c.args.scope.now.rules.now.features.now c.in-Rule.rule.now)
    c.in-Rule.rule.now.written.now.args refl c.in-Rule.ensures.0 c.args.args.symbols
    (λ same. c.if-len.true (c.len.ensures ∙ same ∙ sym c.len-in-Rule.ensures))

pub returns-in_ok-symbols-in-Rule-clause-symbol : goal.returns-in_ok-symbols-in-Rule-clause-symbol
returns-in_ok-symbols-in-Rule-clause-symbol c =
    let some : c.in-Rule.rule.now.written.now.args ≡ [] → ⊥ = λ none. search (rules, none) in
    seen-Call c.in_ok-name-in-Rule.name c.in_ok-symbols-in-Rule.symbols c.level_carried-level.result
    ∙ rw (c.in_ok-name-in-Rule.ensures, c.in_ok-symbols-in-Rule.ensures)
    (call_given (scope_view c.args.scope.now) c.args.before c.args.name.now
    (enabled_rule_view c.args.scope.now.rules.now.features.now c.in-Rule.rule.now)
    c.in-Rule.rule.now.written.now.args refl c.in-Rule.ensures.0 c.args.args.symbols c.level_carried-level.result some
    (sym c.len.ensures ∙ c.if-len.false ∙ c.len-in-Rule.ensures) c.level_carried-level.ensures)
