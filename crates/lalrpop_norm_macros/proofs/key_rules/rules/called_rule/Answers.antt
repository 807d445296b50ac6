use Rattle.std.proofs.Common.{◌∙◌, ap, map, subst}
use Rattle.lalrpop_grammar.specs.Views.{nonterminal_view}
use Rattle.lalrpop_grammar_rules.specs.Details.{enabled_rule_view}
use Rattle.lalrpop_grammar_rules.specs.RuleTable.{rules_with}
use Rattle.lalrpop_grammar_rules.specs.Views.{binding_of, closed_view, closeds}
use Rattle.lalrpop_norm_macros.specs.RulesUnder.{IsInstanceRuleUnder}
use Rattle.lalrpop_norm_macros.specs.WrittenRules.{arguments_view}
use Rattle.lalrpop_grammar_symbols.proofs.BoolLemmas.{ok_from}
use Rattle.lalrpop_norm_macros.proofs.key_rules.rules.called_rule.Goals as goal

pub returns-clause-made : goal.returns-clause-made
returns-clause-made g c =
    let k = c.args.keys.now in
    ok_from _ _ c.instance_rule.result
    (λ made m. subst (λ as_. IsInstanceRuleUnder k.names.now (rules_with (g.F.Finder.finds c.args.finder.now) k.rules.now)
    (enabled_rule_view k.rules.now.features.now c.args.rule.now) (closeds (map closed_view c.args.args.now))
    (binding_of (c.args.rule.now.written.now).args c.args.args.now) as_ c.args.name.now (nonterminal_view c.args.written.now)
    (nonterminal_view made)) (ap arguments_view c.as_slice.ensures ∙ c.in_ok-arguments.ensures) m)
    c.instance_rule.ensures.made
