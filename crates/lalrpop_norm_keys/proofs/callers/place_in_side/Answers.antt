use Rattle.std.proofs.Common.{IsTrue, ap, map, option_map, rules, ◌∙◌}
use Rattle.lalrpop_grammar.specs.Views.{alternative_view}
use Rattle.lalrpop_grammar_language.specs.Enabled.{choice_of}
use Rattle.lalrpop_grammar_rules.specs.Details.{enabled_rule_view}
use Rattle.lalrpop_grammar_rules.specs.Ranks.{rank_view}
use Rattle.lalrpop_grammar_rules.specs.RuleTable.{rules_with}
use Rattle.lalrpop_grammar_rules.specs.Views.{binding_of, closed_view}
use Rattle.lalrpop_norm_keys.proofs.CallerLemmas.{side_found}
use Rattle.lalrpop_norm_keys.proofs.callers.place_in_side.Goals as goal

pub returns-clause-place : goal.returns-clause-place
returns-clause-place g c = λ o.
    let stands : IsTrue c.in_ok-ask_condition.field-0 = search rules in
    side_found (rules_with (g.F.Finder.finds c.args.finder.now) c.args.rules.now)
    (enabled_rule_view c.args.rules.now.features.now c.args.rule.now)
    (binding_of c.args.rule.now.written.now.args c.args.args.now) (closed_view c.args.call.now)
    (choice_of (o, alternative_view c.args.choice.now.alternative.now), option_map rank_view c.args.choice.now.rank)
    (map closed_view c.as_slice-3.result.now) c.place_in_symbols.result
    (rw c.as_slice.ensures at (c.in_ok-ask_condition.ensures.exact.0 stands))
    (ap (map closed_view) c.as_slice-3.ensures ∙ c.in_ok-side.ensures (g.F.Finder.finds c.args.finder.now))
    (rw c.as_slice-2.ensures at c.place_in_symbols.ensures.place)
