use Rattle.std.proofs.Common.{◌≡◌, ap}
use Rattle.std.specs.Prelude.{option_map}
use Rattle.lalrpop_grammar.specs.Views.{alternative_view}
use Rattle.lalrpop_grammar_language.specs.Closing.{close_list, right_side}
use Rattle.lalrpop_grammar_language.specs.Enabled.{choice_of}
use Rattle.lalrpop_grammar_language.specs.Levels.{loosest}
use Rattle.lalrpop_grammar.specs.WrittenGrammar.{Origin}
use Rattle.lalrpop_grammar_rules.specs.Details.{Kept, enabled_rule_view}
use Rattle.lalrpop_grammar_rules.specs.Ranks.{rank_view}
use Rattle.lalrpop_grammar_rules.specs.Scopes.{scope_view}
use Rattle.lalrpop_grammar_rules.specs.RuleTable.{rules_with}
use Rattle.lalrpop_grammar_rules.specs.Views.{binding_of}
use Rattle.lalrpop_grammar_rules.proofs.ClosedListLemmas.{for_each, right_side_is}
use Rattle.lalrpop_grammar_rules.proofs.closed.closing.right_side.Goals as goal

pub returns : goal.returns
returns c =
    let t = c.args.rules.now in
    let s = c.scope_of-scope.result in
    let r = enabled_rule_view t.features.now c.args.rule.now in
    let b = binding_of c.args.rule.now.written.now.args c.args.args.now in
    let a = alternative_view c.args.choice.now.alternative.now in
    let k = option_map rank_view c.args.choice.now.rank in
    let loose : c.args.rule.now.loosest ≡ loosest r = ap (λ (q : Kept). q.1.1.0) c.requires.kept in
    let e = c.scope_of-scope.ensures in
    for_each c.close_each.result (close_list (scope_view s) 0 a.expr)
    (λ f. right_side (rules_with f t) r b (choice_of (Origin.start, a), k))
    (λ f. right_side_is t s r b a k c.args.rule.now.loosest c.args.choice.now.tighter c.in_ok-count.count e.rules
    (rw c.as_slice.ensures at e.binding) e.owner e.levels
    loose c.requires.tighter (rw (c.as_slice-symbols.ensures, c.as_slice.ensures) at c.in_ok-count.ensures) f)
    (rw c.as_slice-symbols.ensures at c.close_each.ensures)
