use Rattle.std.proofs.Common.{arith, ◌≡◌, [], Option, None, ap, sym, ◌∙◌}
use Rattle.lalrpop_grammar.specs.RulesLeft.{rules_left}
use Rattle.lalrpop_grammar.specs.Views.{grammar_view, nonterminal_view}
use Rattle.lalrpop_grammar.specs.WrittenGrammar.{rules_of}
use Rattle.lalrpop_grammar_rules.specs.Details.{Kept}
use Rattle.lalrpop_grammar_rules.specs.RuleTable.{entry_with_rules, rule_entry_at, rules_named_in}
use Rattle.lalrpop_grammar_rules.proofs.NameLemmas.{only_of-append, one_rule_added}
use Rattle.lalrpop_grammar_rules.proofs.table.named_rules.Goals as goal

pub loop-rule-init : goal.loop-rule-init
loop-rule-init c = λ n.
    let f = c.args.features.now in
    let none : rule_entry_at f c.new-by_name.result n ≡ None = grind (arith, c.new-by_name.ensures.empty) in
    let same : rules_left c.into_iter-rule-iterator.result ≡ rules_of (grammar_view c.args.grammar.now).items = cc in
    ap (λ (e : Option (Option Kept)). entry_with_rules e (rules_named_in f (rules_left c.into_iter-rule-iterator.result) n)) none
    ∙ ap (λ l. entry_with_rules None (rules_named_in f l n)) same
    ∙ sym (only_of-append [] (rules_named_in f (rules_of (grammar_view c.args.grammar.now).items) n))

pub loop-rule-preserved : goal.loop-rule-preserved
loop-rule-preserved c = λ n.
    one_rule_added c.args.features.now c.loop-rule.by_name c.add_enabled.new.by_name (rules_left c.loop-rule.rule-iterator)
    (rules_left c.next.new.self) (nonterminal_view c.in-Some.rule.now) n c.in-Some.ensures.steps
    (c.in_ok-add_enabled.ensures n) ∙ c.loop-rule.invariant n
