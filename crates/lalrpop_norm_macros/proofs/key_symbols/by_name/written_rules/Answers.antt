use Rattle.std.proofs.Common.{arith, ◌≡◌, None, ap, sym, ◌∙◌}
use Rattle.lalrpop_grammar.specs.RulesLeft.{rules_left}
use Rattle.lalrpop_grammar.specs.Views.{grammar_view, nonterminal_view}
use Rattle.lalrpop_grammar.specs.WrittenGrammar.{rules_of}
use Rattle.lalrpop_norm_macros.specs.WrittenRules.{first_written, or_rule, written_at}
use Rattle.lalrpop_norm_macros.proofs.WrittenLemmas.{or_nothing, written_on}
use Rattle.lalrpop_norm_macros.proofs.key_symbols.by_name.written_rules.Goals as goal

pub loop-rule-init : goal.loop-rule-init
loop-rule-init c = λ n.
    let none : written_at c.new-made.result n ≡ None = grind (arith, c.new-made.ensures.empty) in
    let same : rules_left c.into_iter-rule-iterator.result ≡ rules_of (grammar_view c.args.grammar.now).items = cc in
    ap (λ o. or_rule o (first_written n (rules_left c.into_iter-rule-iterator.result))) none ∙ ap (first_written n) same

pub loop-rule-preserved : goal.loop-rule-preserved
loop-rule-preserved c = λ n.
    written_on (written_at c.loop-rule.made n) (written_at c.put_rule.new.rules n) n (nonterminal_view c.in-Some.rule.now)
    (rules_left c.loop-rule.rule-iterator) (rules_left c.next.new.self) c.in-Some.ensures.steps (c.in_ok-put_rule.ensures n)
    ∙ c.loop-rule.invariant n

pub returns : goal.returns
returns c = λ n.
    sym (or_nothing (written_at c.loop-rule.made n))
    ∙ ap (λ l. or_rule (written_at c.loop-rule.made n) (first_written n l)) (sym c.in-None.ensures.steps.0) ∙ c.loop-rule.invariant n
