use Rattle.std.proofs.Common.{◌≡◌, ◌+◌, ◌∙◌, ap, sym, zero-add}
use Rattle.lalrpop_grammar.specs.RulesLeft.{rules_left}
use Rattle.lalrpop_grammar.specs.Views.{grammar_view, nonterminal_view}
use Rattle.lalrpop_grammar.specs.WrittenGrammar.{rules_of}
use Rattle.lalrpop_norm_theory.specs.LevelNames.{times_taken}
use Rattle.lalrpop_norm_precedence.specs.GivenNames.{once_more}
use Rattle.lalrpop_norm_precedence.proofs.TakenLemmas.{taken_on}
use Rattle.lalrpop_norm_macros.specs.OrderedNames.{rule_text, rule_texts}
use Rattle.lalrpop_norm_macros.specs.TextTimes.{times_of_texts}
use Rattle.lalrpop_norm_macros.proofs.key_names.names.texts_of_rules.Goals as goal

pub loop-rule-init : goal.loop-rule-init
loop-rule-init c =
    let all = rules_of (grammar_view c.args.grammar.now).items in
    let left = rules_left c.into_iter-rule-iterator.result in
    let same : left ≡ all = cc in
    λ t. ap (λ f. f t + times_taken t (rule_texts left)) c.new-taken.ensures
    ∙ zero-add (times_taken t (rule_texts left))
    ∙ ap (λ l. times_taken t (rule_texts l)) same

pub loop-rule-preserved : goal.loop-rule-preserved
loop-rule-preserved c =
    let all = rules_of (grammar_view c.args.grammar.now).items in
    let r = nonterminal_view c.in-Some.rule.now in
    let old = times_of_texts c.loop-rule.taken in
    let text : c.in_ok-text.text ≡ rule_text r.parameters r.name = c.in_ok-text.ensures ∙ c.text_of_rule.ensures in
    λ t. taken_on t (rule_text r.parameters r.name) old (times_of_texts c.take.new.self) (times_taken t (rule_texts all))
    (rule_texts (rules_left c.next.new.self))
    (c.in_ok-take.ensures.taken ∙ ap (λ n. once_more n old) text)
    (ap (λ l. old t + times_taken t (rule_texts l)) (sym c.in-Some.ensures.steps) ∙ c.loop-rule.invariant t)
