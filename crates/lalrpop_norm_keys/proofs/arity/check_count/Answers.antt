use Rattle.std.proofs.Common.{◌∙◌, sym, refl, length}
use Rattle.std.proofs.lemmas.List.{length-map}
use Rattle.lalrpop_grammar_symbols.specs.Symbols.{list_of}
use Rattle.lalrpop_grammar_symbols.specs.SymbolWalks.{symbols_view}
use Rattle.lalrpop_grammar_symbols.specs.Views.{span_view}
use Rattle.lalrpop_grammar_symbols.specs.declared.names.NonterminalString.{NonterminalString}
use Rattle.lalrpop_grammar_language.specs.Enabled.{rules_named}
use Rattle.lalrpop_grammar_rules.specs.Details.{enabled_rule_view}
use Rattle.lalrpop_grammar_rules.specs.RuleTable.{rules_view}
use Rattle.lalrpop_norm_keys.proofs.ArityLemmas.{count_of_symbols, count_right, count_wrong}
use Rattle.lalrpop_norm_keys.proofs.arity.check_count.Goals as goal

pub returns-then-len-args : goal.returns-then-len-args
returns-then-len-args c =
    let t = c.args.rules.now in
    let ps = (c.in-Some.rule.now.written.now).args in
    count_right (rules_named (rules_view t) c.args.name.now) (enabled_rule_view t.features.now c.in-Some.rule.now)
    (length (list_of (symbols_view c.args.args.now))) (span_view c.args.span) c.in-Some.ensures.0
    (length-map ps (λ (n : NonterminalString). n.0) ∙ sym c.len.ensures ∙ c.if-len-args.true
    ∙ sym (count_of_symbols c.args.args.now))

pub returns : goal.returns
returns c =
    let t = c.args.rules.now in
    let ps = (c.in-Some.rule.now.written.now).args in (
      refl,
      count_wrong (rules_named (rules_view t) c.args.name.now) (enabled_rule_view t.features.now c.in-Some.rule.now)
          (length (list_of (symbols_view c.args.args.now))) (span_view c.args.span) c.in-Some.ensures.0
          (λ e. c.if-len-args.false
          (c.len.ensures ∙ sym (length-map ps (λ (n : NonterminalString). n.0)) ∙ e ∙ count_of_symbols c.args.args.now)),
    )
