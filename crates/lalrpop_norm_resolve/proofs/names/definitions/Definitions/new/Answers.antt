use Rattle.std.proofs.Common.{◌≡◌, ◌∙◌, ◌||◌, ap, sym, arith, false}
use Rattle.std.specs.Prelude.{Bool}
use Rattle.lalrpop_grammar.specs.RulesLeft.{rules_left}
use Rattle.lalrpop_grammar.specs.Views.{grammar_view, nonterminal_view}
use Rattle.lalrpop_grammar.specs.WrittenGrammar.{rules_of}
use Rattle.lalrpop_grammar_language.specs.Enabled.{has_text}
use Rattle.lalrpop_grammar_rules.specs.RuleTable.{knows}
use Rattle.lalrpop_grammar_rules.proofs.BareNameLemmas.{names_on}
use Rattle.lalrpop_norm_resolve.specs.Searches.{macro_names, plain_names}
use Rattle.lalrpop_norm_resolve.proofs.RuleNameLemmas.{macro_front, plain_front}
use Rattle.lalrpop_norm_resolve.proofs.names.definitions.Definitions.new.Goals as goal

pub loop-rule-init : goal.loop-rule-init
loop-rule-init c =
    let all = rules_of (grammar_view c.args.grammar.now).items in
    let left = rules_left c.into_iter-rule-iterator.result in
    let same : left ≡ all = cc in
    record {
      plain = λ n.
          let none : knows c.new-plain.result n ≡ false = grind (arith, c.new-plain.ensures.empty) in
          ap (λ l. has_text n (plain_names l)) (sym same) ∙ sym (ap (λ (b : Bool). b || has_text n (plain_names left)) none);
      macros = λ n.
          let none : knows c.new-macros.result n ≡ false = grind (arith, c.new-macros.ensures.empty) in
          ap (λ l. has_text n (macro_names l)) (sym same) ∙ sym (ap (λ (b : Bool). b || has_text n (macro_names left)) none);
    }

pub loop-rule-preserved : goal.loop-rule-preserved
loop-rule-preserved c =
    let all = rules_of (grammar_view c.args.grammar.now).items in
    let left = rules_left c.loop-rule.rule-iterator in
    let rest = rules_left c.next.new.self in
    let r = nonterminal_view c.in-Some.rule.now in
    record {
      plain = λ n.
          names_on n (has_text n (plain_names all)) (knows c.loop-rule.plain n) (knows c.add_rule.new.plain n) _ (plain_names rest)
          (plain_names left) (ap plain_names c.in-Some.ensures.steps ∙ plain_front r rest) (c.loop-rule.invariant.plain n)
          (c.in_ok-add_rule.ensures.plain n);
      macros = λ n.
          names_on n (has_text n (macro_names all)) (knows c.loop-rule.macros n) (knows c.add_rule.new.macros n) _ (macro_names rest)
          (macro_names left) (ap macro_names c.in-Some.ensures.steps ∙ macro_front r rest) (c.loop-rule.invariant.macros n)
          (c.in_ok-add_rule.ensures.macros n);
    }
