use Rattle.std.proofs.Common.{◌≡◌, ◌+◌, ◌∙◌, ap, sym, map, zero-add}
use Rattle.lalrpop_grammar.specs.RulesLeft.{rules_left}
use Rattle.lalrpop_grammar.specs.Views.{grammar_view, nonterminal_view}
use Rattle.lalrpop_grammar.specs.WrittenGrammar.{Rule, rules_of}
use Rattle.lalrpop_grammar_symbols.specs.Symbols.{Text}
use Rattle.std.specs.Prelude.{List}
use Rattle.lalrpop_norm_theory.specs.LevelNames.{times_taken}
use Rattle.lalrpop_norm_precedence.specs.TakenViews.{taken_times}
use Rattle.lalrpop_norm_precedence.proofs.TakenLemmas.{taken_on}
use Rattle.lalrpop_norm_precedence.proofs.level_names.names.rule_names.Goals as goal

abbrev names_in : List Rule → List Text
names_in rs = map (λ r. r.name) rs

pub loop-rule-init : goal.loop-rule-init
loop-rule-init c =
    let all = rules_of (grammar_view c.args.grammar.now).items in
    let left = rules_left c.into_iter-rule-iterator.result in
    let same : left ≡ all = cc in
    λ t. ap (λ f. f t + times_taken t (names_in left)) c.new-taken.ensures
    ∙ zero-add (times_taken t (names_in left))
    ∙ ap (λ l. times_taken t (names_in l)) same

pub loop-rule-preserved : goal.loop-rule-preserved
loop-rule-preserved c =
    let all = rules_of (grammar_view c.args.grammar.now).items in
    let r = nonterminal_view c.in-Some.rule.now in
    let old = taken_times c.loop-rule.taken in
    λ t. taken_on t r.name old (taken_times c.take.new.self) (times_taken t (names_in all)) (names_in (rules_left c.next.new.self))
    c.in_ok-take.ensures.taken
    (ap (λ l. old t + times_taken t (names_in l)) (sym c.in-Some.ensures.steps) ∙ c.loop-rule.invariant t)
