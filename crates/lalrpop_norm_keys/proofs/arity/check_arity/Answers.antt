use Rattle.std.proofs.lemmas.Result.{err_from_is_err_and}
use Rattle.lalrpop_grammar.specs.RulesLeft.{rules_left}
use Rattle.lalrpop_grammar.specs.Views.{grammar_view, nonterminal_view}
use Rattle.lalrpop_grammar.specs.WrittenGrammar.{rules_of}
use Rattle.lalrpop_grammar_rules.specs.RuleTable.{rules_view}
use Rattle.lalrpop_norm_keys.specs.Arity.{arity_faults, arity_faults_in}
use Rattle.lalrpop_norm_keys.proofs.ArityLemmas.{arity_next, no_arity_next}
use Rattle.lalrpop_norm_keys.proofs.arity.check_arity.Goals as goal

pub returns-in_err-check_rule : goal.returns-in_err-check_rule
returns-in_err-check_rule c =
    let t = rules_view c.args.rules.now in
    let p = err_from_is_err_and c.from_residual.result c.from_residual.ensures.1 in
    rw (p.1, p.2)
    (arity_next (arity_faults_in t) (arity_faults t (rules_of (grammar_view c.args.grammar.now).items))
    (rules_left c.loop-rule.rule-iterator) (rules_left c.next.new.self) (nonterminal_view c.in-Some.rule.now) _
    c.in-Some.ensures.steps c.loop-rule.invariant c.in_err-check_rule.ensures)

pub loop-rule-preserved : goal.loop-rule-preserved
loop-rule-preserved c =
    let t = rules_view c.args.rules.now in
    no_arity_next (arity_faults_in t) (arity_faults t (rules_of (grammar_view c.args.grammar.now).items))
    (rules_left c.loop-rule.rule-iterator) (rules_left c.next.new.self) (nonterminal_view c.in-Some.rule.now)
    c.in-Some.ensures.steps c.loop-rule.invariant c.in_ok-check_rule.ensures
