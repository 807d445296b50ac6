use Rattle.std.proofs.lemmas.Result.{err_from_is_err_and}
use Rattle.lalrpop_grammar.specs.Views.{nonterminal_view}
use Rattle.lalrpop_norm_resolve.specs.NameViews.{definition_names}
use Rattle.lalrpop_norm_resolve.proofs.RuleListLemmas.{twice_in_rule}
use Rattle.lalrpop_norm_resolve.proofs.LawLemmas.{listed_in_scope}
use Rattle.lalrpop_norm_resolve.proofs.names.resolving.resolved_rule.Goals as goal

pub returns-in_err-check_rule-clause-fault : goal.returns-in_err-check_rule-clause-fault
returns-in_err-check_rule-clause-fault c =
    let p = err_from_is_err_and c.from_residual-in_err-check_rule.result c.from_residual-in_err-check_rule.ensures.1 in
    rw (p.1, p.2)
    (listed_in_scope c.in_ok-scope.scope c.args.definitions.now c.args.rule.now _ c.in_ok-scope.ensures.definitions
    c.in_ok-scope.ensures.rule c.in_err-check_rule.ensures)

pub returns-in_err-scope-clause-fault : goal.returns-in_err-scope-clause-fault
returns-in_err-scope-clause-fault c =
    let p = err_from_is_err_and c.from_residual.result c.from_residual.ensures.1 in
    rw (p.1, p.2)
    (twice_in_rule (definition_names c.args.definitions.now) (nonterminal_view c.args.rule.now) _ c.in_err-scope.ensures.fault)
