use Rattle.std.proofs.Common.{subst}
use Rattle.std.proofs.lemmas.Result.{err_from_is_err_and}
use Rattle.lalrpop_grammar.specs.Views.{grammar_view}
use Rattle.lalrpop_norm_resolve.specs.FoundFaults.{IsNameFault}
use Rattle.lalrpop_norm_resolve.proofs.LawLemmas.{items_fault, items_right, items_value}
use Rattle.lalrpop_norm_resolve.proofs.names.resolving.resolved_items_of.Goals as goal

pub returns-in_err-check_rule_names-clause-fault : goal.returns-in_err-check_rule_names-clause-fault
returns-in_err-check_rule_names-clause-fault c =
    let r = c.from_residual-in_err-check_rule_names in
    let p = err_from_is_err_and r.result r.ensures.1 in
    rw (p.1, p.2)
    (subst (λ g. IsNameFault (grammar_view g) c.in_err-check_rule_names.field-0.0) c.in_ok-definitions.ensures
    c.in_err-check_rule_names.ensures.fault)

pub returns-clause-value : goal.returns-clause-value
returns-clause-value c =
    items_value c.resolved_items.result c.in_ok-definitions.definitions.grammar.now c.args.grammar.now c.as_slice.result.now
    c.in_ok-definitions.ensures c.as_slice.ensures c.resolved_items.ensures.value

pub returns-clause-right : goal.returns-clause-right
returns-clause-right c =
    items_right c.resolved_items.result c.in_ok-definitions.definitions.grammar.now c.args.grammar.now c.as_slice.result.now
    c.in_ok-definitions.ensures c.as_slice.ensures c.in_ok-check_rule_names.ensures.right c.resolved_items.ensures.right

pub returns-clause-fault : goal.returns-clause-fault
returns-clause-fault c =
    items_fault c.resolved_items.result c.in_ok-definitions.definitions.grammar.now c.args.grammar.now c.as_slice.result.now
    c.in_ok-definitions.ensures c.as_slice.ensures c.resolved_items.ensures.fault
