use Rattle.std.proofs.lemmas.Result.{IfErr-weaker, IfOk-weaker, err_from_is_err_and}
use Rattle.lalrpop_grammar.specs.Views.{grammar_view}
use Rattle.lalrpop_grammar_rules.specs.Search.{finds, is_too_deep}
use Rattle.lalrpop_norm_token_check.specs.KeptPlaces.{first_places}
use Rattle.lalrpop_norm_chain.specs.LoweredViews.{lowered_view}
use Rattle.lalrpop_norm.proofs.PassedLemmas.{entries_decided, levels_told, macros_told, names_told, normalized_given}
use Rattle.lalrpop_norm.proofs.PassedLemmas.{nothing_stands, rest_told}
use Rattle.lalrpop_norm.proofs.ToldLemmas.{check_told}
use Rattle.lalrpop_norm.proofs.normalizing.normalize_with_dfa.Goals as goal

pub returns-in_err-validate-clause-refused : goal.returns-in_err-validate-clause-refused
returns-in_err-validate-clause-refused c =
    let p = err_from_is_err_and c.from_residual.result c.from_residual.ensures.1 in
    rw (p.1, p.2) (λ fit. check_told finds is_too_deep c.args.session.now.features.items
    c.args.session.now.macro_recursion_limit (grammar_view c.args.grammar) c.in_err-validate.field-0.0 c.in_err-validate.ensures.err)

pub returns-in_err-resolved-clause-refused : goal.returns-in_err-resolved-clause-refused
returns-in_err-resolved-clause-refused c =
    let p = err_from_is_err_and c.from_residual-in_err-resolved.result c.from_residual-in_err-resolved.ensures.1 in
    rw (p.1, p.2) (λ fit. names_told finds is_too_deep c.args.session.now.features.items
    c.args.session.now.macro_recursion_limit (grammar_view c.args.grammar) (grammar_view c.in_ok-enabled.enabled)
    c.in_err-resolved.field-0.0 c.in_ok-validate.ensures.ok c.in_ok-enabled.ensures c.in_err-resolved.ensures.fault)

pub returns-in_err-leveled-clause-refused : goal.returns-in_err-leveled-clause-refused
returns-in_err-leveled-clause-refused c =
    let p = err_from_is_err_and c.from_residual-in_err-leveled.result c.from_residual-in_err-leveled.ensures.1 in
    rw (p.1, p.2) (λ fit. levels_told c.args.session.now.features.items (grammar_view c.args.grammar)
    (grammar_view c.in_ok-enabled.enabled) (grammar_view c.in_ok-resolved.resolved) (record {
      checks = c.in_ok-validate.ensures.ok;
      dropped = c.in_ok-enabled.ensures;
      value = c.in_ok-resolved.ensures.value;
      right = c.in_ok-resolved.ensures.right;
    }) finds is_too_deep c.args.session.now.macro_recursion_limit c.in_err-leveled.field-0.0 c.in_err-leveled.ensures.fault)

pub returns-in_err-expanded-clause-refused : goal.returns-in_err-expanded-clause-refused
returns-in_err-expanded-clause-refused c =
    let p = err_from_is_err_and c.from_residual-in_err-expanded.result c.from_residual-in_err-expanded.ensures.1 in
    rw (p.1, p.2) (λ fit. macros_told c.args.session.now.features.items (grammar_view c.args.grammar)
    (grammar_view c.in_ok-enabled.enabled) (grammar_view c.in_ok-resolved.resolved) (record {
      checks = c.in_ok-validate.ensures.ok;
      dropped = c.in_ok-enabled.ensures;
      value = c.in_ok-resolved.ensures.value;
      right = c.in_ok-resolved.ensures.right;
    }) (grammar_view c.in_ok-leveled.leveled) c.in_ok-leveled.ensures.right finds (c.in_ok-leveled.ensures.value finds) fit
    is_too_deep c.args.session.now.macro_recursion_limit c.in_err-expanded.field-0.0 c.in_err-expanded.ensures.fault)

pub returns-clause-given : goal.returns-clause-given
returns-clause-given c =
    IfOk-weaker c.finish_expanded.result _ _ (λ made h fit. normalized_given
    c.args.session.now.features.items (grammar_view c.args.grammar)
    (grammar_view c.in_ok-enabled.enabled) (grammar_view c.in_ok-resolved.resolved) (record {
      checks = c.in_ok-validate.ensures.ok;
      dropped = c.in_ok-enabled.ensures;
      value = c.in_ok-resolved.ensures.value;
      right = c.in_ok-resolved.ensures.right;
    }) (grammar_view c.in_ok-leveled.leveled) c.in_ok-leveled.ensures.right finds (c.in_ok-leveled.ensures.value finds) fit
    (grammar_view c.in_ok-expanded.expanded) c.in_ok-expanded.ensures.made c.in_ok-expanded.ensures.items
    (lowered_view made.0) h) c.finish_expanded.ensures.given

pub returns-clause-decides : goal.returns-clause-decides
returns-clause-decides c =
    IfOk-weaker c.finish_expanded.result _ _ (λ made h fit. entries_decided
    c.args.session.now.features.items (grammar_view c.args.grammar)
    (grammar_view c.in_ok-enabled.enabled) (grammar_view c.in_ok-resolved.resolved) (record {
      checks = c.in_ok-validate.ensures.ok;
      dropped = c.in_ok-enabled.ensures;
      value = c.in_ok-resolved.ensures.value;
      right = c.in_ok-resolved.ensures.right;
    }) (grammar_view c.in_ok-leveled.leveled) c.in_ok-leveled.ensures.right finds (c.in_ok-leveled.ensures.value finds) fit
    (grammar_view c.in_ok-expanded.expanded) c.in_ok-expanded.ensures.made c.in_ok-expanded.ensures.items
    (lowered_view made.0) made.1 h) c.finish_expanded.ensures.decides

pub returns-clause-none : goal.returns-clause-none
returns-clause-none c =
    IfOk-weaker c.finish_expanded.result _ _ (λ made h fit. nothing_stands
    c.args.session.now.features.items (grammar_view c.args.grammar)
    (grammar_view c.in_ok-enabled.enabled) (grammar_view c.in_ok-resolved.resolved) (record {
      checks = c.in_ok-validate.ensures.ok;
      dropped = c.in_ok-enabled.ensures;
      value = c.in_ok-resolved.ensures.value;
      right = c.in_ok-resolved.ensures.right;
    }) (grammar_view c.in_ok-leveled.leveled) c.in_ok-leveled.ensures.right finds (c.in_ok-leveled.ensures.value finds) fit
    (grammar_view c.in_ok-expanded.expanded) c.in_ok-expanded.ensures.made c.in_ok-expanded.ensures.items
    is_too_deep c.args.session.now.macro_recursion_limit c.in_ok-expanded.ensures.right (first_places c.in_ok-places.places)
    c.in_ok-places.ensures h) c.finish_expanded.ensures.none

pub returns-clause-refused : goal.returns-clause-refused
returns-clause-refused c =
    IfErr-weaker c.finish_expanded.result _ _ (λ fault h fit. rest_told
    c.args.session.now.features.items (grammar_view c.args.grammar)
    (grammar_view c.in_ok-enabled.enabled) (grammar_view c.in_ok-resolved.resolved) (record {
      checks = c.in_ok-validate.ensures.ok;
      dropped = c.in_ok-enabled.ensures;
      value = c.in_ok-resolved.ensures.value;
      right = c.in_ok-resolved.ensures.right;
    }) (grammar_view c.in_ok-leveled.leveled) c.in_ok-leveled.ensures.right finds (c.in_ok-leveled.ensures.value finds) fit
    (grammar_view c.in_ok-expanded.expanded) c.in_ok-expanded.ensures.made c.in_ok-expanded.ensures.items
    is_too_deep c.args.session.now.macro_recursion_limit c.in_ok-expanded.ensures.right (first_places c.in_ok-places.places)
    c.in_ok-places.ensures fault h) c.finish_expanded.ensures.refused
