use Rattle.std.specs.Prelude.{option_map}
use Rattle.std.proofs.lemmas.Result.{err_from_is_err_and}
use Rattle.lalrpop_grammar.specs.Views.{condition_view}
use Rattle.lalrpop_grammar_symbols.specs.Subsymbols.{subsymbols_of}
use Rattle.lalrpop_grammar_symbols.specs.SymbolWalks.{symbols_view}
use Rattle.lalrpop_norm_theory.specs.NameFaults.{name_fault_of_condition, name_faults_in}
use Rattle.lalrpop_norm_resolve.specs.NameViews.{scope_names, scope_parameters}
use Rattle.lalrpop_norm_resolve.proofs.FaultListLemmas.{fault_in_front}
use Rattle.lalrpop_norm_resolve.proofs.names.faults.check_alternative.Goals as goal

pub returns-in_err-check_symbols : goal.returns-in_err-check_symbols
returns-in_err-check_symbols c =
    let s = c.args.scope.now in
    let p = err_from_is_err_and c.from_residual.result c.from_residual.ensures.1 in
    rw (p.1, p.2)
    (fault_in_front (name_faults_in (scope_names s) (scope_parameters s) (subsymbols_of (symbols_view c.args.alternative.now.expr)))
    (name_fault_of_condition (scope_parameters s) (option_map condition_view c.args.alternative.now.condition)) _
    (rw c.as_slice.ensures at c.in_err-check_symbols.ensures))
