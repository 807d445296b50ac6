use Rattle.lalrpop_grammar_symbols.specs.Subsymbols.{subsymbols_of}
use Rattle.lalrpop_grammar_symbols.specs.SubsymbolsLeft.{subsymbols_left}
use Rattle.lalrpop_grammar_symbols.specs.SymbolWalks.{symbols_view}
use Rattle.lalrpop_grammar_symbols.specs.Views.{symbol_view}
use Rattle.lalrpop_norm_theory.specs.NameFaults.{name_faults_in, own_name_fault}
use Rattle.std.proofs.lemmas.Result.{err_from_is_err_and}
use Rattle.lalrpop_norm_resolve.specs.NameViews.{scope_names, scope_parameters}
use Rattle.lalrpop_norm_resolve.proofs.FaultListLemmas.{fault_next, none_next}
use Rattle.lalrpop_norm_resolve.proofs.names.faults.check_symbols.Goals as goal

pub returns-in_err-check_symbol : goal.returns-in_err-check_symbol
returns-in_err-check_symbol c =
    let d = scope_names c.args.scope.now in
    let ps = scope_parameters c.args.scope.now in
    let p = err_from_is_err_and c.from_residual-in_err-check_symbol.result c.from_residual-in_err-check_symbol.ensures.1 in
    rw (p.1, p.2)
    (fault_next (own_name_fault d ps) (name_faults_in d ps (subsymbols_of (symbols_view c.args.symbols.now)))
    (subsymbols_left c.loop-symbol.symbol-iterator) (subsymbols_left c.next.new.self) (symbol_view c.in-Some.symbol.now) _
    c.in-Some.ensures.steps c.loop-symbol.invariant c.in_err-check_symbol.ensures)

pub loop-symbol-preserved : goal.loop-symbol-preserved
loop-symbol-preserved c =
    let d = scope_names c.args.scope.now in
    let ps = scope_parameters c.args.scope.now in
    none_next (own_name_fault d ps) (name_faults_in d ps (subsymbols_of (symbols_view c.args.symbols.now)))
    (subsymbols_left c.loop-symbol.symbol-iterator) (subsymbols_left c.next.new.self) (symbol_view c.in-Some.symbol.now)
    c.in-Some.ensures.steps c.loop-symbol.invariant c.in_ok-check_symbol.ensures
