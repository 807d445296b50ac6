use Rattle.std.proofs.lemmas.Result.{err_from_is_err_and}
use Rattle.lalrpop_grammar_symbols.specs.Subsymbols.{subsymbols_of}
use Rattle.lalrpop_grammar_symbols.specs.SubsymbolsLeft.{subsymbols_left}
use Rattle.lalrpop_grammar_symbols.specs.SymbolWalks.{symbols_view}
use Rattle.lalrpop_grammar_symbols.specs.Views.{symbol_view}
use Rattle.lalrpop_grammar_rules.specs.RuleTable.{rules_view}
use Rattle.lalrpop_norm_keys.specs.Arity.{arity_fault, arity_faults_of}
use Rattle.lalrpop_norm_keys.proofs.ArityLemmas.{arity_next, no_arity_next}
use Rattle.lalrpop_norm_keys.proofs.arity.check_symbols.Goals as goal

pub returns-in_err-check_symbol : goal.returns-in_err-check_symbol
returns-in_err-check_symbol c =
    let t = rules_view c.args.rules.now in
    let p = err_from_is_err_and c.from_residual-in_err-check_symbol.result c.from_residual-in_err-check_symbol.ensures.1 in
    rw (p.1, p.2)
    (arity_next (arity_fault t) (arity_faults_of t (subsymbols_of (symbols_view c.args.symbols.now)))
    (subsymbols_left c.loop-symbol.symbol-iterator) (subsymbols_left c.next.new.self) (symbol_view c.in-Some.symbol.now) _
    c.in-Some.ensures.steps c.loop-symbol.invariant c.in_err-check_symbol.ensures)

pub loop-symbol-preserved : goal.loop-symbol-preserved
loop-symbol-preserved c =
    let t = rules_view c.args.rules.now in
    no_arity_next (arity_fault t) (arity_faults_of t (subsymbols_of (symbols_view c.args.symbols.now)))
    (subsymbols_left c.loop-symbol.symbol-iterator) (subsymbols_left c.next.new.self) (symbol_view c.in-Some.symbol.now)
    c.in-Some.ensures.steps c.loop-symbol.invariant c.in_ok-check_symbol.ensures
