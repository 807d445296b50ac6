use Rattle.std.proofs.Common.{refl, subst}
use Rattle.std.proofs.lemmas.Result.{err_from_is_err_and}
use Rattle.lalrpop_grammar.specs.Views.{grammar_view}
use Rattle.lalrpop_grammar.specs.declared.grammar.Grammar.{Grammar}
use Rattle.lalrpop_grammar_rules.specs.Search.{finds, is_too_deep}
use Rattle.lalrpop_norm_theory.specs.Premises.{IsReadGrammar}
use Rattle.lalrpop_run_prepare.specs.PrepareRefusals.{IsPrepareRefusal}
use Rattle.lalrpop_run_prepare.proofs.PrepareLemmas.{prepared_where_read, start_refused}
use Rattle.lalrpop_run_prepare.proofs.preparing.parts_of.Goals as goal
use Rattle.lalrpop_run_prepare.specs.Refused.{IsGrammarRefusal}
use Rattle.lalrpop_run_prepare.specs.Tokenizers.{IsNormalizedFor}

pub returns-in_err-made-clause-refused : goal.returns-in_err-made-clause-refused
returns-in_err-made-clause-refused c =
    let p = err_from_is_err_and c.from_residual-in_err-made.result c.from_residual-in_err-made.ensures.1 in
    let refused =
    subst (λ (g : Grammar). IsReadGrammar (grammar_view g)
    → IsGrammarRefusal finds is_too_deep c.args.session.now.features.items c.args.session.now.macro_recursion_limit c.args.start.now
    (grammar_view g) c.in_err-made.field-0.0) c.in_ok-copy.ensures c.in_err-made.ensures.refused in
    rw (p.1, p.2) (λ read. IsPrepareRefusal.before (refused read))

pub returns-in_err-expanded-clause-refused : goal.returns-in_err-expanded-clause-refused
returns-in_err-expanded-clause-refused c =
    let p = err_from_is_err_and c.from_residual-in_err-expanded.result c.from_residual-in_err-expanded.ensures.1 in
    let normal =
    subst (λ (g : Grammar). IsReadGrammar (grammar_view g)
    → IsNormalizedFor finds is_too_deep c.args.session.now.features.items c.args.session.now.macro_recursion_limit c.args.start.now
    (grammar_view g) c.in_ok-made.made c.in_ok-made.dfa) c.in_ok-copy.ensures c.in_ok-made.ensures.made in
    rw (p.1, p.2) (λ read. start_refused finds is_too_deep c.args.session.now.features.items c.args.session.now.macro_recursion_limit
    c.args.start.now (grammar_view c.args.grammar.now) c.in_ok-made.made c.in_ok-made.dfa read (normal read) c.in_ok-made.ensures.ready
    c.known.ensures c.args.grammar.now.span c.in_err-expanded.field-0.0 refl c.in_err-expanded.ensures.refused)

pub returns-in_err-scanner-clause-refused : goal.returns-in_err-scanner-clause-refused
returns-in_err-scanner-clause-refused c =
    let p = err_from_is_err_and c.from_residual-in_err-scanner.result c.from_residual-in_err-scanner.ensures.1 in
    rw p.1 (λ read. IsPrepareRefusal.before (IsGrammarRefusal.memory p.2))

pub returns-in_err-own_start-clause-refused : goal.returns-in_err-own_start-clause-refused
returns-in_err-own_start-clause-refused c =
    let p = err_from_is_err_and c.from_residual-in_err-own_start.result c.from_residual-in_err-own_start.ensures.1 in
    rw p.1 (λ read. IsPrepareRefusal.before (IsGrammarRefusal.memory p.2))

pub returns-clause-prepared : goal.returns-clause-prepared
returns-clause-prepared c =
    let normal =
    subst (λ (g : Grammar). IsReadGrammar (grammar_view g)
    → IsNormalizedFor finds is_too_deep c.args.session.now.features.items c.args.session.now.macro_recursion_limit c.args.start.now
    (grammar_view g) c.in_ok-made.made c.in_ok-made.dfa) c.in_ok-copy.ensures c.in_ok-made.ensures.made in
    prepared_where_read finds is_too_deep _ c.in_ok-made.made c.in_ok-made.dfa c.args.start.now refl refl c.in_ok-own_start.ensures
    c.in_ok-expanded.ensures.name c.in_ok-expanded.ensures.terminals c.in_ok-expanded.ensures.parsed
    c.in_ok-expanded.ensures.none c.in_ok-expanded.ensures.inlined c.in_ok-made.ensures.ready c.known.ensures normal c.in_ok-scanner.ensures
