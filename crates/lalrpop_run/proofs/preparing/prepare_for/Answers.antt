use Rattle.std.proofs.Common.{◌∙◌, ◌++◌, ap, subst, sym}
use Rattle.std.proofs.lemmas.Result.{err_from_is_err_and}
use Rattle.lalrpop_grammar_symbols.specs.Symbols.{Text}
use Rattle.lalrpop_grammar.specs.declared.grammar.Grammar.{Grammar}
use Rattle.lalrpop_grammar.specs.Views.{grammar_view}
use Rattle.lalrpop_grammar_repr.specs.declared.session.Session.{Session}
use Rattle.lalrpop_norm_theory.specs.Premises.{IsReadGrammar}
use Rattle.lalrpop_run.specs.Parsers.{IsPreparedFor}
use Rattle.lalrpop_run_prepare.specs.PrepareRefusals.{IsPrepareRefusal}
use Rattle.lalrpop_run_prepare.specs.PreparedGrammars.{PreparedGrammar}
use Rattle.lalrpop_run.specs.Questions.{question_view}
use Rattle.lalrpop_run_prepare.specs.Refused.{IsGrammarRefusal}
use Rattle.lalrpop_run.proofs.preparing.prepare_for.Goals as goal

pub returns-clause-prepared : goal.returns-clause-prepared
returns-clause-prepared c = λ read.
    let is = c.in_ok-prepared.ensures in
    subst (λ (p : PreparedGrammar). IsPreparedFor (question_view c.args.question) c.args.grammar p) (sym c.in_ok-boxed.ensures.ok)
    (record {
      written_is = is.written;
      features_are = ap (λ (s : Session). s.features.items) is.session;
      limit_is = ap (λ (s : Session). s.macro_recursion_limit) is.session;
      start_is = is.start;
      name_is = c.known.ensures.prefixed ∙ ap (λ (w : Grammar). w.prefix ++ c.in_ok-prepared.prepared.start) is.written
          ∙ ap (λ (s : Text). c.args.grammar.prefix ++ s) is.start;
      prepared = c.known.ensures.prepared (subst (λ (w : Grammar). IsReadGrammar (grammar_view w)) (sym is.written) read);
    })

pub returns-in_err-prepared-clause-refused : goal.returns-in_err-prepared-clause-refused
returns-in_err-prepared-clause-refused c =
    let p = err_from_is_err_and c.from_residual.result c.from_residual.ensures.1 in
    rw (p.1, p.2) c.in_err-prepared.ensures.refused

pub returns-in_err-boxed-clause-refused : goal.returns-in_err-boxed-clause-refused
returns-in_err-boxed-clause-refused c =
    let p = err_from_is_err_and c.from_residual-in_err-boxed.result c.from_residual-in_err-boxed.ensures.1 in
    rw p.1 (λ read. IsPrepareRefusal.before (IsGrammarRefusal.memory p.2))
