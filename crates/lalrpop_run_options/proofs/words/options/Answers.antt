use Rattle.std.proofs.Common.{◌∙◌, ap, ap₂, subst, sym}
use Rattle.std.proofs.lemmas.Result.{err_from_is_err_and}
use Rattle.clap.specs.Faults.{fault_of, is_simple_and_free}
use Rattle.clap.specs.Kinds.{HasKind}
use Rattle.clap.specs.Simple.{is_simple, matches_of}
use Rattle.clap.specs.Walk.{texts}
use Rattle.lalrpop_run_options.proofs.CompleteLemmas.{complete}
use Rattle.lalrpop_run_options.proofs.ProgramLemmas.{program_is_free, program_is_simple, refuses_by, some_methods, some_tasks}
use Rattle.lalrpop_run_options.proofs.ProgramLemmas.{some_words}
use Rattle.lalrpop_run_options.specs.Options.{AreOptionsOf}
use Rattle.lalrpop_run_options.proofs.words.options.Goals as goal

pub read-requires : goal.read-requires
read-requires c =
    complete c.in_ok-command.command c.in_ok-matches.matches c.in_ok-command.ensures.program c.in_ok-command.ensures.plain
    c.in_ok-matches.ensures.parsed

pub returns-in_err-shown-clause-rules : goal.returns-in_err-shown-clause-rules
returns-in_err-shown-clause-rules c =
    let p = err_from_is_err_and c.from_residual.result c.from_residual.ensures.1 in
    rw (p.1, p.2) (some_tasks, some_methods, some_words, tt)

pub returns-in_err-command-clause-rules : goal.returns-in_err-command-clause-rules
returns-in_err-command-clause-rules c =
    let p = err_from_is_err_and c.from_residual-in_err-command.result c.from_residual-in_err-command.ensures.1 in
    rw (p.1, p.2) (some_tasks, some_methods, some_words, tt)

pub returns-in_err-matches-clause-rules : goal.returns-in_err-matches-clause-rules
returns-in_err-matches-clause-rules c =
    let is = c.in_ok-command.ensures.program in
    let words = ap texts c.as_slice.ensures.value ∙ c.in_ok-shown.ensures in
    let kinds = c.in_err-matches.ensures.kinds (ap is_simple_and_free is.3 ∙ program_is_free is.0 is.1) in
    let by = subst (λ k. HasKind k c.in_err-matches.field-0.0) (ap₂ fault_of is.3 words) kinds in
    let p = err_from_is_err_and c.from_residual-in_err-matches.result c.from_residual-in_err-matches.ensures.1 in
    rw p.1 (is.0, is.1, is.2, refuses_by _ _ p.0 by p.2)

pub returns-clause-rules : goal.returns-clause-rules
returns-clause-rules c =
    let is = c.in_ok-command.ensures.program in
    let words = ap texts c.as_slice.ensures.value ∙ c.in_ok-shown.ensures in
    let none = c.in_ok-matches.ensures.kinds (ap is_simple_and_free is.3 ∙ program_is_free is.0 is.1) in
    let rows = c.in_ok-matches.ensures.matches (ap is_simple is.3 ∙ program_is_simple is.0 is.1) in (
      is.0,
      is.1,
      is.2,
      (
        sym (ap₂ fault_of is.3 words) ∙ none,
        subst (λ l. AreOptionsOf (texts c.args.words.now) l c.in_ok-read.field-0) (rows.0 ∙ ap₂ matches_of is.3 words)
            c.in_ok-read.ensures,
      ),
    )
