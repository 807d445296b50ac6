use Rattle.std.proofs.Common.{◌∙◌, ap}
use Rattle.std.proofs.lemmas.Result.{IfOk-weaker}
use Rattle.clap.specs.Built.{IsPlain}
use Rattle.clap.specs.Simple.{app_of}
use Rattle.lalrpop_run_options.specs.Program.{IsProgram, input_rules, limit_rules, method_rules, program, with_rules}
use Rattle.lalrpop_run_options.proofs.command.command.Goals as goal

pub returns-clause-program : goal.returns-clause-program
unfolding program
returns-clause-program c =
    let first = c.in_ok-command.ensures in
    IfOk-weaker c.with_method.result _ (λ r. IsProgram (app_of r))
    (λ r added. (
      first.0,
      added.0,
      record { of_tasks = first.1; of_methods = added.1 },
      added.2.shape ∙ ap (with_rules (method_rules added.0)) (c.in_ok-command-3.ensures.shape
          ∙ ap (with_rules limit_rules) (c.in_ok-command-2.ensures.shape
          ∙ ap (with_rules input_rules) first.2)),
    ))
    c.with_method.ensures

pub returns-clause-plain : goal.returns-clause-plain
returns-clause-plain c =
    IfOk-weaker c.with_method.result _ IsPlain
    (λ r added. added.2.plain (c.in_ok-command-3.ensures.plain (c.in_ok-command-2.ensures.plain c.in_ok-command.ensures.3)))
    c.with_method.ensures
