use Rattle.lalrpop_run_options.proofs.AddedLemmas.{adds_three}
use Rattle.lalrpop_run_options.proofs.command.with_inputs.Goals as goal

pub returns : goal.returns
returns c = adds_three c.arg-3.result c.in_ok-arg.ensures c.start.ensures c.in_ok-arg-2.ensures c.option.ensures c.arg-3.ensures
    c.option-2.ensures
