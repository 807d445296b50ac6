use Rattle.std.proofs.lemmas.Result.{IfOk-weaker}
use Rattle.lalrpop_run_options.proofs.AddedLemmas.{adds_two}
use Rattle.lalrpop_run_options.specs.Program.{IsMethodCommand}
use Rattle.lalrpop_run_options.proofs.command.with_method.Goals as goal

pub returns : goal.returns
returns c =
    let named = c.method.ensures in
    IfOk-weaker c.arg-2.result _ (IsMethodCommand c.args.command)
    (λ r added. (named.0, named.1, added))
    (adds_two c.arg-2.result c.in_ok-arg.ensures named.2 c.arg-2.ensures c.copies.ensures)
