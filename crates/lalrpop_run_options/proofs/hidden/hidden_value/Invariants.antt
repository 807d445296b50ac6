use Rattle.std.proofs.Common.{◌≡◌, drop}
use Rattle.clap.specs.Walk.{texts}
use Rattle.lalrpop_run_options.specs.Hidden.{parts_of_line, value_among}
use Rattle.lalrpop_run_options.proofs.HiddenLemmas.{value_from}
use Rattle.lalrpop_run_options.proofs.hidden.hidden_value.Given as goal

abbrev pub invariant-loop-word : goal.invariant-loop-word
invariant-loop-word l =
    value_from l.option l.place (texts (drop l.word-index l.line)) ≡ value_among l.option (parts_of_line (texts l.line))
