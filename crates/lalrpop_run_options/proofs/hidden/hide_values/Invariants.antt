use Rattle.std.proofs.Common.{◌≡◌, ◌++◌, drop}
use Rattle.clap.specs.Walk.{texts}
use Rattle.lalrpop_run_options.specs.Hidden.{hide_values}
use Rattle.lalrpop_run_options.proofs.HiddenLemmas.{shown_from}
use Rattle.lalrpop_run_options.proofs.hidden.hide_values.Given as goal

abbrev pub invariant-loop-word : goal.invariant-loop-word
invariant-loop-word l =
    texts l.shown.items ++ shown_from l.place (texts (drop l.word-index l.line)) ≡ hide_values (texts l.line)
