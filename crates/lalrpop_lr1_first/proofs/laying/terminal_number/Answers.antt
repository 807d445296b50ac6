use Rattle.std.proofs.Common.{◌∙◌, ◌<◌, ap, sym, arith, length}
use Rattle.std.specs.Option.{option_copied}
use Rattle.std.proofs.lemmas.Option.{slice_get_within}
use Rattle.lalrpop_lr1_first.proofs.laying.terminal_number.Goals as goal

pub returns-clause-at : goal.returns-clause-at
returns-clause-at c =
    c.requires.places c.in-Some.number.now c.args.terminal.now (sym c.get.ensures ∙ ap option_copied c.in-Some.is)

pub returns-clause-small : goal.returns-clause-small
returns-clause-small c =
    let within : c.in-Some.number.now < length c.args.terminals.now.all =
    slice_get_within c.args.terminals.now.all c.in-Some.number.now c.args.terminal.now (returns-clause-at c) in
    omega (arith, within, c.terminal_count-count.ensures.count, c.terminal_count-count.ensures.small)
