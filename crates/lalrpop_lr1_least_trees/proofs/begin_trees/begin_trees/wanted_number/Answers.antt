use Rattle.std.proofs.Common.{◌∙◌, ◌+◌, ap, length}
use Rattle.lalrpop_lr1_first.specs.FirstNumbers.{name_count}
use Rattle.lalrpop_lr1_least_trees.proofs.WantedLemmas.{is_wanted}
use Rattle.lalrpop_lr1_least_trees.proofs.begin_trees.begin_trees.wanted_number.Goals as goal

pub returns : goal.returns
returns c =
    is_wanted c.args.table.now c.requires c.args.terminal.now c.in_ok-number.number
    (c.in_ok-number.ensures ∙ ap (λ ns. length ns + c.terminal_place.result) c.names.ensures
    ∙ ap (λ k. name_count c.args.table.now + k) c.terminal_place.ensures)
