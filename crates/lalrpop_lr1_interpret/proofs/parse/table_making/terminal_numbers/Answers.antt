use Rattle.lalrpop_lr1_interpret.proofs.RowLemmas.{none_has_two}
use Rattle.lalrpop_lr1_interpret.proofs.parse.table_making.terminal_numbers.Goals as goal

pub returns-clause-one : goal.returns-clause-one
returns-clause-one c =
    c.in_ok-keys.ensures.others.apart (none_has_two c.new-terminals.result.keys c.new-terminals.ensures.empty)
