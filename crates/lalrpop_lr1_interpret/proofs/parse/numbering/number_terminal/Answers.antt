use Rattle.lalrpop_grammar_symbols.specs.contracts.terminal.TerminalStringPartialEq.TheImpl as names
use Rattle.lalrpop_lr1_interpret.proofs.NumberLemmas.{equal_terminals}
use Rattle.lalrpop_lr1_interpret.proofs.RowLemmas.{go_on_key}
use Rattle.lalrpop_lr1_interpret.proofs.parse.numbering.number_terminal.Goals as goal

pub returns-clause-others : goal.returns-clause-others
returns-clause-others c =
    go_on_key (names.ghosts).eq equal_terminals c.args.names.now.keys c.insert_full.new.self.keys c.in_ok-try_clone.field-0
    c.in_ok-number.ensures.keys c.in_ok-number.ensures.unique
