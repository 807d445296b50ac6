use Rattle.lalrpop_grammar_symbols.specs.contracts.names.NonterminalStringPartialEq.TheImpl as names
use Rattle.lalrpop_lr1_interpret.proofs.NumberLemmas.{equal_nonterminals}
use Rattle.lalrpop_lr1_interpret.proofs.RowLemmas.{go_on_key}
use Rattle.lalrpop_lr1_interpret.proofs.parse.numbering.number_nonterminal.Goals as goal

pub returns-clause-others : goal.returns-clause-others
returns-clause-others c =
    go_on_key (names.ghosts).eq equal_nonterminals c.args.names.now.keys c.insert_full.new.self.keys c.in_ok-try_clone.field-0
    c.in_ok-number.ensures.keys c.in_ok-number.ensures.unique
