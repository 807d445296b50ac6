use Rattle.std.proofs.Common.{◌∙◌, List, Option, ap, subst}
use Rattle.lalrpop_grammar_symbols.specs.declared.terminal.TerminalString.{TerminalString}
use Rattle.lalrpop_grammar_repr.specs.declared.grammar.Grammar.{Grammar}
use Rattle.lalrpop_lexer_scan.specs.declared.scanner.Scanner.{Scanner}
use Rattle.lalrpop_lr1_build.specs.CollapseAnswers.{states_over}
use Rattle.lalrpop_lr1_interpret.specs.Columns.{AreColumnsOf}
use Rattle.lalrpop_lr1_interpret.specs.Tables.{IsTableOf}
use Rattle.lalrpop_run_parser.proofs.generating.table_with_columns.Goals as goal

pub returns-clause-table : goal.returns-clause-table
returns-clause-table c =
    subst (λ (g : Grammar). IsTableOf c.in_ok-table.table (states_over g.terminals c.args.states.now)) c.expansion.ensures
    c.in_ok-table.ensures

pub returns-clause-columns : goal.returns-clause-columns
returns-clause-columns c =
    subst (λ (ts : List (Option TerminalString)). AreColumnsOf c.in_ok-table.table ts c.in_ok-columns.columns.numbers.items)
    (c.terminals.ensures ∙ ap (λ (s : Scanner). s.terminals.items) c.scanner.ensures) c.in_ok-columns.ensures
