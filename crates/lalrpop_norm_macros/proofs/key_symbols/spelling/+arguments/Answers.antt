use Rattle.std.proofs.Common.{◌∙◌, ap}
use Rattle.lalrpop_grammar_symbols.specs.Views.{span_view, symbol_view}
use Rattle.lalrpop_grammar_rules.specs.Views.{closed_view}
use Rattle.lalrpop_grammar_rules.proofs.CallLemmas.{seen-Call}
use Rattle.lalrpop_norm_macros.specs.WrittenRules.{spelled_in}
use Rattle.lalrpop_norm_macros.proofs.ArgumentLemmas.{group_argument, key_argument, seen-Group}
use Rattle.lalrpop_norm_macros.proofs.key_symbols.spelling.+arguments.Goals as goal

pub argument-returns-in_ok-args-in-Call : goal.argument-returns-in_ok-args-in-Call
argument-returns-in_ok-args-in-Call t c =
    key_argument (spelled_in c.args.rules.now) (closed_view c.args.symbol.now) c.in-Call.name c.in_ok-spelled-in-Call.spelled c.in-Call.args
    c.in-Call.field-2 c.in_ok-args-in-Call.args (symbol_view c.call_argument.result)
    (ap closed_view c.in-Call.is ∙ seen-Call c.in-Call.name c.in-Call.args c.in-Call.field-2) c.in_ok-spelled-in-Call.ensures
    (rw c.as_slice.ensures at c.in_ok-args-in-Call.ensures) c.call_argument.ensures

pub argument-returns-in_ok-symbols-in-Group : goal.argument-returns-in_ok-symbols-in-Group
argument-returns-in_ok-symbols-in-Group t c =
    group_argument (spelled_in c.args.rules.now) (closed_view c.args.symbol.now) c.in-Group.symbols c.in_ok-symbols-in-Group.symbols
    (symbol_view c.group_at.result) (span_view c.args.span) (ap closed_view c.in-Group.is ∙ seen-Group c.in-Group.symbols)
    c.group_at.ensures (rw c.as_slice-in-Group.ensures at c.in_ok-symbols-in-Group.ensures)
