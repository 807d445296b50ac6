use Rattle.std.proofs.Common.{take}
use Rattle.std.specs.Fmt.{HasWritten, IsPlainFormatter}
use Rattle.std.specs.Prelude.{codes}
use Rattle.lalrpop_grammar_symbols.specs.Texts.{join_texts}
use Rattle.lalrpop_grammar_symbols.specs.Parts.{texts_of_symbols}
use Rattle.lalrpop_json_grammar.proofs.printing.write_arguments.Given as goal

abbrev pub invariant-loop-i : goal.invariant-loop-i
invariant-loop-i g l =
    IsPlainFormatter l.initial.f
    → HasWritten g.W.Write.write_str_gives l.initial.f (join_texts (codes ", ") (texts_of_symbols (take l.i l.args))) l.f
