use Rattle.std.proofs.Common.{take}
use Rattle.std.specs.Fmt.{HasWritten, IsPlainFormatter}
use Rattle.lalrpop_grammar_symbols.specs.Texts.{join_texts}
use Rattle.lalrpop_grammar_symbols.specs.Parts.{texts_of_symbols}
use Rattle.lalrpop_grammar_symbols.proofs.texts.+texts.Given as goal

abbrev pub invariant-write_symbols-loop-i : goal.invariant-write_symbols-loop-i
invariant-write_symbols-loop-i g l =
    IsPlainFormatter l.initial.f
    → HasWritten g.W.Write.write_str_gives l.initial.f (join_texts l.separator (texts_of_symbols (take l.i l.symbols))) l.f
