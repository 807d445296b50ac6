use Rattle.std.proofs.Common.{◌≡◌, map, drop}
use Rattle.lalrpop_grammar_language.specs.Closing.{are_sound}
use Rattle.lalrpop_grammar_rules.specs.Views.{closed_view, closeds}
use Rattle.lalrpop_grammar_rules.proofs.closed.closed_symbol.+sound.Given as goal

abbrev pub invariant-sound_symbols-loop-symbol : goal.invariant-sound_symbols-loop-symbol
invariant-sound_symbols-loop-symbol l =
    are_sound (closeds (map closed_view l.symbols)) ≡ are_sound (closeds (map closed_view (drop l.symbol-index l.symbols)))
