use Rattle.std.proofs.Common.{◌≡◌, ◌++◌, map, drop}
use Rattle.lalrpop_grammar_symbols.specs.Symbols.{syms}
use Rattle.lalrpop_grammar_symbols.specs.Views.{symbol_view}
use Rattle.lalrpop_grammar_rules.specs.Views.{closed_view, closeds}
use Rattle.lalrpop_norm_keys.specs.MetKeys.{keys_met_in_row}
use Rattle.lalrpop_norm_keys.specs.Views.{met_view}
use Rattle.lalrpop_norm_keys.proofs.key_places.meeting.+meet.Given as goal

-- what is met in the others is still to come
abbrev pub invariant-note_keys_met-loop-symbol : goal.invariant-note_keys_met-loop-symbol
invariant-note_keys_met-loop-symbol l =
    map met_view l.met ++ keys_met_in_row (syms (map symbol_view (drop l.symbol-index l.symbols))) (closeds (map closed_view l.others))
    ≡ map met_view l.fn.met ++ keys_met_in_row (syms (map symbol_view l.symbols)) (closeds (map closed_view l.fn.closed))
