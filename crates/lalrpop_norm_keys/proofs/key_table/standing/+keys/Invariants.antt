use Rattle.std.proofs.Common.{◌≡◌, ◌++◌, map, drop}
use Rattle.lalrpop_grammar_rules.specs.Views.{closed_view, closeds}
use Rattle.lalrpop_norm_theory.specs.KeyTables.{keys_in_all}
use Rattle.lalrpop_norm_keys.proofs.key_table.standing.+keys.Given as goal

abbrev pub invariant-note_keys_in-loop-symbol : goal.invariant-note_keys_in-loop-symbol
invariant-note_keys_in-loop-symbol l =
    map closed_view l.keys ++ keys_in_all (closeds (map closed_view (drop l.symbol-index l.symbols)))
    ≡ map closed_view l.fn.keys ++ keys_in_all (closeds (map closed_view l.symbols))
