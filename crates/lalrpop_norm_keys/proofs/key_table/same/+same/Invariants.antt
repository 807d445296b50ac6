use Rattle.std.proofs.Common.{◌≡◌, ◌↔◌, map, drop}
use Rattle.lalrpop_grammar_rules.specs.Views.{closed_view, closeds}
use Rattle.lalrpop_norm_keys.proofs.key_table.same.+same.Given as goal

abbrev pub invariant-same_symbols-loop-x : goal.invariant-same_symbols-loop-x
invariant-same_symbols-loop-x l =
    (closeds (map closed_view l.xs) ≡ closeds (map closed_view l.ys))
    ↔ (closeds (map closed_view (drop l.x-index l.xs)) ≡ closeds (map closed_view l.others))
