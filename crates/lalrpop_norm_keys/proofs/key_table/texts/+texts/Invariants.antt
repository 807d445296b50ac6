use Rattle.std.proofs.Common.{◌≡◌, ◌++◌, ◌+◌, ◌*◌, map, drop, string_bytes}
use Rattle.std.specs.Prelude.{flat_map}
use Rattle.lalrpop_grammar_rules.specs.Views.{closed_view, closeds}
use Rattle.lalrpop_grammar_rules.proofs.SizeLemmas.{size, sizes}
use Rattle.lalrpop_norm_keys.specs.KeyTexts.{flat_key_texts}
use Rattle.lalrpop_norm_keys.proofs.key_table.texts.+texts.Given as goal

abbrev pub decreases-push_text : goal.decreases-push_text
decreases-push_text l = 3 * size (closed_view l.symbol.now)

abbrev pub decreases-push_call : goal.decreases-push_call
decreases-push_call l = 3 * sizes (closeds (map closed_view l.args.now)) + 2

abbrev pub decreases-push_group : goal.decreases-push_group
decreases-push_group l = 3 * sizes (closeds (map closed_view l.symbols.now)) + 2

abbrev pub decreases-push_repeated : goal.decreases-push_repeated
decreases-push_repeated l = 3 * size (closed_view l.inside.now) + 1

abbrev pub decreases-push_chosen : goal.decreases-push_chosen
decreases-push_chosen l = 3 * size (closed_view l.inside.now) + 1

abbrev pub decreases-push_named : goal.decreases-push_named
decreases-push_named l = 3 * size (closed_view l.inside.now) + 1

abbrev pub decreases-push_others : goal.decreases-push_others
decreases-push_others l = 3 * sizes (closeds (map closed_view l.symbols.now)) + 1

abbrev pub invariant-push_others-loop-symbol : goal.invariant-push_others-loop-symbol
invariant-push_others-loop-symbol l =
    string_bytes l.text ++ flat_map (λ t. l.separator ++ t) (flat_key_texts (closeds (map closed_view (drop l.symbol-index l.symbols))))
    ≡ string_bytes l.fn.text ++ flat_map (λ t. l.separator ++ t) (flat_key_texts (closeds (map closed_view l.symbols)))
