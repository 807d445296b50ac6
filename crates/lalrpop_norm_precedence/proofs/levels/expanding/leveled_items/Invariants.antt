use Rattle.std.proofs.Common.{◌≡◌, ℕ, ◌++◌, map}
use Rattle.std.specs.Prelude.{flat_map}
use Rattle.std.specs.Vec.Iter.{into_iter_items}
use Rattle.lalrpop_grammar_symbols.specs.Symbols.{Text}
use Rattle.lalrpop_grammar.specs.Views.{item_view}
use Rattle.lalrpop_grammar.specs.WrittenGrammar.{rules_of}
use Rattle.lalrpop_norm_theory.specs.LeveledGrammar.{leveled_item}
use Rattle.lalrpop_norm_precedence.specs.LevelTables.{AreNamedLevels}
use Rattle.lalrpop_norm_precedence.proofs.levels.expanding.leveled_items.Given as goal

abbrev pub invariant-loop-item : goal.invariant-loop-item
invariant-loop-item l =
    (f : Text → ℕ → Text) → AreNamedLevels f (rules_of (map item_view l.fn.items)) l.tables
    → (map item_view l.made ++ flat_map (leveled_item f) (map item_view (into_iter_items l.item-iterator))
    ≡ flat_map (leveled_item f) (map item_view l.fn.items))
    × AreNamedLevels f (rules_of (map item_view (into_iter_items l.item-iterator))) l.left
