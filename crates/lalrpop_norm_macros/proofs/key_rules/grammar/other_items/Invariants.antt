use Rattle.std.proofs.Common.{◌≡◌, ◌++◌, map}
use Rattle.std.specs.Vec.Iter.{into_iter_items}
use Rattle.lalrpop_grammar.specs.Views.{item_view}
use Rattle.lalrpop_norm_macros.specs.RuleItems.{other_items}
use Rattle.lalrpop_norm_macros.proofs.key_rules.grammar.other_items.Given as goal

abbrev pub invariant-loop-item : goal.invariant-loop-item
invariant-loop-item l =
    map item_view l.kept ++ other_items (map item_view (into_iter_items l.item-iterator)) ≡ other_items (map item_view l.fn.items)
