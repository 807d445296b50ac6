use Rattle.std.proofs.Common.{◌≡◌, ◌++◌, map}
use Rattle.std.specs.Prelude.{filter_map}
use Rattle.std.specs.Vec.Iter.{into_iter_items}
use Rattle.lalrpop_grammar.specs.Views.{item_view}
use Rattle.lalrpop_norm_theory.specs.Between.{enabled_item}
use Rattle.lalrpop_norm_resolve.proofs.enabling.enabled_items.Given as goal

abbrev pub invariant-loop-item : goal.invariant-loop-item
invariant-loop-item l =
    map item_view l.kept
    ++ filter_map (enabled_item l.session.features.items) (map item_view (into_iter_items l.item-iterator))
    ≡ filter_map (enabled_item l.session.features.items) (map item_view l.fn.items)
