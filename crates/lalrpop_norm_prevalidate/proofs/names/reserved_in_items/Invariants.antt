use Rattle.std.proofs.Common.{◌≡◌, map, drop}
use Rattle.std.specs.Prelude.{flat_map}
use Rattle.lalrpop_grammar.specs.Views.{item_view}
use Rattle.lalrpop_norm_prevalidate.specs.Names.{first_reserved, names_in_item}
use Rattle.lalrpop_norm_prevalidate.proofs.names.reserved_in_items.Given as goal

abbrev pub invariant-loop-item : goal.invariant-loop-item
invariant-loop-item l =
    first_reserved l.prefix (flat_map names_in_item (map item_view (drop l.item-index l.items)))
    ≡ first_reserved l.prefix (flat_map names_in_item (map item_view l.items))
