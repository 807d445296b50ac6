use Rattle.std.proofs.Common.{◌≡◌, ◌++◌, map, drop}
use Rattle.lalrpop_grammar.specs.Views.{match_item_view, item_view}
use Rattle.lalrpop_norm_prevalidate.specs.Entries.{entries_in_items}
use Rattle.lalrpop_norm_prevalidate.proofs.entries.entries_in.Given as goal

abbrev pub invariant-loop-item : goal.invariant-loop-item
invariant-loop-item l =
    entries_in_items (map item_view l.items)
    ≡ map (λ e. match_item_view e.now) l.entries.items ++ entries_in_items (map item_view (drop l.item-index l.items))
