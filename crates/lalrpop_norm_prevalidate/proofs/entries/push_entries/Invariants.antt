use Rattle.std.proofs.Common.{◌≡◌, ◌++◌, map, drop}
use Rattle.lalrpop_grammar.specs.Views.{match_item_view}
use Rattle.lalrpop_norm_prevalidate.proofs.entries.push_entries.Given as goal

abbrev pub invariant-loop-entry : goal.invariant-loop-entry
invariant-loop-entry l =
    map (λ e. match_item_view e.now) l.fn.entries.items ++ map match_item_view l.group
    ≡ map (λ e. match_item_view e.now) l.entries.items ++ map match_item_view (drop l.entry-index l.group)
