use Rattle.std.proofs.Common.{◌≡◌, ◌++◌, map, drop}
use Rattle.std.specs.Prelude.{flat_map}
use Rattle.lalrpop_grammar.specs.Views.{match_item_view}
use Rattle.lalrpop_norm_prevalidate.proofs.entries.push_groups.Given as goal

abbrev pub invariant-loop-group : goal.invariant-loop-group
invariant-loop-group l =
    map (λ e. match_item_view e.now) l.fn.entries.items
    ++ flat_map (λ es. es) (map (λ c. map match_item_view c.items) l.groups)
    ≡ map (λ e. match_item_view e.now) l.entries.items
    ++ flat_map (λ es. es) (map (λ c. map match_item_view c.items) (drop l.group-index l.groups))
