use Rattle.std.proofs.Common.{◌≡◌, map, drop}
use Rattle.std.specs.Prelude.{flat_map}
use Rattle.lalrpop_grammar.specs.Views.{match_item_view}
use Rattle.lalrpop_norm_prevalidate.specs.Names.{first_reserved, names_in_group}
use Rattle.lalrpop_norm_prevalidate.proofs.names.reserved_in_groups.Given as goal

abbrev pub invariant-loop-group : goal.invariant-loop-group
invariant-loop-group l =
    first_reserved l.prefix (flat_map names_in_group (map (λ c. map match_item_view c.items) (drop l.group-index l.groups)))
    ≡ first_reserved l.prefix (flat_map names_in_group (map (λ c. map match_item_view c.items) l.groups))
